-- The top-level blocks before a block's own events: the list at the top ends or goes on, the innermost is loosened, and no block begins. Assumes nothing.
use mathlib.Core.Path.{◌≡◌, refl, sym, subst, ap, ◌∙◌}
use mathlib.Core.Logic.{inl, inr}
use mathlib.Core.Bool.{true, false}
use mathlib.Core.List.{List, [], ◌∷◌, ◌++◌, append_assoc}
use Prim.Native.Nat.{ℕ, suc, ◌+◌, ◌≤◌}
use native.Mathlib.Omega.{arith}
use lib.Dec.{leb}
use lib.ListN.{length}
use Rattle.kinds.specs.declared.Kind.{Kind}
use Rattle.measure.specs.Continue.{kind_num}
use Rattle.events.specs.State.{State}
use Rattle.events.specs.declared.Event.{Event}
use Rattle.lists.specs.Lists.{close_list_of}
use Rattle.lists.specs.declared.OpenList.{OpenList}
use Rattle.markers.specs.declared.Marker.{Marker}
use Rattle.walk.specs.Tree.{count_of, admit_of, settle_of, loosen_of, ready_of}
use Rattle.walk.specs.declared.Met.{Met}
use Rattle.walk.specs.declared.Limits.{Limits}
use Rattle.tops.specs.Tops.{is_around}
use Rattle.theorems.proofs.Proper.{of-pick}
use Rattle.theorems.proofs.Nests.{Frame, flat}
use Rattle.theorems.proofs.WholeLaws.{closing}
use Rattle.theorems.proofs.Trees.{Fit}
use Rattle.theorems.proofs.FineNodes.{marked-num}
use Rattle.theorems.proofs.ListTree.{alike_refl, Gone, loosen-tree, Closed, typed-first}
use Rattle.theorems.proofs.TreeLevel.{Listing}
use Rattle.theorems.proofs.TreeReady.{closed-bare, close-listing, listing-gone, settle-ways, settle-none, ready-ways}
use Rattle.theorems.proofs.Tops.{Shows, TopBare, TopListing, TopGrows}
use Rattle.theorems.proofs.TopLaws.{not-around, shows-exit, shows_alike}
use Rattle.theorems.proofs.TopLevelLaws.{bare-as-tops, listing-as-tops, grows-beside-tops}

-- ---- a list that ends
-- a list is no node around blocks
pub list-not-around : (text : List ℕ) (left : ℕ) (s : State) (b : Listing text true [] [] left s) → is_around b.frame.enter.node ≡ false
list-not-around text left s b =
    let n = typed-first b.frame b.frames b.list b.this b.depth in
    let k = marked-num b.list.start b.this.start in
    not-around b.frame.enter.node (λ e. omega (arith, n, k.0, e)) (λ e. omega (arith, n, k.1, e))

pub shows-closed : (text ss : List ℕ) (n pos : ℕ) (f : Frame) (fs : List Frame) (g : List Event) (os : List OpenList) (s r : State) (c : Closed text pos f fs g os s r)
    → is_around f.enter.node ≡ false → Shows text ss (suc n) (flat (f ∷ fs) ++ g) → Shows text ss n (flat fs ++ (f.before ++ (c.enter ∷ (g ++ (closing c.enter pos pos ∷ [])))))
unfolding flat
shows-closed text ss n pos f fs g os s r c k p =
    let x = closing c.enter pos pos in
    let e : Frame = record { before = f.before; enter = c.enter } in
    let q = shows_alike text ss (suc n) (f ∷ fs) (e ∷ fs) g (refl, c.node, alike_refl fs, c.role, c.start) p in
    let i : (flat (e ∷ fs) ++ g) ++ (x ∷ []) ≡ flat fs ++ (f.before ++ (c.enter ∷ (g ++ (x ∷ [])))) = simp append_assoc in
    subst (λ (l : List Event). Shows text ss n l) i (shows-exit text ss n (flat (e ∷ fs) ++ g) x refl (ap is_around c.node ∙ k) q)

module _ (text ss : List ℕ) (left : ℕ) where
  close-tops : (pos : ℕ) (s : State) → pos ≤ length text → TopListing text ss left s → (close_list_of pos s).number ≡ 0 → TopBare text ss left (close_list_of pos s)
  unfolding closed-bare
  close-tops pos s h b z =
      let l = b.listing in
      let r = close_list_of pos s in
      let c = close-listing text true [] [] left pos s h l z in
      record {
        bare = closed-bare text true [] [] left s r pos l c;
        arounds = b.arounds;
        shows = shows-closed text ss 0 pos l.frame l.frames l.behind [] s r c (list-not-around text left s l) b.shows;
      }

  -- ---- the list at the top settled
  gone-tops : (s r : State) (b : TopListing text ss left s) (p q : Marker) → (let l = b.listing in Gone text (l.frame ∷ l.frames) l.behind l.list [] p q s r) → TopListing text ss left r
  unfolding listing-gone
  gone-tops s r b p q y = record { listing = listing-gone text true [] [] left s r b.listing p q y; arounds = b.arounds; shows = b.shows }

  abbrev Settled : Kind → State → Type 0
  Settled k r = TopGrows text ss left r × ((kind_num k ≡ 9 → ⊥) → TopBare text ss left r)

  settle-tops : (m : Met) (line : ℕ) (s : State) → Fit text m line → TopGrows text ss left s → (settle_of m s).number ≡ 0 → Settled m.kind (settle_of m s)
  settle-tops m line s f (inl b) z = rw (settle-none text true [] [] left m s b.bare) (inl b, λ i. b)
  settle-tops m line s f (inr b) z =
      settle-ways text true [] [] left (Settled m.kind) m s b.listing
      (λ z. let c = close-tops m.start s (omega (arith, f.start, f.end)) b z in (inl c, λ i. c))
      (λ p q r i y. (inr (gone-tops s r b p q y), λ j. absurd (j i))) line f z

  -- ---- the other steps
  count-tops : (at n : ℕ) (s : State) → TopGrows text ss left s → TopGrows text ss left (count_of at n s)
  unfolding count_of
  count-tops at n s g =
      of-pick (TopGrows text ss left) (leb 18446744073709551616 (s.looks + n)) _ _
      (λ p. grows-beside-tops text ss left s _ refl refl (refl, refl, refl) g)
      (λ p. grows-beside-tops text ss left s _ refl refl (refl, refl, refl) g)

  loosen-bare-tops : (m : Met) (s : State) → TopBare text ss left s → (loosen_of m s).number ≡ 0 → TopBare text ss left (loosen_of m s)
  loosen-bare-tops m s b z =
      let a = b.bare in
      let l = loosen-tree text a.frames a.behind s a.tree m [] tt a.lst z in
      bare-as-tops text ss left s (loosen_of m s) l.es b l.tree l.alike l.besides

  loosen-tops : (m : Met) (s : State) → TopGrows text ss left s → (loosen_of m s).number ≡ 0 → TopGrows text ss left (loosen_of m s)
  loosen-tops m s (inl b) z = inl (loosen-bare-tops m s b z)
  loosen-tops m s (inr b) z =
      let a = b.listing in
      let l = loosen-tree text (a.frame ∷ a.frames) a.behind s a.tree m (a.list ∷ []) (a.this, tt) a.lst z in
      inr (listing-as-tops text ss left s (loosen_of m s) l.es b l.tree l.alike l.besides)

-- ---- all four steps
pub ready-tops : (text : List ℕ) (lim : Limits) (left : ℕ) (ss : List ℕ) (m : Met) (line at n : ℕ) (s : State) → Fit text m line → TopGrows text ss left s
    → (ready_of lim left true m at n s).number ≡ 0
    → TopGrows text ss left (ready_of lim left true m at n s) × ((kind_num m.kind ≡ 9 → ⊥) → TopBare text ss left (ready_of lim left true m at n s))
ready-tops text lim left ss m line at n s f g =
    let b = admit_of lim left true m (count_of at n s) in
    let c = settle_of m b in
    ready-ways (Settled text ss left m.kind) lim left true m at n s (λ d zc z.
    let h = subst (λ (r : State). TopGrows text ss left r) (sym d.is) (count-tops text ss left at n s g) in
    let e = settle-tops text ss left m line b f h zc in
    (loosen-tops text ss left m c e.0 z, λ i. loosen-bare-tops text ss left m c (e.1 i) z))
