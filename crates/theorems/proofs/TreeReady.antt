-- The tree before a block's own events: the block is admitted, the list at its level goes on or ends, the innermost list is loosened. Assumes nothing.
use mathlib.Core.Path.{◌≡◌, refl, sym, ap, subst, ◌∙◌}
use mathlib.Core.Logic.{inl, inr}
use mathlib.Core.Bool.{Bool, true, false, true≢false}
use mathlib.Core.List.{List, [], ◌∷◌, ◌++◌}
use Prim.Native.Nat.{ℕ, ◌+◌, ◌-◌, ◌≤◌, ◌<◌}
use native.Mathlib.Omega.{arith}
use lib.Dec.{eqb, leb, ltb}
use lib.ListN.{length}
use borrow.Author.Tests.{leb-false, ltb-false, eqb-true, eqb-false, eq-eqb}
use Rattle.classes.specs.Choice.{pick, both}
use Rattle.markers.specs.Lists.{continues_of}
use Rattle.markers.specs.declared.Marker.{Marker}
use Rattle.markers.specs.declared.Continued.{Continued}
use Rattle.std.specs.Prelude.{Option, Some, None}
use Rattle.kinds.specs.declared.Kind.{Kind}
use Rattle.measure.specs.Continue.{kind_num, level_of}
use Rattle.events.specs.State.{State, refuse_of, go}
use Rattle.lists.specs.Lists.{last_list_of, close_list_of}
use Rattle.lists.specs.declared.OpenList.{OpenList}
use Rattle.walk.specs.Fields.{marker_in, is_container}
use Rattle.walk.specs.Leaf.{kept_of}
use Rattle.walk.specs.Tree.{count_of, admit_of, go_on, settle_of, loosen_of, ready_of}
use Rattle.walk.specs.declared.Met.{Met}
use Rattle.walk.specs.declared.Limits.{Limits}
use Rattle.theorems.proofs.LevelSteps.{passed, chosen, same_count, same-loosen}
use Rattle.theorems.proofs.Proper.{Marked, of-pick}
use Rattle.theorems.proofs.Nests.{Frame}
use Rattle.theorems.proofs.WholeLaws.{closing}
use Rattle.theorems.proofs.Trees.{Led, Fit}
use Rattle.theorems.proofs.FineNodes.{item-marked, marked-num}
use Rattle.theorems.proofs.ListTree.{alike_refl, typed-more, led-append, gone_on, Gone, go-on-tree, go-off, loosen-tree, Closed, typed-first, close-list-tree}
use Rattle.theorems.proofs.TreeLevel.{Bare, Listing, Grows, Ready}
use Rattle.theorems.proofs.TreeLevelLaws.{none_here, one-here, stands_on, bare-as, listing-as, grows-beside}

-- ---- a block that is admitted
not-second : (a b : Bool) → both a b ≡ false → a ≡ true → b ≡ false
not-second true b e t = e
not-second false b e t = absurd (true≢false (sym t))

pub record Admitted (lim : Limits) (left : ℕ) (top : Bool) (k : Kind) (s r : State) : Type 0 where
  pub is : r ≡ s
  pub level : kind_num k ≡ 5 → level_of k ≤ 65535
  pub more : is_container k ≡ true → left ≡ 0 → ⊥
  pub kept : top ≡ true → kind_num k ≡ 5 → kept_of s.sec (level_of k) (length s.sec) < lim.sections

pub admit-tree : (lim : Limits) (left : ℕ) (top : Bool) (m : Met) (s : State) → (admit_of lim left top m s).number ≡ 0 → Admitted lim left top m.kind s (admit_of lim left top m s)
unfolding admit_of
admit-tree lim left top m s =
    let k = m.kind in
    let h = eqb (kind_num k) 5 in
    let kept = kept_of s.sec (level_of k) (length s.sec) in
    let many = leb lim.sections kept in
    let full = both h (both top many) in
    let P : State → Type 0 = λ r. r.number ≡ 0 → Admitted lim left top k s r in
    of-pick P (both h (ltb 65535 (level_of k))) (refuse_of 5 s) (pick (both (is_container k) (eqb left 0)) (refuse_of 3 s) (pick full (refuse_of 4 s) s)) (λ p z. absurd (omega arith))
    (λ p. of-pick P (both (is_container k) (eqb left 0)) (refuse_of 3 s) (pick full (refuse_of 4 s) s) (λ q z. absurd (omega arith))
    (λ q. of-pick P full (refuse_of 4 s) s (λ r z. absurd (omega arith))
    (λ r z. record {
      is = refl;
      level = λ e. ltb-false 65535 (level_of k) (not-second h (ltb 65535 (level_of k)) p (eq-eqb (kind_num k) 5 e));
      more = λ e. eqb-false left 0 (not-second (is_container k) (eqb left 0) q e);
      kept = λ t e. leb-false lim.sections kept (not-second top many (not-second h (both top many) r (eq-eqb (kind_num k) 5 e)) t);
    })))

module _ (text : List ℕ) (top : Bool) (own : List Frame) (os : List OpenList) (left : ℕ) where
  pub count-grows : (at n : ℕ) (s : State) → Grows text top own os left s → Grows text top own os left (count_of at n s)
  unfolding count_of
  count-grows at n s g =
      of-pick (Grows text top own os left) (leb 18446744073709551616 (s.looks + n)) _ _
      (λ p. grows-beside text top own os left s _ refl refl (refl, refl, refl) g)
      (λ p. grows-beside text top own os left s _ refl refl (refl, refl, refl) g)

  -- ---- the innermost list is loosened
  loosen-bare : (m : Met) (s : State) → Bare text top own os left s → (loosen_of m s).number ≡ 0 → Bare text top own os left (loosen_of m s)
  loosen-bare m s b z =
      let l = loosen-tree text b.frames b.behind s b.tree m os b.typed b.lst z in
      bare-as text top own os left s (loosen_of m s) l.es b l.tree l.alike l.besides

  loosen-listing : (m : Met) (s : State) → Listing text top own os left s → (loosen_of m s).number ≡ 0 → Listing text top own os left (loosen_of m s)
  loosen-listing m s b z =
      let fs = b.frame ∷ b.frames in
      let l = loosen-tree text fs b.behind s b.tree m (b.list ∷ os) (b.this, typed-more b.frame b.frames os b.typed) b.lst z in
      listing-as text top own os left s (loosen_of m s) l.es b l.tree l.alike l.besides

  loosen-grows : (m : Met) (s : State) → Grows text top own os left s → (loosen_of m s).number ≡ 0 → Grows text top own os left (loosen_of m s)
  loosen-grows m s (inl b) z = inl (loosen-bare m s b z)
  loosen-grows m s (inr b) z = inr (loosen-listing m s b z)

  -- ---- the list here ends
  -- a list's Enter is no paragraph's
  pub close-led : (s r : State) (pos : ℕ) (b : Listing text top own os left s) → (c : Closed text pos b.frame b.frames b.behind os s r)
      → Led (100 - length b.frames) (b.frame.before ++ (c.enter ∷ (b.behind ++ (closing c.enter pos pos ∷ []))))
  close-led s r pos b c =
      let n = typed-first b.frame b.frames b.list b.this b.depth in
      let k = marked-num b.list.start b.this.start in
      led-append (100 - length b.frames) b.frame.before (c.enter ∷ (b.behind ++ (closing c.enter pos pos ∷ []))) b.led c.whole
      (λ z. inl (λ p e. omega (arith, n, k.1, c.node, e)))

  unfoldable pub closed-bare : (s r : State) (pos : ℕ) (b : Listing text top own os left s) → Closed text pos b.frame b.frames b.behind os s r → Bare text top own os left r
  closed-bare s r pos b c = record {
    frames = b.frames;
    behind = b.frame.before ++ (c.enter ∷ (b.behind ++ (closing c.enter pos pos ∷ [])));
    tree = c.tree;
    stands = stands_on top own b.frames b.frames left s r (alike_refl b.frames) c.sec b.stands;
    typed = b.typed;
    outside = b.outside;
    lst = c.lst;
    led = close-led s r pos b c;
    attrs = λ p. inl (c.attr ∙ b.attr p);
  }

  pub close-listing : (pos : ℕ) (s : State) → pos ≤ length text → (b : Listing text top own os left s) → (close_list_of pos s).number ≡ 0
      → Closed text pos b.frame b.frames b.behind os s (close_list_of pos s)
  close-listing pos s h b =
      let t = b.stands in
      close-list-tree text pos b.frame b.frames b.behind b.list os s h b.tree b.this b.depth t.some (omega (arith, t.room)) b.lst

  -- ---- the list here goes on
  unfoldable pub listing-gone : (s r : State) (b : Listing text top own os left s) (p q : Marker) → Gone text (b.frame ∷ b.frames) b.behind b.list os p q s r → Listing text top own os left r
  listing-gone s r b p q y = record {
    frame = b.frame;
    frames = b.frames;
    behind = b.behind;
    list = gone_on b.list p q;
    tree = y.tree;
    stands = stands_on top own b.frames b.frames left s r (alike_refl b.frames) (ap (λ (r : State). r.sec) y.is) b.stands;
    typed = b.typed;
    outside = b.outside;
    this = y.typed;
    depth = b.depth;
    lst = y.lst;
    led = b.led;
    attr = λ t. ap (λ (r : State). r.attr) y.is ∙ b.attr t;
  }

  -- ---- the list here settled
  -- it ends, or the block is an item and it goes on
  module _ (P : State → Type 0) (m : Met) (s : State) (b : Listing text top own os left s)
      (close : (close_list_of m.start s).number ≡ 0 → P (close_list_of m.start s))
      (on : (p q : Marker) (r : State) → kind_num m.kind ≡ 9 → Gone text (b.frame ∷ b.frames) b.behind b.list os p q s r → P r) where
    item-ways : (x : Option Continued) → kind_num m.kind ≡ 9 → Marked (marker_in m.kind) → continues_of b.list.prev (marker_in m.kind) ≡ x
        → let r = go_on (last_list_of s) m.start (continues_of (last_list_of s).prev (marker_in m.kind)) s in r.number ≡ 0 → P r
    item-ways None i k e z =
        let q = go-off m.start (marker_in m.kind) (b.frame ∷ b.frames) b.list os s b.this b.lst e in
        subst P (sym q) (close (ap (λ (r : State). r.number) (sym q) ∙ z))
    item-ways (Some c) i k e z =
        on c.prev c.next _ i (go-on-tree text m.start (marker_in m.kind) c.prev c.next (b.frame ∷ b.frames) b.behind b.list os s b.tree b.this b.lst k e)

    pub settle-ways : (line : ℕ) → Fit text m line → (settle_of m s).number ≡ 0 → P (settle_of m s)
    unfolding settle_of
    settle-ways line f =
        let k = m.kind in
        let o = last_list_of s in
        rw (one-here (b.frame ∷ b.frames) b.behind b.list os s b.tree.holds b.depth b.lst).0
        (chosen (eqb (kind_num k) 9) (go_on o m.start (continues_of o.prev (marker_in k)) s) (close_list_of m.start s) P
        (λ e. let i = eqb-true (kind_num k) 9 e in item-ways (continues_of b.list.prev (marker_in k)) i (item-marked (length text) k i f.proper) refl)
        (λ e. close))

  abbrev Settled : Kind → State → State → Type 0
  Settled k s r = Grows text top own os left r × ((kind_num k ≡ 9 → ⊥) → Bare text top own os left r) × (r.sec ≡ s.sec)

  settle-listing : (m : Met) (line : ℕ) (s : State) → Fit text m line → Listing text top own os left s → (settle_of m s).number ≡ 0
      → Settled m.kind s (settle_of m s)
  settle-listing m line s f b =
      settle-ways (Settled m.kind s) m s b
      (λ z.
      let c = close-listing m.start s (omega (arith, f.start, f.end)) b z in
      let d = closed-bare s (close_list_of m.start s) m.start b c in
      (inl d, λ i. d, c.sec))
      (λ p q r i y. (inr (listing-gone s r b p q y), λ j. absurd (j i), ap (λ (r : State). r.sec) y.is)) line f

  pub settle-none : (m : Met) (s : State) → Bare text top own os left s → settle_of m s ≡ s
  unfolding settle_of
  settle-none m s b = rw (none_here b.frames b.behind os s b.tree.holds b.outside b.lst).0

  pub settle-grows : (m : Met) (line : ℕ) (s : State) → Fit text m line → Grows text top own os left s → (settle_of m s).number ≡ 0
      → Settled m.kind s (settle_of m s)
  settle-grows m line s f (inl b) z = rw (settle-none m s b) (inl b, λ i. b, refl)
  settle-grows m line s f (inr b) z = settle-listing m line s f b z

-- ---- all four steps
pub ready-ways : (P : State → Type 0) (lim : Limits) (left : ℕ) (top : Bool) (m : Met) (at n : ℕ) (s : State)
    → (let b = admit_of lim left top m (count_of at n s) in
    let c = settle_of m b in Admitted lim left top m.kind (count_of at n s) b → c.number ≡ 0 → (loosen_of m c).number ≡ 0 → P (loosen_of m c))
    → (ready_of lim left top m at n s).number ≡ 0 → P (ready_of lim left top m at n s)
unfolding ready_of
ready-ways P lim left top m at n s h =
    let a = count_of at n s in
    let b = admit_of lim left top m a in
    passed a (λ a. go (admit_of lim left top m a) (λ b. go (settle_of m b) (loosen_of m))) P (λ za.
    passed b (λ b. go (settle_of m b) (loosen_of m)) P (λ zb.
    passed (settle_of m b) (loosen_of m) P (λ zc z. h (admit-tree lim left top m a zb) zc z)))

pub ready-tree : (text : List ℕ) (lim : Limits) (left : ℕ) (top : Bool) (own : List Frame) (os : List OpenList) (m : Met) (line at n : ℕ) (s : State)
    → Fit text m line → Grows text top own os left s
    → (ready_of lim left top m at n s).number ≡ 0
    → Ready text top own os left m.kind s (ready_of lim left top m at n s)
ready-tree text lim left top own os m line at n s f g =
    let b = admit_of lim left top m (count_of at n s) in
    let c = settle_of m b in
    ready-ways (λ r. Ready text top own os left m.kind s r) lim left top m at n s (λ d zc z.
    let h = subst (λ (r : State). Grows text top own os left r) (sym d.is) (count-grows text top own os left at n s g) in
    let e = settle-grows text top own os left m line b f h zc in
    record {
      grows = loosen-grows text top own os left m c e.0 z;
      bare = λ i. loosen-bare text top own os left m c (e.1 i) z;
      level = d.level;
      more = d.more;
      sec = (same-loosen m c).2 ∙ e.2 ∙ ap (λ (r : State). r.sec) d.is ∙ (same_count at n s).2;
    })
