-- A container at the top: it begins a block, but for an item that goes on an open list. Assumes nothing.
use mathlib.Core.Path.{◌≡◌, refl, sym, ap, subst, ◌∙◌}
use mathlib.Core.Logic.{◌⊎◌, inl, inr}
use mathlib.Core.Bool.{Bool, true, false}
use mathlib.Core.List.{List, [], ◌∷◌, ◌++◌, append_assoc}
use Prim.Native.Nat.{ℕ, suc, ◌-◌, ◌≤◌, ◌<◌, min}
use native.Mathlib.Omega.{arith}
use lib.Dec.{eqb}
use lib.ListN.{length}
use borrow.Author.Tests.{eqb-true, eqb-false, eq-eqb}
use Rattle.lines.specs.Lines.{Span}
use Rattle.measure.specs.Continue.{kind_num}
use Rattle.events.specs.State.{State, with_attr, with_spare, with_at}
use Rattle.events.specs.declared.Event.{Event}
use Rattle.events.specs.declared.Node.{Node}
use Rattle.lists.specs.declared.OpenList.{OpenList}
use Rattle.walk.specs.Fields.{is_container}
use Rattle.walk.specs.Leaf.{node, pair_node}
use Rattle.walk.specs.Tree.{strip_lines, container_node, container_of, attr_of}
use Rattle.walk.specs.declared.Met.{Met}
use Rattle.tops.specs.Tops.{is_around, open_of, line_start, starts_from}
use Rattle.theorems.proofs.Proper.{of-pick}
use Rattle.theorems.proofs.Nests.{Whole, Frame, flat}
use Rattle.theorems.proofs.WholeLaws.{closing}
use Rattle.theorems.proofs.Trees.{Fit}
use Rattle.theorems.proofs.ListTree.{alike-count}
use Rattle.theorems.proofs.TreeLevel.{Bare, Listing, Walked}
use Rattle.theorems.proofs.TreeOpen.{Listed}
use Rattle.theorems.proofs.TreeContainer.{container-num, no-attributes, Contained, item-walks, other-walks}
use Rattle.theorems.proofs.Tops.{open_all, Shows, TopBare, TopListing, TopGrows}
use Rattle.theorems.proofs.TopLaws.{open-append, starts-append, whole-inside, shows-enter, shows-whole, shows-block, shows_alike, arounds-alike}
use Rattle.theorems.proofs.TopLevelLaws.{bare-beside-tops, grows-beside-tops}
use Rattle.theorems.proofs.TopReady.{list-not-around}

-- ---- whole events behind what is open
module _ (text : List ℕ) (k h : ℕ) (xs : List Event) (l : h ≤ 100) (e : open_all 0 xs ≡ suc k) where
  quiet-behind : (ys : List Event) → Whole h ys → (starts_from text 0 (xs ++ ys) ≡ starts_from text 0 xs ++ []) × (open_all 0 (xs ++ ys) ≡ suc k)
  quiet-behind ys w =
      let p = whole-inside text h ys l w k in (
        starts-append text 0 xs ys ∙ ap (λ (n : ℕ). starts_from text 0 xs ++ starts_from text n ys) e ∙ ap (λ (v : List ℕ). starts_from text 0 xs ++ v) p.0,
        open-append 0 xs ys ∙ ap (λ (n : ℕ). open_all n ys) e ∙ p.1,
      )

  -- others in their place
  shows-others : (ss : List ℕ) (n : ℕ) (ys zs : List Event) → Whole h ys → Whole h zs → Shows text ss n (xs ++ ys) → Shows text ss n (xs ++ zs)
  shows-others ss n ys zs v w s =
      let p = quiet-behind ys v in
      let q = quiet-behind zs w in
      record { starts = q.0 ∙ sym p.0 ∙ s.starts; opn = q.1 ∙ sym p.1 ∙ s.opn }

-- ---- a container's node
above : (k n : ℕ) → n ≤ k → (k ≡ n → ⊥) → n < k
above k n p q = omega (arith, p, q)

-- of one that is no item
container-node : (text : List ℕ) (m : Met) (line : ℕ) → is_container m.kind ≡ true → (kind_num m.kind ≡ 9 → ⊥)
    → (is_around (container_node text m line).node ≡ false) × ((container_node text m line).start ≡ m.start)
unfolding container_node is_around
container-node text m line c e =
    let k = kind_num m.kind in
    let P : Node → Type 0 = λ x. (is_around x.node ≡ false) × (x.start ≡ m.start) in
    of-pick P (eqb k 6) (pair_node m line 3) _ (λ i. (refl, refl))
    (λ i. of-pick P (eqb k 7) (pair_node m line 11) _ (λ j. (refl, refl))
    (λ j. of-pick P (eqb k 8) (node 2 m.start m.end 0 0 0 0) _ (λ h. (refl, refl))
    (λ h. let p = container-num m.kind c in absurd (omega (arith, p.1, above k 9 (above k 8 (above k 7 (above k 6 p.0 (eqb-false k 6 i)) (eqb-false k 7 j)) (eqb-false k 8 h)) e)))))

-- ---- an open list
module _ (text : List ℕ) (left : ℕ) (s : State) (a : Listing text true [] [] left s) where
  abbrev before : List Event
  before = flat a.frames ++ a.frame.before

  abbrev enter : Event
  enter = a.frame.enter

  list-flat : before ++ (enter ∷ []) ≡ flat (a.frame ∷ a.frames)
  unfolding flat
  list-flat = append_assoc (flat a.frames) a.frame.before (enter ∷ [])

  list_open : open_all 0 (flat (a.frame ∷ a.frames)) ≡ suc (open_all 0 before)
  unfolding open_all open_of
  list_open = ap (open_all 0) (sym list-flat) ∙ open-append 0 before (enter ∷ []) ∙ rw (list-not-around text left s a, eq-eqb enter.role 1 a.tree.frames.0.role) (omega arith)

-- ---- an item that begins a list
begins-tops : (text ss : List ℕ) (left pos : ℕ) (s r : State) (b : TopBare text ss left s) → Listed text true [] [] left pos s (inl b.bare) r
    → TopListing text (ss ++ (line_start text pos ∷ [])) left r
begins-tops text ss left pos s r b l =
    let a = l.listing in
    let k = b.bare in
    let g = l.goes in
    let fs = a.frame ∷ a.frames in
    let i = ss ++ (line_start text pos ∷ []) in
    let u = shows_alike text ss 0 k.frames a.frames k.behind g.2 b.shows in
    let v = subst (λ (ys : List Event). Shows text ss 0 (flat a.frames ++ ys)) (sym g.0) u in
    let w = shows-enter text ss (before text left r a) (enter text left r a) a.tree.frames.0.role (list-not-around text left r a) v in
    let x = subst (λ (p : ℕ). Shows text (ss ++ (line_start text p ∷ [])) 1 (before text left r a ++ (enter text left r a ∷ []))) g.1 w in
    let y = subst (λ (xs : List Event). Shows text i 1 xs) (list-flat text left r a) x in
    record { listing = a; arounds = arounds-alike k.frames a.frames g.2 b.arounds; shows = shows-whole text i 0 (100 - length fs) (flat fs) a.behind (omega arith) a.tree.whole y }

-- ---- an item that goes on one
goes-tops : (text ss : List ℕ) (left pos : ℕ) (s r : State) (b : TopListing text ss left s) → Listed text true [] [] left pos s (inr b.listing) r → TopListing text ss left r
goes-tops text ss left pos s r b l =
    let a = l.listing in
    let k = b.listing in
    let fs = a.frame ∷ a.frames in
    let h = 100 - length fs in
    let n = alike-count (k.frame ∷ k.frames) fs l.goes in
    let v = subst (λ (m : ℕ). Whole (100 - m) k.behind) (sym n) k.tree.whole in
    let u = shows_alike text ss 1 (k.frame ∷ k.frames) fs k.behind l.goes b.shows in
    record {
      listing = a;
      arounds = arounds-alike k.frames a.frames l.goes.2 b.arounds;
      shows = shows-others text (open_all 0 (before text left r a)) h (flat fs) (omega arith) (list_open text left r a) ss 1 k.behind a.behind v a.tree.whole u;
    }

-- ---- no item
other-tops : (text ss : List ℕ) (m : Met) (line left : ℕ) (s r : State) (b : TopBare text ss left s) → is_container m.kind ≡ true → (kind_num m.kind ≡ 9 → ⊥)
    → Contained text m line true [] [] left s b.bare r → TopBare text (ss ++ (line_start text m.start ∷ [])) left r
other-tops text ss m line left s r b c e k =
    let fs = k.bare.frames in
    let q = k.blocked in
    let x = q.enter in
    let g = b.bare.behind in
    let n = container-node text m line c e in
    let ws = x ∷ (q.inner ++ (closing x m.from m.to ∷ [])) in
    let u = shows_alike text ss 0 b.bare.frames fs g k.alike b.shows in
    let v = shows-block text ss 100 (flat fs ++ g) q.inner x (closing x m.from m.to) (omega arith) q.role (ap is_around q.node ∙ n.0) refl refl q.whole u in
    let w = subst (λ (p : ℕ). Shows text (ss ++ (line_start text p ∷ [])) 0 ((flat fs ++ g) ++ ws)) (q.start ∙ n.1) v in
    record {
      bare = k.bare;
      arounds = arounds-alike b.bare.frames fs k.alike b.arounds;
      shows = subst (λ (xs : List Event). Shows text (ss ++ (line_start text m.start ∷ [])) 0 xs) (append_assoc (flat fs) g ws ∙ ap (λ (ys : List Event). flat fs ++ ys) (sym q.is)) w;
    }

-- ---- every container
pub container-tops : (text : List ℕ) (inner : List Span → State → State) (n : ℕ) (ss : List ℕ) (m : Met) (line : ℕ) (ls : List Span) (at w : ℕ) (a : State)
    → Fit text m line → is_container m.kind ≡ true
    → ((own' : List Frame) (os' : List OpenList) (x : State) → Bare text false own' os' n x → (inner (strip_lines text m.kind (m.end - line) ls) x).number ≡ 0
    → Walked text false own' os' n x (inner (strip_lines text m.kind (m.end - line) ls) x))
    → TopGrows text ss (suc n) a → ((kind_num m.kind ≡ 9 → ⊥) → TopBare text ss (suc n) a)
    → (container_of text inner n m line ls a).number ≡ 0
    → let r = with_at at (attr_of m w (container_of text inner n m line ls a)) in
    TopGrows text (ss ++ (line_start text m.start ∷ [])) (suc n) r ⊎ TopListing text ss (suc n) r
unfolding container_of
container-tops text inner n ss m line ls at w a t c walks h bare z = rw (no-attributes m.kind c) (by-case (eqb (kind_num m.kind) 9) refl)
  where
    r : State
    r = with_spare (min n a.spare) a

    done : State
    done = with_at at (with_attr 0 (container_of text inner n m line ls a))

    item : kind_num m.kind ≡ 9 → TopGrows text ss (suc n) r → TopGrows text (ss ++ (line_start text m.start ∷ [])) (suc n) done ⊎ TopListing text ss (suc n) done
    item e (inl b) = inl (inr (begins-tops text ss (suc n) m.start r done b (item-walks text inner n m line ls t walks true [] [] at r e (inl b.bare) z)))
    item e (inr l) = inr (goes-tops text ss (suc n) m.start r done l (item-walks text inner n m line ls t walks true [] [] at r e (inr l.listing) z))

    by-case : (b : Bool) → eqb (kind_num m.kind) 9 ≡ b → TopGrows text (ss ++ (line_start text m.start ∷ [])) (suc n) done ⊎ TopListing text ss (suc n) done
    by-case true e = item (eqb-true (kind_num m.kind) 9 e) (grows-beside-tops text ss (suc n) a r refl refl (refl, refl, refl) h)
    by-case false e =
        let f = eqb-false (kind_num m.kind) 9 e in
        let b = bare-beside-tops text ss (suc n) a r refl refl (refl, refl, refl) (bare f) in
        inl (inl (other-tops text ss m line (suc n) r done b c f (other-walks text inner n m line ls t walks true [] [] at r f b.bare z)))
