-- Refusal 7 does not come from the steps on lists: one ends, goes on, is loosened, begins. Assumes nothing.
use mathlib.Core.Path.{◌≡◌, refl, sym, ap, ap₂, subst, ◌∙◌}
use mathlib.Core.Logic.{inl, inr}
use mathlib.Core.Bool.{Bool, not}
use mathlib.Core.List.{List, [], ◌∷◌, ◌++◌}
use Prim.Native.Nat.{ℕ, suc, ◌+◌, ◌-◌, ◌*◌, ◌≤◌}
use native.Mathlib.Omega.{arith}
use lib.Dec.{eqb, leb, ltb}
use lib.ListN.{length, get_or, length-append}
use borrow.Author.Tests.{eqb-true, eqb-false, leb-true, leb-false, ltb-true}
use Rattle.classes.specs.Choice.{both}
use Rattle.markers.specs.Lists.{continues_of}
use Rattle.markers.specs.declared.Marker.{Marker}
use Rattle.markers.specs.declared.Continued.{Continued}
use Rattle.std.specs.Prelude.{Option, Some, None}
use Rattle.measure.specs.Continue.{kind_num}
use Rattle.events.specs.State.{State, refuse_of, go}
use Rattle.events.specs.Events.{width, patch_of, whole_at, enter_of, exit_of}
use Rattle.events.specs.declared.Event.{Event}
use Rattle.lists.specs.Lists.{list_words, push_list_of, last_list_of, set_list_of, pop_list_of, retype_of, end_of, close_of, close_list_of}
use Rattle.lists.specs.declared.OpenList.{OpenList}
use Rattle.walk.specs.Fields.{marker_in}
use Rattle.walk.specs.Tree.{go_on, settle_of, loose_at, loosen_of, list_node, new_list, open_list}
use Rattle.walk.specs.declared.Met.{Met}
use Rattle.theorems.proofs.LevelLists.{last-depth}
use Rattle.theorems.proofs.Proper.{of-pick}
use Rattle.theorems.proofs.Nests.{Frame, flat, Holds}
use Rattle.theorems.proofs.HoldLaws.{holds-count, opened-place}
use Rattle.theorems.proofs.Trees.{Tree, Typed, AllTyped, lists_words}
use Rattle.theorems.proofs.TreeSteps.{enter-besides}
use Rattle.theorems.proofs.ListTree.{typed-place, typed-more, typed-first, last-typed, retype-tree}
use Rattle.theorems.proofs.TreeLevel.{Listing, Grows}
use Rattle.theorems.proofs.TreeLevelLaws.{none_here, one-here}
use Rattle.theorems.proofs.Never.{Sure, sure-go, retype-sure, enter-sure, open-whole, exit-sure}

-- ---- a list that ends
pop-sure : (s : State) → Sure s → Sure (pop_list_of s)
unfolding pop_list_of
pop-sure s p = p

module _ (text : List ℕ) (pos : ℕ) (f : Frame) (fs : List Frame) (g : List Event) (o : OpenList) (os : List OpenList) (s : State)
    (t : Tree text (f ∷ fs) g s) (y : Typed (f ∷ fs) o) (d : o.depth ≡ suc (length fs)) (l : s.lst ≡ lists_words (o ∷ os)) (p : Sure s) where
  end-sure : (w : ℕ) → w ≡ width * length (flat fs ++ f.before) → Sure (end_of pos o w s)
  unfolding end_of
  end-sure w at =
      let a = retype_of w o.start s in
      let r = retype-tree text f fs g s t w at o.start (typed-first f fs o y d) y.start in
      let x : Frame = record { before = f.before; enter = r.enter } in
      let q = exit-sure pos pos x fs g a r.tree.holds r.tree.frames.0.role (retype-sure w o.start s p) in
      of-pick Sure (whole_at s.evs w) (go (exit_of pos pos a) pop_list_of) (refuse_of 7 s)
      (λ e. sure-go (exit_of pos pos a) pop_list_of q (λ z. pop-sure (exit_of pos pos a) q))
      (λ e. absurd (omega (arith, leb-false (w + 8) (length s.evs) e, at, open-whole [] f fs g s t.holds)))

  close-sure : Sure (close_of pos o s)
  unfolding close_of
  close-sure =
      let w = get_or s.opn (o.depth - 1) 0 in
      let k : o.depth - 1 ≡ length fs = omega (arith, d) in
      let n = holds-count (f ∷ fs) g s t.holds in
      let at = ap₂ (λ (x : List ℕ) (m : ℕ). get_or x m 0) t.holds.opn k ∙ opened-place [] f fs in
      of-pick Sure (eqb o.depth 0) _ _ (λ e. absurd (omega (arith, eqb-true o.depth 0 e, d)))
      (λ e. of-pick Sure (ltb (length s.opn) o.depth) _ _ (λ e. absurd (omega (arith, ltb-true (length s.opn) o.depth e, d, n))) (λ e. end-sure w at))

  pub close-list-sure : Sure (close_list_of pos s)
  unfolding close_list_of lists_words
  close-list-sure =
      of-pick Sure (eqb (length s.lst) 0) _ _
      (λ e. absurd (omega (arith, eqb-true (length s.lst) 0 e, ap (λ (v : List ℕ). length v) l, length-append (lists_words os) (list_words o))))
      (λ e. subst (λ (x : OpenList). Sure (close_of pos x s)) (sym (last-typed (f ∷ fs) o os s y l)) close-sure)

close-listing-sure : (text : List ℕ) (top : Bool) (own : List Frame) (os : List OpenList) (left pos : ℕ) (s : State) → Listing text top own os left s → Sure s → Sure (close_list_of pos s)
close-listing-sure text top own os left pos s b = close-list-sure text pos b.frame b.frames b.behind b.list os s b.tree b.this b.depth b.lst

-- ---- the list at a level
go-on-sure : (o : OpenList) (pos : ℕ) (c : Option Continued) (s : State) → Sure (close_list_of pos s) → Sure s → Sure (go_on o pos c s)
unfolding set_list_of
go-on-sure o pos None s p q = p
go-on-sure o pos (Some a) s p q = q

pub settle-sure : (text : List ℕ) (top : Bool) (own : List Frame) (os : List OpenList) (left : ℕ) (m : Met) (s : State) → Grows text top own os left s → Sure s → Sure (settle_of m s)
unfolding settle_of
settle-sure text top own os left m s (inl b) p = rw (none_here b.frames b.behind os s b.tree.holds b.outside b.lst).0 p
settle-sure text top own os left m s (inr b) p =
    let o = last_list_of s in
    let q = close-listing-sure text top own os left m.start s b p in
    rw (one-here (b.frame ∷ b.frames) b.behind b.list os s b.tree.holds b.depth b.lst).0
    (of-pick Sure (eqb (kind_num m.kind) 9) _ _ (λ e. go-on-sure o m.start (continues_of o.prev (marker_in m.kind)) s q p) (λ e. q))

-- ---- the innermost list
module _ (text : List ℕ) (fs : List Frame) (g : List Event) (s : State) (t : Tree text fs g s) (p : Sure s) where
  loose-sure : (e : ℕ) (o : OpenList) → e ≡ get_or s.opn (o.depth - 1) 0 → Typed fs o → Sure (loose_at e s)
  unfolding loose_at patch_of
  loose-sure e o q y =
      let h = subst (λ (v : List Frame). Holds v g s) y.whole t.holds in
      of-pick Sure (whole_at s.evs e) _ _
      (λ a. of-pick Sure (eqb (get_or s.evs (e + 4) 0) 1) _ _ (λ b. p) (λ b. p))
      (λ a. absurd (omega (arith, leb-false (e + 8) (length s.evs) a, q, typed-place fs g o s t.holds y, open-whole y.inner y.frame y.outer g s h)))

  loosen-tree-sure : (m : Met) (os : List OpenList) → AllTyped fs os → s.lst ≡ lists_words os → Sure (loosen_of m s)
  unfolding loosen_of lists_words
  loosen-tree-sure m [] y l =
      of-pick Sure (eqb (kind_num m.kind) 1) _ _ (λ e. p) (λ e.
      of-pick Sure (not s.blank) _ _ (λ e. p) (λ e.
      of-pick Sure (eqb (length s.lst) 0) _ _ (λ e. p) (λ e. absurd (eqb-false (length s.lst) 0 e (ap (λ (v : List ℕ). length v) l)))))
  loosen-tree-sure m (o ∷ os) y l =
      let d = last-depth s (lists_words os) o l in
      let n = holds-count fs g s t.holds in
      let k = ap (λ (v : List Frame). length v) y.0.whole ∙ length-append y.0.inner (y.0.frame ∷ y.0.outer) in
      of-pick Sure (eqb (kind_num m.kind) 1) _ _ (λ e. p) (λ e.
      of-pick Sure (not s.blank) _ _ (λ e. p) (λ e.
      of-pick Sure (eqb (length s.lst) 0) _ _ (λ e. p) (λ e.
      of-pick Sure (ltb (length s.opn) (last_list_of s).depth) _ _
      (λ e. absurd (omega (arith, ltb-true (length s.opn) (last_list_of s).depth e, d, n, k, y.0.depth))) (λ e.
      of-pick Sure (eqb (last_list_of s).depth 0) _ _ (λ e. p) (λ e.
      of-pick Sure (both (eqb (kind_num m.kind) 9) (ltb (last_list_of s).depth (length s.opn))) _ _ (λ e. p) (λ e.
      loose-sure (get_or s.opn ((last_list_of s).depth - 1) 0) o (ap (λ (i : ℕ). get_or s.opn (i - 1) 0) d) y.0))))))

pub loosen-sure : (text : List ℕ) (top : Bool) (own : List Frame) (os : List OpenList) (left : ℕ) (m : Met) (s : State) → Grows text top own os left s → Sure s → Sure (loosen_of m s)
loosen-sure text top own os left m s (inl b) p = loosen-tree-sure text b.frames b.behind s b.tree p m os b.typed b.lst
loosen-sure text top own os left m s (inr b) p =
    loosen-tree-sure text (b.frame ∷ b.frames) b.behind s b.tree p m (b.list ∷ os) (b.this, typed-more b.frame b.frames os b.typed) b.lst

-- ---- a list that begins
lists_length : (os : List OpenList) → length (lists_words os) ≡ 5 * length os
unfolding lists_words
lists_length [] = refl
lists_length (o ∷ os) = omega (arith, lists_length os, length-append (lists_words os) (list_words o))

new-list-sure : (ty : Marker) (s : State) → length s.lst ≤ 155 → Sure s → Sure (new_list ty s)
unfolding push_list_of
new-list-sure ty s l p = of-pick Sure (leb 160 (length s.lst)) _ _ (λ e. absurd (omega (arith, leb-true 160 (length s.lst) e, l))) (λ e. p)

pub open-list-sure : (text : List ℕ) (top : Bool) (own : List Frame) (os : List OpenList) (left : ℕ) (ty : Marker) (pos : ℕ) (s : State) → length os ≤ 31
    → Grows text top own os left s → Sure s → Sure (open_list ty pos s)
unfolding open_list
open-list-sure text top own os left ty pos s n (inl b) p =
    let a = enter_of (list_node ty pos) s in
    let q = enter-sure (list_node ty pos) b.frames b.behind s b.tree.holds (omega (arith, b.stands.room)) p in
    rw (none_here b.frames b.behind os s b.tree.holds b.outside b.lst).1
    (sure-go a (new_list ty) q (λ z.
    let e = ap (λ (v : List ℕ). length v) (enter-besides (list_node ty pos) s z).0 in
    new-list-sure ty a (omega (arith, e, ap (λ (v : List ℕ). length v) b.lst, lists_length os, n)) q))
open-list-sure text top own os left ty pos s n (inr a) p = rw (one-here (a.frame ∷ a.frames) a.behind a.list os s a.tree.holds a.depth a.lst).1 p
