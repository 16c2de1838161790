-- Nesting: what an event that is admitted shows, and what stands open after it. Assumes nothing.
use Prim.Native.Nat.{ℕ, zero, suc, ◌+◌, ◌-◌, ◌≤◌, ◌<◌}
use mathlib.Core.Path.{◌≡◌, refl, sym, ap, subst, ◌∙◌}
use mathlib.Core.Bool.{Bool, true, false, not}
use mathlib.Core.List.{List, [], ◌∷◌}
use native.Mathlib.Numerals.{add-one}
use native.Mathlib.Omega.{arith}
use lib.Dec.{T, eqb, leb, ltb}
use lib.ListN.{length, drop, get_or, set}
use lib.Seq.{get_or-set_same, get_or-set_other}
use borrow.Author.Tests.{eq-eqb, ne_eqb, lt-leb, ltb-true}
use Rattle.classes.specs.Choice.{pick, both}
use Rattle.classes.proofs.ChoiceLaws.{true-left, true-right}
use Rattle.events.specs.declared.Event.{Event}
use Rattle.events.specs.Names.{largest, most}
use Rattle.fields.specs.Fields.{is_listed, is_ranged}
use Rattle.nests.specs.Nesting.{Nesting, nesting, closes, is_nested, after_of, fault_of}
use Rattle.nests.specs.View.{open_by, nest_by, Admits}
use Rattle.nests.specs.declared.Nest.{Nest}

-- ---- the room of open events
pub open_length : (get : ℕ → Event) (room : List ℕ) (d : ℕ) → length (open_by get room d) ≡ d
unfolding open_by
open_length get room zero = refl
open_length get room (suc d) = ap suc (open_length get room d)

open-set : (get : ℕ → Event) (room : List ℕ) (j v d : ℕ) → d ≤ j → open_by get (set room j v) d ≡ open_by get room d
unfolding open_by
open-set get room j v zero h = refl
open-set get room j v (suc d) h = rw (get_or-set_other room j d v 0 (λ e. omega arith), open-set get room j v d (omega arith))

open-push : (get : ℕ → Event) (room : List ℕ) (v d : ℕ) → d < length room → open_by get (set room d v) (d + 1) ≡ get v ∷ open_by get room d
unfolding open_by
open-push get room v d h = rw (add-one, get_or-set_same room d v 0 h, open-set get room d v d (omega arith))

open-pop : (get : ℕ → Event) (room : List ℕ) (d : ℕ) → open_by get room (d - 1) ≡ drop 1 (open_by get room d)
unfolding open_by
open-pop get room zero = refl
open-pop get room (suc d) = let e : suc d - 1 ≡ d = omega arith in rw e

-- ---- what is wrong with an event
pub fault-none : (n : Nesting) (x : Event) → fault_of n x ≡ 0 → (is_listed x.role x.node ≡ true) × (is_ranged largest x ≡ true) × (is_nested n x ≡ true)
unfolding fault_of
fault-none n x z = by-test (both (eqb x.role 0) (eqb x.node 0)) (is_listed x.role x.node) (is_ranged largest x) (is_nested n x) z
  where
    by-test : (a b c d : Bool) → pick {A = ℕ} a 11 (pick (not b) 10 (pick (not c) 11 (pick (not d) 12 0))) ≡ 0 → (b ≡ true) × (c ≡ true) × (d ≡ true)
    by-test true b c d z = absurd (omega (arith, z))
    by-test false false c d z = absurd (omega (arith, z))
    by-test false true false d z = absurd (omega (arith, z))
    by-test false true true false z = absurd (omega (arith, z))
    by-test false true true true z = (refl, refl, refl)

-- what a nested Enter or Exit shows of the events that are open
module _ (os : List Event) (d : Bool) (x : Event) where
  nested-room : is_nested (nesting os d) x ≡ true → x.role ≡ 1 → length os < most
  unfolding is_nested
  nested-room e r =
      let i = not (eqb (length os) 0) in
      let t : both (not d) (both (ltb (length os) most) (pick (eqb x.node 1) (not i) i)) ≡ true = rw r at e in
      ltb-true (length os) most (true-left (ltb (length os) most) _ (true-right (not d) _ t))

  nested-closes : is_nested (nesting os d) x ≡ true → x.role ≡ 2 → closes os x ≡ true
  unfolding is_nested
  nested-closes e r =
      let t : both (not d) (closes os x) ≡ true = rw (ne_eqb x.role 1 (λ z. omega (arith, r, z)), eq-eqb x.role 2 r) at e in
      true-right (not d) (closes os x) t

closes-some : (os : List Event) (x : Event) → closes os x ≡ true → 0 < length os
unfolding closes
closes-some [] x e = absurd (subst T (sym e) tt)
closes-some (o ∷ os) x e = omega arith

-- what a caller of `follow` knows once `fault` has found nothing
pub admits : (n : Nest) (get : ℕ → Event) (x : Event) → fault_of (nest_by get n) x ≡ 0 → Admits n x
unfolding nest_by
admits n get x z =
    let os = open_by get n.room n.depth in
    let e = open_length get n.room n.depth in
    let f = fault-none (nesting os n.done) x z in
    (f.0, λ r. omega (arith, e, nested-room os n.done x f.2 r), λ r. omega (arith, e, closes-some os x (nested-closes os n.done x f.2 r)))

pub fault-not : (n : Nesting) (x : Event) → (x.role ≡ 0 → ⊥) → is_listed x.role x.node ≡ true → is_ranged largest x ≡ true → is_nested n x ≡ true → 0 ≡ fault_of n x
unfolding fault_of
fault-not n x h p q e = rw (ne_eqb x.role 0 h, p, q, e)

-- ---- what is open after an event
module _ (get : ℕ → Event) (room : List ℕ) (d : ℕ) (done : Bool) (x : Event) where
  abbrev before : Nesting
  before = nesting (open_by get room d) done

  pub after-enter : (at : ℕ) → x.role ≡ 1 → d < length room → get at ≡ x → nesting (open_by get (set room d at) (d + 1)) done ≡ after_of before x
  unfolding after_of
  after-enter at r h g = rw (eq-eqb x.role 1 r, open-push get room at d h, g)

  pub after-exit : x.role ≡ 2 → 0 < d → nesting (open_by get room (d - 1)) (eqb (d - 1) 0) ≡ after_of before x
  unfolding after_of
  after-exit r h = rw (ne_eqb x.role 1 (λ e. omega (arith, r)), eq-eqb x.role 2 r, open_length get room d, open-pop get room d, last d h)
    where
      last : (k : ℕ) → 0 < k → eqb (k - 1) 0 ≡ leb k 1
      last zero h = absurd (omega arith)
      last (suc zero) h = refl
      last (suc (suc k)) h = ne_eqb (suc (suc k) - 1) 0 (λ e. omega arith) ∙ sym (lt-leb (suc (suc k)) 1 (omega arith))
