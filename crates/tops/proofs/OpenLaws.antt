-- What an event opens and begins, case by case, and where a line starts. Assumes nothing.
use Prim.Native.Nat.{ℕ, zero, suc, ◌+◌, ◌-◌, ◌≤◌, ◌<◌, min}
use mathlib.Core.Path.{◌≡◌, refl, sym, ap, ◌∙◌}
use mathlib.Core.Bool.{Bool, true, false}
use mathlib.Core.List.{List}
use native.Mathlib.Omega.{arith}
use lib.Dec.{eqb, ltb}
use lib.ListN.{length, take, get_or, length-take, get_or-eq_default}
use Rattle.std.proofs.lemmas.List.{get_or-take}
use borrow.Author.Tests.{ltb-true, ltb-false, eqb-true, eqb-false, ne_eqb}
use Rattle.std.proofs.Common.{Option, Some, None, MatchOption}
use Rattle.classes.specs.Last.{IsLast}
use Rattle.trim.specs.Trim.{part_of}
use Rattle.classes.specs.Choice.{pick, both}
use Rattle.events.specs.declared.Event.{Event}
use Rattle.tops.specs.Tops.{is_around, open_of, begins_of, line_start}

-- ---- what is open after an event
same-either : (b : Bool) (n : ℕ) → n ≡ pick b n n
same-either true n = refl
same-either false n = refl

module _ (n : ℕ) (x : Event) where
  pub open-other : (x.role ≡ 1 → ⊥) → (x.role ≡ 2 → ⊥) → n ≡ open_of n x
  unfolding open_of
  open-other d e = rw (ne_eqb x.role 1 d, ne_eqb x.role 2 e) (same-either (is_around x.node) n)

  pub open-low : open_of n x ≤ n + 1
  unfolding open_of
  open-low = by-case (is_around x.node) (eqb x.role 1) (eqb x.role 2)
    where
      by-case : (a b c : Bool) → pick a n (pick b (n + 1) (pick c (n - 1) n)) ≤ n + 1
      by-case true b c = omega arith
      by-case false true c = omega arith
      by-case false false true = omega arith
      by-case false false false = omega arith

-- ---- whether it begins a block
both_false : (b : Bool) → both b false ≡ false
both_false true = refl
both_false false = refl

module _ (n : ℕ) (x : Event) where
  pub begin-none : (x.role ≡ 4 → ⊥) → (x.role ≡ 1 → ⊥) → begins_of n x ≡ false
  unfolding begins_of
  begin-none d e = rw (ne_eqb x.role 4 d, ne_eqb x.role 1 e) (both_false (eqb n 0))

-- ---- where a line starts
module _ (text : List ℕ) where
  line-none : (p : ℕ) → ((k : ℕ) → k < p → get_or text k 0 ≡ 10 → ⊥) → 0 ≡ line_start text p
  unfolding line_start
  line-none zero h = refl
  line-none (suc p) h = rw (ne_eqb (get_or text p 0) 10 (h p (omega arith))) (line-none p (λ k b. h k (omega arith)))

  line-from : (p i : ℕ) → i < p → get_or text i 0 ≡ 10 → ((k : ℕ) → i < k → k < p → get_or text k 0 ≡ 10 → ⊥) → i + 1 ≡ line_start text p
  unfolding line_start
  line-from zero i h e n = absurd (omega arith)
  line-from (suc p) i h e n = by-case (eqb (get_or text p 0) 10) refl (λ q. line-from p i (below q) e (λ k b l. n k b (omega arith)))
    where
      below : (get_or text p 0 ≡ 10 → ⊥) → i < p
      below q = by-order (eqb i p) refl
        where
          by-order : (b : Bool) → eqb i p ≡ b → i < p
          by-order true o = absurd (q (ap (λ k. get_or text k 0) (sym (eqb-true i p o)) ∙ e))
          by-order false o = omega (arith, h, eqb-false i p o)

      by-case : (b : Bool) → eqb (get_or text p 0) 10 ≡ b → ((get_or text p 0 ≡ 10 → ⊥) → i + 1 ≡ line_start text p) → i + 1 ≡ pick b (suc p) (line_start text p)
      by-case true q f = by-order (eqb i p) refl
        where
          by-order : (b : Bool) → eqb i p ≡ b → i + 1 ≡ suc p
          by-order true o = omega (arith, eqb-true i p o)
          by-order false o = absurd (n p (omega (arith, eqb-false i p o)) (omega arith) (eqb-true (get_or text p 0) 10 q))
      by-case false q f = f (eqb-false (get_or text p 0) 10 q)

  -- by the last newline among the bytes before p
  module _ (p : ℕ) (front : List ℕ) (e : front ≡ part_of text 0 p) where
    is_taken : front ≡ take p text
    unfolding part_of
    is_taken = let z : p - 0 ≡ p = omega arith in rw z at e

    long : length front ≡ min p (length text)
    long = ap length is_taken ∙ length-take p text

    byte : (k : ℕ) → k < length front → get_or front k 0 ≡ get_or text k 0
    byte k h = ap (λ (s : List ℕ). get_or s k 0) is_taken ∙ get_or-take p text k 0 (omega (arith, h, long))

    -- no byte behind the text is a newline
    no-line : (k : ℕ) → k < p → (k < length front → eqb (get_or front k 0) 10 ≡ false) → get_or text k 0 ≡ 10 → ⊥
    no-line k b h q = by-order (ltb k (length front)) refl
      where
        by-order : (t : Bool) → ltb k (length front) ≡ t → ⊥
        by-order true o = let l = ltb-true k (length front) o in eqb-false (get_or front k 0) 10 (h l) (byte k l ∙ q)
        by-order false o = let z : get_or text k 0 ≡ 0 = get_or-eq_default text 0 (omega (arith, b, long, ltb-false k (length front) o)) in omega (arith, z, q)

    pub line-last : (r : Option ℕ) → IsLast (λ x. eqb x 10) front r → MatchOption r (0 ≡ line_start text p) (λ i. i + 1 ≡ line_start text p)
    line-last None h = line-none p (λ k b. no-line k b (h k))
    line-last (Some i) h =
        line-from p i (omega (arith, h.0, long)) (sym (byte i h.0) ∙ eqb-true (get_or front i 0) 10 h.1) (λ k b l. no-line k l (h.2 k b))
