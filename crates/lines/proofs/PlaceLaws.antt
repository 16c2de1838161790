-- The place of a byte. Assumes nothing.
use Prim.Native.Nat.{ℕ, zero, suc, ◌+◌, ◌-◌, ◌≤◌, ◌<◌, min}
use mathlib.Core.Path.{◌≡◌, refl, sym}
use mathlib.Core.Bool.{Bool, true, false}
use mathlib.Core.List.{List, [], ◌∷◌}
use native.Mathlib.Omega.{arith}
use lib.Dec.{eqb, ltb}
use lib.ListN.{length, take, drop, length-drop}
use lib.Seq.{take_all}
use borrow.Author.Tests.{ltb-true, ltb-false}
use Rattle.std.proofs.Common.{cond, Option, Some, None, MatchOption, position}
use Rattle.std.specs.Option.{unwrap_or}
use Rattle.std.specs.List.{position_or_len}
use Rattle.std.proofs.lemmas.List.Recursion.{is_position_or_len}
use Rattle.classes.specs.Choice.{pick}
use Rattle.lines.specs.Lines.{place_of}

-- what is left from i on, as a slice `&s[i..]` has it
pub whole_drop : (s : List ℕ) (i : ℕ) → take (length s - i) (drop i s) ≡ drop i s
whole_drop s i = take_all (length s - i) (drop i s) (omega (arith, length-drop i s))

module _ (b : ℕ) where
  pub place-le : (s : List ℕ) → place_of b s ≤ length s
  unfolding place_of
  place-le [] = omega arith
  place-le (x ∷ s) = by-test (eqb x b) (place-le s)
    where
      by-test : (t : Bool) → place_of b s ≤ length s → pick t 0 (1 + place_of b s) ≤ suc (length s)
      by-test true h = omega arith
      by-test false h = omega arith

  -- where the first place is that has it, and whether there is one
  place_none : place_of b [] ≡ 0
  unfolding place_of
  place_none = refl

  place_next : (x : ℕ) (s : List ℕ) → place_of b (x ∷ s) ≡ cond (eqb x b) 0 (1 + place_of b s)
  unfolding place_of
  place_next x s = by-test (eqb x b)
    where
      by-test : (t : Bool) → pick t 0 (1 + place_of b s) ≡ cond t 0 (1 + place_of b s)
      by-test true = refl
      by-test false = refl

  place_is : (s : List ℕ) → place_of b s ≡ position_or_len (λ x. eqb x b) s
  place_is = is_position_or_len (place_of b) (λ x. eqb x b) place_none place_next

  pub place-found : (s : List ℕ) (r : Option ℕ) → r ≡ position (λ x. eqb x b) s
      → MatchOption r (place_of b s ≡ length s) (λ k. (k ≡ place_of b s) × (k < length s))
  place-found s r e = rw (e, ← place_is s) (by-test (ltb (place_of b s) (length s)) refl)
    where
      by-test : (t : Bool) → ltb (place_of b s) (length s) ≡ t
          → MatchOption (cond t (Some (place_of b s)) None) (place_of b s ≡ length s) (λ k. (k ≡ place_of b s) × (k < length s))
      by-test true q = (refl, ltb-true (place_of b s) (length s) q)
      by-test false q = omega (arith, ltb-false (place_of b s) (length s) q, place-le s)

  -- the place that was found, or the length
  pub place-or : (s : List ℕ) (r : Option ℕ) → MatchOption r (place_of b s ≡ length s) (λ k. (k ≡ place_of b s) × (k < length s))
      → (unwrap_or r (length s) ≡ place_of b s) × (unwrap_or r (length s) ≤ length s)
  place-or s None h = (sym h, omega arith)
  place-or s (Some k) h = (h.0, omega (arith, h.1))

  -- in the first k bytes
  pub place-take : (k : ℕ) (s : List ℕ) → place_of b (take k s) ≡ min k (place_of b s)
  unfolding place_of
  place-take zero s = omega arith
  place-take (suc k) [] = omega arith
  place-take (suc k) (x ∷ s) = by-test (eqb x b) (place-take k s)
    where
      by-test : (t : Bool) → place_of b (take k s) ≡ min k (place_of b s) → pick t 0 (1 + place_of b (take k s)) ≡ min (suc k) (pick t 0 (1 + place_of b s))
      by-test true h = omega arith
      by-test false h = omega arith
