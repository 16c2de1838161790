-- Equal byte strings, byte by byte. Assumes nothing.
use Prim.Native.Nat.{ℕ, suc, ◌+◌, ◌≤◌, ◌<◌}
use mathlib.Core.Path.{◌≡◌, refl, sym, ap, ap₂, ◌∙◌}
use mathlib.Core.Bool.{Bool, true, false, false≢true}
use mathlib.Core.List.{List, [], ◌∷◌}
use native.Mathlib.Omega.{arith}
use lib.Dec.{eqb}
use lib.ListN.{length, get_or, drop, drop_of_length-le}
use borrow.Author.Tests.{eq-eqb, ne_eqb, eqb-true}
use Rattle.classes.specs.Choice.{both}
use Rattle.classes.proofs.ChoiceLaws.{true-left, true-right}
use Rattle.classes.proofs.ListLaws.{drop-next}
use Rattle.equals.specs.Same.{same}

pub same-lengths : (a b : List ℕ) → (length a ≡ length b → ⊥) → false ≡ same a b
unfolding same
same-lengths [] [] n = absurd (n refl)
same-lengths [] (y ∷ ys) n = refl
same-lengths (x ∷ xs) [] n = refl
same-lengths (x ∷ xs) (y ∷ ys) n = by-test (eqb x y) (same-lengths xs ys (λ e. n (ap suc e)))
  where
    by-test : (t : Bool) → false ≡ same xs ys → false ≡ both t (same xs ys)
    by-test true p = p
    by-test false p = refl

none : (t : Bool) → both t false ≡ false
none true = refl
none false = refl

-- the bytes before i are alike or not, and the rest is still to be read
module _ (a b : List ℕ) (l : length a ≡ length b) (t : Bool) (i : ℕ) where
  pub same-differ : i < length a → (get_or a i 0 ≡ get_or b i 0 → ⊥) → both t (same (drop i a) (drop i b)) ≡ same a b → (u : Bool) → u ≡ false → both u (same (drop (i + 1) a) (drop (i + 1) b)) ≡ same a b
  unfolding same
  same-differ h n p u f =
      let e : same (drop i a) (drop i b) ≡ false = rw (drop-next a i, drop-next b i (omega (arith, h, l)), ne_eqb (get_or a i 0) (get_or b i 0) n) in
      rw f (sym (none t) ∙ ap (both t) (sym e) ∙ p)

  pub same-on : i < length a → get_or a i 0 ≡ get_or b i 0 → both t (same (drop i a) (drop i b)) ≡ same a b → (u : Bool) → u ≡ t → both u (same (drop (i + 1) a) (drop (i + 1) b)) ≡ same a b
  unfolding same
  same-on h e p u f =
      let q : same (drop i a) (drop i b) ≡ same (drop (i + 1) a) (drop (i + 1) b) = rw (drop-next a i, drop-next b i (omega (arith, h, l)), eq-eqb (get_or a i 0) (get_or b i 0) e) in
      rw f (ap (both t) (sym q) ∙ p)

  pub same_end : length a ≤ i → both t (same (drop i a) (drop i b)) ≡ same a b → t ≡ same a b
  unfolding same
  same_end h p =
      let e : same (drop i a) (drop i b) ≡ true = rw (drop_of_length-le a h, drop_of_length-le b {i = i} (omega (arith, h, l))) in
      by-test t (ap (both t) (sym e) ∙ p)
    where
      by-test : (t : Bool) → both t true ≡ same a b → t ≡ same a b
      by-test true e = e
      by-test false e = e

-- strings are equal exactly where `same` says so
pub same-is : (a b : List ℕ) → same a b ≡ true → a ≡ b
unfolding same
same-is [] [] e = refl
same-is [] (y ∷ ys) e = absurd (false≢true e)
same-is (x ∷ xs) [] e = absurd (false≢true e)
same-is (x ∷ xs) (y ∷ ys) e = ap₂ (λ (z : ℕ) (zs : List ℕ). z ∷ zs) (eqb-true x y (true-left (eqb x y) (same xs ys) e)) (same-is xs ys (true-right (eqb x y) (same xs ys) e))

pub is_same : (a : List ℕ) → same a a ≡ true
unfolding same
is_same [] = refl
is_same (x ∷ xs) = rw (eq-eqb x x refl) (is_same xs)
