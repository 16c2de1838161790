-- Laws of `find`: sixteens without a hit. Assumes nothing.
use Rattle.std.proofs.Common.{◌≡◌, refl, sym, ap, ℕ, zero, suc, ◌+◌, ◌≤◌, ◌<◌, Bool, true, false, not, ◌||◌, ◌&&◌, List, [], ◌∷◌, length, drop, get_or, zero-add, length-drop, cond, ltb, Option, Some, None, position, arith}
use borrow.Author.Tests.{not-true}
use Rattle.std.proofs.lemmas.Bool.Decides.{nat_tests}
use Rattle.std.specs.List.{fold, list_all, position_or_len}
use Rattle.std.specs.Option.{option_map}

and_left : (a b : Bool) → (a && b) ≡ true → a ≡ true
and_left true b e = refl
and_left false b e = e

and_right : (a b : Bool) → (a && b) ≡ true → b ≡ true
and_right true b e = e
and_right false true e = refl
and_right false false e = e

-- a fold that keeps whether any element passes
none_from : (p : ℕ → Bool) (a : Bool) (xs : List ℕ) → not (fold (λ a x. a || p x) a xs) ≡ not a && list_all (λ x. not (p x)) xs
none_from p true [] = refl
none_from p false [] = refl
none_from p true (x ∷ xs) = none_from p true xs
none_from p false (x ∷ xs) = none_from p (p x) xs

pub none_fold : (p : ℕ → Bool) (xs : List ℕ) → not (fold (λ a x. a || p x) false xs) ≡ list_all (λ x. not (p x)) xs
none_fold p xs = none_from p false xs

-- each of them
pub none_at : (p : ℕ → Bool) (xs : List ℕ) (i : ℕ) → list_all (λ x. not (p x)) xs ≡ true → i < length xs → p (get_or xs i 0) ≡ false
none_at p [] i e h = absurd (omega arith)
none_at p (x ∷ xs) zero e h = not-true (p x) (and_left (not (p x)) (list_all (λ x. not (p x)) xs) e)
none_at p (x ∷ xs) (suc i) e h = none_at p xs i (and_right (not (p x)) (list_all (λ x. not (p x)) xs) e) (omega arith)

-- the place of the first hit, behind n bytes that are none
pub behind : (p : ℕ → Bool) (n : ℕ) (xs : List ℕ) → n ≤ length xs → ((i : ℕ) → i < n → p (get_or xs i 0) ≡ false) → position_or_len p xs ≡ n + position_or_len p (drop n xs)
behind p zero xs h k = sym (zero-add (position_or_len p xs))
behind p (suc n) [] h k = absurd (omega arith)
behind p (suc n) (x ∷ xs) h k = let e : p x ≡ false = k 0 (omega arith) in rw e (omega (arith, behind p n xs (omega arith) (λ i j. k (suc i) (omega arith))))

-- what is found there is found in the whole
pub behind-find : (p : ℕ → Bool) (n : ℕ) (xs ys : List ℕ) (r : Option ℕ) → n ≤ length xs → ((i : ℕ) → i < n → p (get_or xs i 0) ≡ false) → ys ≡ drop n xs
    → r ≡ cond (ltb (position_or_len p ys) (length ys)) (Some (position_or_len p ys)) None → option_map (λ k. n + k) r ≡ position p xs
behind-find p n xs ys r h k e q =
    let l : length ys + n ≡ length xs = omega (arith, ap length e, length-drop n xs) in
    let b : position_or_len p xs ≡ n + position_or_len p ys = rw e (behind p n xs h k) in
    rw (q, b) (by_test (position_or_len p ys) (length ys) (length xs) l (ltb (position_or_len p ys) (length ys)) refl)
  where
    by_test : (a m t : ℕ) → m + n ≡ t → (b : Bool) → ltb a m ≡ b → option_map (λ k. n + k) (cond b (Some a) None) ≡ cond (ltb (n + a) t) (Some (n + a)) None
    by_test a m t l true e = let f : ltb (n + a) t ≡ true = grind (arith, nat_tests) in rw f
    by_test a m t l false e = let f : ltb (n + a) t ≡ false = grind (arith, nat_tests) in rw f
