-- The digits of a number: the last, and those before it. Assumes nothing.
use Rattle.std.proofs.Common.{◌≡◌, ℕ, zero, suc, ◌+◌, ◌/◌, ◌%◌, ◌^◌, ◌≤◌, ◌<◌, List, [], ◌∷◌, ◌++◌, length, Bool, true, false, ltb, refl, sym, ap, ◌∙◌, arith, append_assoc, length-append}
use Rattle.classes.specs.Choice.{pick}
use native.Mathlib.Nat.{pow-suc}
use borrow.Author.Tests.{lt-ltb, le-ltb, ltb-false}
use Rattle.entries.specs.Text.{numeral, decimal_of}

one-digit : (k n : ℕ) → n < 10 → numeral (suc k) n ≡ (48 + n) ∷ []
unfolding numeral
one-digit k n h = rw (lt-ltb n 10 h)

more-digits : (k n : ℕ) → 10 ≤ n → numeral (suc k) n ≡ numeral k (n / 10) ++ ((48 + n % 10) ∷ [])
unfolding numeral
more-digits k n h = rw (le-ltb n 10 h)

-- one place more than a number needs changes nothing
more-room : (k n : ℕ) → 0 < k → n < 10 ^ k → numeral k n ≡ numeral (suc k) n
unfolding numeral
more-room zero n p h = absurd (omega (arith, p))
more-room (suc k) n p h = by-test (ltb n 10) refl (more-room k (n / 10))
  where
    front : 10 ≤ n → (k : ℕ) → n < 10 ^ suc k → (0 < k → n / 10 < 10 ^ k → numeral k (n / 10) ≡ numeral (suc k) (n / 10)) → numeral k (n / 10) ≡ numeral (suc k) (n / 10)
    front g zero h shorter = absurd (omega (arith, h, g))
    front g (suc k) h shorter = let s = pow-suc 10 (suc k) in shorter (omega arith) (omega (arith, h, s))

    by-test : (b : Bool) → ltb n 10 ≡ b → (0 < k → n / 10 < 10 ^ k → numeral k (n / 10) ≡ numeral (suc k) (n / 10))
        → pick b ((48 + n) ∷ []) (numeral k (n / 10) ++ ((48 + n % 10) ∷ [])) ≡ pick b ((48 + n) ∷ []) (numeral (suc k) (n / 10) ++ ((48 + n % 10) ∷ []))
    by-test true e shorter = refl
    by-test false e shorter = ap (λ (l : List ℕ). l ++ ((48 + n % 10) ∷ [])) (front (ltb-false n 10 e) k h shorter)

-- what stands before the last digit
decimal-front : (n : ℕ) → 9 < n → n < 18446744073709551616 → decimal_of n ≡ decimal_of (n / 10) ++ ((48 + n % 10) ∷ [])
unfolding decimal_of
decimal-front n h m = more-digits 19 n h ∙ ap (λ (l : List ℕ). l ++ ((48 + n % 10) ∷ [])) (more-room 19 (n / 10) (omega arith) (omega arith))

-- one digit, two, three, and three behind others
pub decimal-one : (n : ℕ) → n < 10 → (d : ℕ) → d ≡ 48 + n → decimal_of n ≡ d ∷ []
unfolding decimal_of
decimal-one n h d e = one-digit 19 n h ∙ ap (λ (k : ℕ). k ∷ []) (sym e)

pub decimal-two : (n : ℕ) → 10 ≤ n → n < 100 → (c d : ℕ) → c ≡ 48 + n / 10 → d ≡ 48 + n % 10 → decimal_of n ≡ c ∷ d ∷ []
decimal-two n l h c d e f =
    decimal-front n l (omega arith) ∙ ap (λ (k : List ℕ). k ++ ((48 + n % 10) ∷ [])) (decimal-one (n / 10) (omega arith) c e) ∙ ap (λ (k : ℕ). c ∷ k ∷ []) (sym f)

pub decimal-three : (n : ℕ) → 100 ≤ n → n < 1000 → (b c d : ℕ) → b ≡ 48 + n / 100 → c ≡ 48 + n / 10 % 10 → d ≡ 48 + n % 10 → decimal_of n ≡ b ∷ c ∷ d ∷ []
decimal-three n l h b c d e f g =
    let tens : n / 10 / 10 ≡ n / 100 = omega arith in
    decimal-front n (omega arith) (omega arith)
    ∙ ap (λ (k : List ℕ). k ++ ((48 + n % 10) ∷ [])) (decimal-two (n / 10) (omega arith) (omega arith) b c (e ∙ ap (λ (m : ℕ). 48 + m) (sym tens)) f)
    ∙ ap (λ (k : ℕ). b ∷ c ∷ k ∷ []) (sym g)

pub decimal-more : (n : ℕ) → 999 < n → n < 18446744073709551616 → (b c d : ℕ) → b ≡ 48 + n / 100 % 10 → c ≡ 48 + n / 10 % 10 → d ≡ 48 + n % 10
    → decimal_of n ≡ decimal_of (n / 1000) ++ (b ∷ c ∷ d ∷ [])
decimal-more n l h b c d e f g =
    let tens : n / 10 / 10 ≡ n / 100 = omega arith in
    let hundreds : n / 100 / 10 ≡ n / 1000 = omega arith in
    decimal-front n (omega arith) h
    ∙ ap (λ (k : List ℕ). k ++ ((48 + n % 10) ∷ [])) (decimal-front (n / 10) (omega arith) (omega arith))
    ∙ ap (λ (m : ℕ). (decimal_of m ++ ((48 + n / 10 % 10) ∷ [])) ++ ((48 + n % 10) ∷ [])) tens
    ∙ ap (λ (k : List ℕ). (k ++ ((48 + n / 10 % 10) ∷ [])) ++ ((48 + n % 10) ∷ [])) (decimal-front (n / 100) (omega arith) (omega arith))
    ∙ ap (λ (m : ℕ). ((decimal_of m ++ ((48 + n / 100 % 10) ∷ [])) ++ ((48 + n / 10 % 10) ∷ [])) ++ ((48 + n % 10) ∷ [])) hundreds
    ∙ ap (λ (k : List ℕ). k ++ ((48 + n % 10) ∷ [])) (append_assoc (decimal_of (n / 1000)) ((48 + n / 100 % 10) ∷ []) ((48 + n / 10 % 10) ∷ []))
    ∙ append_assoc (decimal_of (n / 1000)) ((48 + n / 100 % 10) ∷ (48 + n / 10 % 10) ∷ []) ((48 + n % 10) ∷ [])
    ∙ rw (sym e, sym f, sym g)

-- ---- its length
numeral-short : (k n : ℕ) → length (numeral k n) ≤ k
unfolding numeral
numeral-short zero n = omega arith
numeral-short (suc k) n = by-test (ltb n 10) (numeral-short k (n / 10))
  where
    by-test : (b : Bool) → length (numeral k (n / 10)) ≤ k → length (pick b ((48 + n) ∷ []) (numeral k (n / 10) ++ ((48 + n % 10) ∷ []))) ≤ suc k
    by-test true h = omega arith
    by-test false h = omega (arith, length-append (numeral k (n / 10)) ((48 + n % 10) ∷ []))

pub decimal-short : (n : ℕ) → length (decimal_of n) ≤ 20
unfolding decimal_of
decimal-short n = numeral-short 20 n
