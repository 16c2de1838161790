-- How many newlines, one byte on and a part on, and how many lines by them. Assumes nothing.
use Prim.Native.Nat.{ℕ, zero, suc, ◌+◌, ◌-◌, ◌≤◌, ◌<◌}
use mathlib.Core.Path.{◌≡◌, refl}
use mathlib.Core.Bool.{Bool, true, false}
use mathlib.Core.List.{List, [], ◌∷◌, ◌++◌}
use native.Mathlib.Omega.{arith}
use lib.Dec.{eqb}
use lib.ListN.{length, drop, get_or, drop_of_length-le}
use borrow.Author.Tests.{eq-eqb, ne_eqb}
use Rattle.classes.proofs.ListLaws.{drop-next}
use Rattle.classes.specs.Choice.{pick}
use Rattle.lines.specs.Lines.{span, newlines_of, lines_from, lines_of}

-- one byte on
pub newline-yes : (s : List ℕ) (i : ℕ) → i < length s → get_or s i 0 ≡ 10 → newlines_of (drop i s) ≡ 1 + newlines_of (drop (i + 1) s)
unfolding newlines_of
newline-yes s i h b = rw (drop-next s i, eq-eqb _ _ b)

pub newline-no : (s : List ℕ) (i : ℕ) → i < length s → (get_or s i 0 ≡ 10 → ⊥) → newlines_of (drop i s) ≡ newlines_of (drop (i + 1) s)
unfolding newlines_of
newline-no s i h b = rw (drop-next s i, ne_eqb _ _ b)

pub newline-end : (s : List ℕ) (i : ℕ) → length s ≤ i → newlines_of (drop i s) ≡ 0
unfolding newlines_of
newline-end s i h = rw (drop_of_length-le s h)

-- a part on
pub newlines-le : (s : List ℕ) → newlines_of s ≤ length s
unfolding newlines_of
newlines-le [] = omega arith
newlines-le (b ∷ s) = by-test (eqb b 10) (newlines-le s)
  where
    by-test : (t : Bool) → newlines_of s ≤ length s → pick t (1 + newlines_of s) (newlines_of s) ≤ suc (length s)
    by-test true h = omega arith
    by-test false h = omega arith

pub newlines-append : (s t : List ℕ) → newlines_of (s ++ t) ≡ newlines_of s + newlines_of t
unfolding newlines_of
newlines-append [] t = omega arith
newlines-append (b ∷ s) t = by-test (eqb b 10) (newlines-append s t)
  where
    by-test : (u : Bool) → newlines_of (s ++ t) ≡ newlines_of s + newlines_of t
        → pick u (1 + newlines_of (s ++ t)) (newlines_of (s ++ t)) ≡ pick u (1 + newlines_of s) (newlines_of s) + newlines_of t
    by-test true h = omega arith
    by-test false h = h

-- the lines: as many as the newlines where the last byte is one, else one more; none of no bytes
pub lines_none : (bs : List ℕ) → length bs ≡ 0 → length (lines_of bs) ≡ 0
unfolding lines_of lines_from
lines_none [] h = refl
lines_none (b ∷ bs) h = absurd (omega arith)

pub lines-ended : (s p : ℕ) (bs : List ℕ) (n : ℕ) → length bs ≡ suc n → get_or bs n 0 ≡ 10 → length (lines_from s p bs) ≡ newlines_of bs
unfolding lines_from newlines_of
lines-ended s p [] n h e = absurd (omega arith)
lines-ended s p (b ∷ []) zero h e = rw (eq-eqb b 10 e, eq-eqb (p + 1) (p + 1) refl)
lines-ended s p (b ∷ []) (suc n) h e = absurd (omega arith)
lines-ended s p (b ∷ c ∷ bs) zero h e = absurd (omega arith)
lines-ended s p (b ∷ c ∷ bs) (suc n) h e =
    by-test (eqb b 10) (lines-ended (p + 1) (p + 1) (c ∷ bs) n (omega arith) e) (lines-ended s (p + 1) (c ∷ bs) n (omega arith) e)
  where
    by-test : (t : Bool) → length (lines_from (p + 1) (p + 1) (c ∷ bs)) ≡ newlines_of (c ∷ bs) → length (lines_from s (p + 1) (c ∷ bs)) ≡ newlines_of (c ∷ bs)
        → length (pick t (span s (p + 1) ∷ lines_from (p + 1) (p + 1) (c ∷ bs)) (lines_from s (p + 1) (c ∷ bs))) ≡ pick t (1 + newlines_of (c ∷ bs)) (newlines_of (c ∷ bs))
    by-test true x y = omega arith
    by-test false x y = y

pub lines-open : (s p : ℕ) (bs : List ℕ) (n : ℕ) → s ≤ p → length bs ≡ suc n → (get_or bs n 0 ≡ 10 → ⊥) → length (lines_from s p bs) ≡ newlines_of bs + 1
unfolding lines_from newlines_of
lines-open s p [] n l h e = absurd (omega arith)
lines-open s p (b ∷ []) zero l h e = rw (ne_eqb b 10 e, ne_eqb s (p + 1) (λ q. omega arith))
lines-open s p (b ∷ []) (suc n) l h e = absurd (omega arith)
lines-open s p (b ∷ c ∷ bs) zero l h e = absurd (omega arith)
lines-open s p (b ∷ c ∷ bs) (suc n) l h e =
    by-test (eqb b 10) (lines-open (p + 1) (p + 1) (c ∷ bs) n (omega arith) (omega arith) e) (lines-open s (p + 1) (c ∷ bs) n (omega arith) (omega arith) e)
  where
    by-test : (t : Bool) → length (lines_from (p + 1) (p + 1) (c ∷ bs)) ≡ newlines_of (c ∷ bs) + 1 → length (lines_from s (p + 1) (c ∷ bs)) ≡ newlines_of (c ∷ bs) + 1
        → length (pick t (span s (p + 1) ∷ lines_from (p + 1) (p + 1) (c ∷ bs)) (lines_from s (p + 1) (c ∷ bs))) ≡ pick t (1 + newlines_of (c ∷ bs)) (newlines_of (c ∷ bs)) + 1
    by-test true x y = omega arith
    by-test false x y = y
