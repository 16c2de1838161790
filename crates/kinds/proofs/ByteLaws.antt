-- What iterators over bytes tell of runs, specs and breaks. Assumes nothing.
use mathlib.Core.Path.{◌≡◌, refl, ◌∙◌, sym}
use mathlib.Core.Bool.{Bool, true, false, not, cond}
use mathlib.Core.List.{List, [], ◌∷◌}
use Prim.Native.Nat.{ℕ, suc, ◌+◌, ◌≤◌, ◌<◌}
use native.Mathlib.Omega.{arith}
use lib.Dec.{eqb, leb, ltb, eqb-suc-suc}
use lib.ListN.{length, drop, get_or, drop_of_length-le}
use borrow.Author.Tests.{ne_eqb, ltb-false}
use Rattle.std.specs.Prelude.{Some, None}
use Rattle.std.specs.List.{list_all, position, position_or_len}
use Rattle.std.specs.Option.{unwrap_or}
use Rattle.classes.proofs.ListLaws.{drop-next}
use Rattle.classes.specs.Choice.{pick, both, either}
use Rattle.classes.specs.Classes.{is_space}
use Rattle.trim.specs.Trim.{front}
use Rattle.trim.proofs.TrimLaws.{front-le}
use Rattle.kinds.specs.Bytes.{is_mark, break_of}

pub front-position : (p : ℕ → Bool) (s : List ℕ) → position_or_len (λ (c : ℕ). not (p c)) s ≡ front p s
unfolding front
front-position p [] = refl
front-position p (b ∷ bs) = by-case (p b) (front-position p bs)
  where
    by-case : (x : Bool) → position_or_len (λ (c : ℕ). not (p c)) bs ≡ front p bs → cond (not (not x)) (1 + position_or_len (λ (c : ℕ). not (p c)) bs) 0 ≡ pick x (suc (front p bs)) 0
    by-case true e = omega (arith, e)
    by-case false e = refl

pub unwrap-position : (p : ℕ → Bool) (s : List ℕ) → unwrap_or (position (λ (c : ℕ). not (p c)) s) (length s) ≡ front p s
unwrap-position p s = by-case (ltb (position_or_len (λ (c : ℕ). not (p c)) s) (length s)) refl
  where
    by-case : (x : Bool) → ltb (position_or_len (λ (c : ℕ). not (p c)) s) (length s) ≡ x
        → unwrap_or (cond x (Some (position_or_len (λ (c : ℕ). not (p c)) s)) None) (length s) ≡ front p s
    by-case true e = front-position p s
    by-case false e = omega (arith, front-position p s, front-le p s, ltb-false (position_or_len (λ (c : ℕ). not (p c)) s) (length s) e)

pub front-all : (p : ℕ → Bool) (s : List ℕ) → list_all p s ≡ eqb (front p s) (length s)
unfolding front
front-all p [] = refl
front-all p (b ∷ bs) = by-case (p b) (front-all p bs)
  where
    by-case : (x : Bool) → list_all p bs ≡ eqb (front p bs) (length bs) → both x (list_all p bs) ≡ eqb (pick x (suc (front p bs)) 0) (suc (length bs))
    by-case true e = e ∙ sym (eqb-suc-suc (front p bs) (length bs))
    by-case false e = sym (ne_eqb 0 (suc (length bs)) (λ z. omega arith))

no-mark : (x y m r : Bool) → either x y ≡ false → pick x m (pick y m r) ≡ r
no-mark true y m r e = absurd (cc e)
no-mark false true m r e = absurd (cc e)
no-mark false false m r e = refl

-- a turn of `is_break`: a mark, whitespace, another byte or the end
module _ (xs : List ℕ) (n i : ℕ) (h : i < length xs) where
  pub break-mark : is_mark (get_or xs i 0) ≡ true → break_of n (drop i xs) ≡ break_of (n + 1) (drop (i + 1) xs)
  unfolding break_of
  break-mark e = rw (drop-next xs i) (by-case (eqb (get_or xs i 0) 45) (eqb (get_or xs i 0) 42) _ _ e)
    where
      by-case : (x y m r : Bool) → either x y ≡ true → pick x m (pick y m r) ≡ m
      by-case true y m r e = refl
      by-case false true m r e = refl
      by-case false false m r e = absurd (cc e)

  module _ (m : is_mark (get_or xs i 0) ≡ false) where
    pub break-gap : is_space (get_or xs i 0) ≡ true → break_of n (drop i xs) ≡ break_of n (drop (i + 1) xs)
    unfolding break_of
    break-gap e = rw (drop-next xs i, e) (no-mark (eqb (get_or xs i 0) 45) (eqb (get_or xs i 0) 42) _ _ m)

    pub break-other : is_space (get_or xs i 0) ≡ false → break_of n (drop i xs) ≡ false
    unfolding break_of
    break-other e = rw (drop-next xs i, e) (no-mark (eqb (get_or xs i 0) 45) (eqb (get_or xs i 0) 42) _ _ m)

pub break-end : (xs : List ℕ) (n i : ℕ) → length xs ≤ i → break_of n (drop i xs) ≡ leb 3 n
unfolding break_of
break-end xs n i h = rw (drop_of_length-le xs h)
