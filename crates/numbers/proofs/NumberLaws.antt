-- Laws of digits, letters and decimal numbers. Assumes nothing.
use mathlib.Core.Path.{◌≡◌, ◌∙◌, refl, sym, ap}
use mathlib.Core.Bool.{Bool, true, false}
use mathlib.Core.List.{List}
use Prim.Native.Nat.{ℕ, ◌+◌, ◌*◌, ◌^◌, ◌≤◌, ◌<◌}
use native.Mathlib.Nat.{pow-suc, pow-le-pow_right}
use native.Mathlib.Numerals.{add-one}
use native.Mathlib.Omega.{arith}
use lib.Dec.{eqb, lit<}
use lib.ListN.{length, get_or, drop}
use lib.Seq.{drop-cons, drop-length}
use borrow.Author.Tests.{eqb-true}
use Rattle.std.specs.Prelude.{Option, Some, None, unwrap_or}
use Rattle.classes.specs.Choice.{pick}
use Rattle.numbers.specs.Numbers.{digit_of, decimal_of, nonzero}

-- one digit more stays below the next power of ten, and nineteen digits below 2 ^ 64
pub grows : (i v d : ℕ) → i < 19 → v < 10 ^ i → d ≤ 9 → (v * 10 + d < 10 ^ (i + 1)) × (10 ^ (i + 1) ≤ 10 ^ 19)
grows i v d h k m =
    let e : 10 ^ (i + 1) ≡ 10 ^ i * 10 = rw add-one (pow-suc 10 i) in
    let l : i + 1 ≤ 19 = omega arith in
    (omega (arith, e), pow-le-pow_right (lit< tt) l)

pub decimal-turn : (v : ℕ) (s : List ℕ) (i d : ℕ) → i < length s → d ≡ digit_of (get_or s i 0) → decimal_of v (drop i s) ≡ decimal_of (v * 10 + d) (drop (i + 1) s)
unfolding decimal_of
decimal-turn v s i d h e = rw (drop-cons s i 0, add-one i, e)

pub decimal-end : (v : ℕ) (s : List ℕ) (i : ℕ) → i ≡ length s → decimal_of v (drop i s) ≡ v
unfolding decimal_of
decimal-end v s i e = rw (e, drop-length)

-- 0 for none gives the number back
back : (n : ℕ) → unwrap_or (nonzero n) 0 ≡ n
back n = by-test (eqb n 0) refl
  where
    by-test : (b : Bool) → eqb n 0 ≡ b → unwrap_or (pick b None (Some n)) 0 ≡ n
    by-test true e = sym (eqb-true n 0 e)
    by-test false e = refl

pub worth : (d n : ℕ) (o : Option ℕ) → o ≡ nonzero n → d ≡ unwrap_or o 0 → d ≡ n
worth d n o e h = h ∙ ap (λ (x : Option ℕ). unwrap_or x 0) e ∙ back n
