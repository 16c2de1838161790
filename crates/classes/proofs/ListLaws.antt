-- Laws on lists that every loop over bytes wants and the kit lacks. Assumes nothing.
use mathlib.Core.Path.{◌≡◌}
use mathlib.Core.List.{List, [], ◌∷◌}
use Prim.Native.Nat.{ℕ, zero, suc, ◌+◌, ◌-◌, ◌<◌}
use native.Mathlib.Nat.{sub-zero, zero-sub, suc-sub-suc}
use native.Mathlib.Numerals.{add-one}
use lib.ListN.{length, take, drop, get_or}
use lib.Seq.{drop-cons, take-nil, drop-nil}

-- what is left at i is the byte at i and what is left after it, in the code's `i + 1`
pub drop-next : (xs : List ℕ) (i : ℕ) → i < length xs → drop i xs ≡ get_or xs i 0 ∷ drop (i + 1) xs
drop-next xs i h = rw (drop-cons xs i 0, add-one i)

-- what is left of the first m is the first of what is left
pub drop-take : (k m : ℕ) (l : List ℕ) → drop k (take m l) ≡ take (m - k) (drop k l)
drop-take zero m l = rw sub-zero
drop-take (suc k) zero l = rw (zero-sub, drop-nil)
drop-take (suc k) (suc m) [] = rw take-nil
drop-take (suc k) (suc m) (x ∷ l) = rw suc-sub-suc (drop-take k m l)
