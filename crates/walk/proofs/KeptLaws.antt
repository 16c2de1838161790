-- The sections that a heading leaves open, found from the innermost on. Assumes nothing.
use Prim.Native.Nat.{ℕ, zero, suc, ◌-◌, ◌≤◌, ◌<◌}
use mathlib.Core.Path.{◌≡◌, refl}
use mathlib.Core.List.{List}
use native.Mathlib.Omega.{arith}
use lib.ListN.{get_or}
use borrow.Author.Tests.{lt-ltb, le-ltb}
use Rattle.walk.specs.Leaf.{kept_of}

pub kept-hit : (sec : List ℕ) (level n : ℕ) → 0 < n → get_or sec (n - 1) 0 < level → n ≡ kept_of sec level n
unfolding kept_of
kept-hit sec level zero h p = absurd (omega arith)
kept-hit sec level (suc n) h p =
    let e : suc n - 1 ≡ n = omega arith in
    let q : get_or sec n 0 < level = rw (← e) p in
    rw (lt-ltb (get_or sec n 0) level q)

pub kept_on : (sec : List ℕ) (level n : ℕ) → 0 < n → level ≤ get_or sec (n - 1) 0 → kept_of sec level (n - 1) ≡ kept_of sec level n
unfolding kept_of
kept_on sec level zero h p = absurd (omega arith)
kept_on sec level (suc n) h p =
    let e : suc n - 1 ≡ n = omega arith in
    let q : level ≤ get_or sec n 0 = rw (← e) p in
    rw (e, le-ltb (get_or sec n 0) level q)

pub kept-end : (sec : List ℕ) (level n : ℕ) → n ≤ 0 → 0 ≡ kept_of sec level n
unfolding kept_of
kept-end sec level zero h = refl
kept-end sec level (suc n) h = absurd (omega arith)
