-- The two sides of a test of two. Assumes nothing.
use mathlib.Core.Path.{◌≡◌, refl}
use mathlib.Core.Bool.{Bool, true, false}
use lib.Dec.{T}
use Rattle.classes.specs.Choice.{both}

pub both_left : (a b : Bool) → T (both a b) → T a
both_left true b t = tt
both_left false b t = t

pub both_right : (a b : Bool) → T (both a b) → T b
both_right true b t = t
both_right false b t = absurd t

-- the same as equations
pub true-left : (a b : Bool) → both a b ≡ true → a ≡ true
true-left true b p = refl
true-left false b p = p

pub true-right : (a b : Bool) → both a b ≡ true → b ≡ true
true-right true b p = p
true-right false true p = refl
true-right false false p = p
