use mathlib.Core.Path.{◌≡◌}
use mathlib.Core.Bool.{true}
use Prim.Native.Nat.{ℕ, ◌-◌, ◌≤◌}
use lib.ListN.{length}
use Rattle.attrs.specs.Machine.{takes_names}
use Rattle.attrs.proofs.MachineLaws.{Stays}
use Rattle.attrs.proofs.name_run.Given as goal

abbrev pub invariant-loop-n : goal.invariant-loop-n
invariant-loop-n l = (l.n ≤ length l.src) × ((s : ℕ) → takes_names s ≡ true → Stays s l.src l.n)

abbrev pub decreases-loop-n : goal.decreases-loop-n
decreases-loop-n l = length l.src - l.n
