use Prim.Native.Nat.{◌-◌, ◌≤◌}
use lib.ListN.{length}
use Rattle.attrs.proofs.MachineLaws.{Stays}
use Rattle.attrs.proofs.quoted_run.Given as goal

abbrev pub invariant-loop-n : goal.invariant-loop-n
invariant-loop-n l = (l.n ≤ length l.src) × Stays 12 l.src l.n

abbrev pub decreases-loop-n : goal.decreases-loop-n
decreases-loop-n l = length l.src - l.n
