use mathlib.Core.Path.{◌≡◌}
use Prim.Native.Nat.{◌-◌, ◌≤◌, ◌<◌}
use lib.ListN.{length, drop}
use Rattle.attrs.specs.Machine.{valid_from, valid_of}
use Rattle.attrs.proofs.valid.Given as goal

abbrev pub invariant-loop-n : goal.invariant-loop-n
invariant-loop-n l = (l.state < 18) × ((l.n ≤ length l.src) × (valid_of l.src ≡ valid_from l.state l.n (drop l.n l.src)))

abbrev pub decreases-loop-n : goal.decreases-loop-n
decreases-loop-n l = length l.src - l.n
