use mathlib.Core.Path.{◌≡◌}
use Prim.Native.Nat.{◌≤◌}
use lib.ListN.{length, drop}
use Rattle.classes.specs.Choice.{both}
use Rattle.equals.specs.Same.{same}
use Rattle.equals.proofs.same.Given as goal

abbrev pub invariant-loop-i : goal.invariant-loop-i
invariant-loop-i l = (l.i ≤ length l.a) × (both l.alike (same (drop l.i l.a) (drop l.i l.b)) ≡ same l.a l.b)
