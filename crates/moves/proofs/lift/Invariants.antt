use mathlib.Core.Path.{◌≡◌}
use Prim.Native.Nat.{◌≤◌}
use lib.ListN.{length}
use Rattle.moves.proofs.MoveLaws.{lifted}
use Rattle.moves.proofs.lift.Given as goal

abbrev pub invariant-loop-j : goal.invariant-loop-j
invariant-loop-j l = (l.a ≤ l.j) × (l.j ≤ l.w) × (length l.events ≡ length l.initial.events) × (l.events ≡ lifted l.initial.events l.w l.s l.j)

abbrev pub decreases-loop-j : goal.decreases-loop-j
decreases-loop-j l = l.j
