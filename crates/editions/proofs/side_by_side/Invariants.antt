use Prim.Native.Nat.{◌-◌, ◌/◌}
use lib.ListN.{length}
use Rattle.tops.proofs.PlaceLaws.{Walked}
use Rattle.editions.proofs.HoldLaws.{Beside}
use Rattle.editions.proofs.side_by_side.Given as goal

abbrev pub invariant-loop-i : goal.invariant-loop-i
invariant-loop-i l = Beside l.given l.parsed l.i l.alike × Walked l.parsed l.initial.out l.i l.w l.out

abbrev pub decreases-loop-i : goal.decreases-loop-i
decreases-loop-i l = length l.parsed / 8 - l.i
