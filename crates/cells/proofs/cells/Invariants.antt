use Prim.Native.Nat.{◌-◌}
use lib.ListN.{length}
use Rattle.trim.specs.Trim.{part_of}
use Rattle.cells.proofs.RowLaws.{Loop}
use Rattle.cells.proofs.cells.Given as goal

abbrev pub invariant-loop-at : goal.invariant-loop-at
invariant-loop-at l = Loop l.text (part_of l.text l.s l.e) l.s l.initial.al l.initial.b l.initial.events l.at l.i l.separators l.al l.b l.events

abbrev pub decreases-loop-at : goal.decreases-loop-at
decreases-loop-at l = length l.row - l.at
