use Rattle.std.proofs.Common.{◌≡◌, ◌-◌, length, drop}
use Rattle.rows.specs.Rows.{cell_from, cell_of}
use Rattle.rows.proofs.next_cell.Given as goal

abbrev pub invariant-loop-k : goal.invariant-loop-k
invariant-loop-k l = cell_of l.row l.at ≡ cell_from 0 0 l.i (drop l.i l.row)

abbrev pub decreases-loop-k : goal.decreases-loop-k
decreases-loop-k l = length l.row - l.i
