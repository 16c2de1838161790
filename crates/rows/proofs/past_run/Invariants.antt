use Rattle.std.proofs.Common.{◌≡◌, ◌<◌, ◌≤◌, ◌-◌, length, drop}
use Rattle.rows.specs.Rows.{cell_from}
use Rattle.rows.proofs.past_run.Given as goal

abbrev pub invariant-loop-t : goal.invariant-loop-t
invariant-loop-t l = record {
  past : l.i < l.k;
  in_row : l.k ≤ length l.row;
  open_run : 0 < l.n;
  ahead : cell_from 0 0 l.i (drop l.i l.row) ≡ cell_from 0 l.n l.k (drop l.k l.row);
}

abbrev pub decreases-loop-t : goal.decreases-loop-t
decreases-loop-t l = length l.row - l.k
