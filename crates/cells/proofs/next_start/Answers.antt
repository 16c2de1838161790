use native.Mathlib.Omega.{arith}
use mathlib.Core.Path.{sym, ◌∙◌}
use Rattle.cells.proofs.CellLaws.{pipe-within, past-none, past-pipe}
use Rattle.cells.proofs.next_start.Goals as goal

pub overflow_add-result : goal.overflow_add-result
overflow_add-result c = omega (arith, (pipe-within c.args.sep.now c.args.cur _ (sym c.next_cell.ensures ∙ c.in-Ok.is)).1, c.well_formed.1.0.1)

pub returns-in-Err : goal.returns-in-Err
returns-in-Err c = past-none c.args.sep.now c.args.cur _ _ c.in-Err.is c.next_cell.ensures

pub returns-in-Ok : goal.returns-in-Ok
returns-in-Ok c = past-pipe c.args.sep.now c.args.cur _ _ c.in-Ok.is c.next_cell.ensures
