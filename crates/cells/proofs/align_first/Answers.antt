use mathlib.Core.Path.{◌∙◌}
use Rattle.cells.proofs.CellLaws.{first-none, first-pipe}
use Rattle.cells.proofs.align_first.Goals as goal

pub returns-in-Err : goal.returns-in-Err
returns-in-Err c = first-none c.args.sep.now c.args.cur _ _ c.in-Err.is c.next_cell.ensures

pub returns-in-Ok : goal.returns-in-Ok
returns-in-Ok c = first-pipe c.args.sep.now c.args.cur _ _ _ _ _ c.in-Ok.is c.next_cell.ensures c.part.ensures c.trim.ensures (c.from.ensures ∙ c.of.ensures)
