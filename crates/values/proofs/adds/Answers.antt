use Rattle.std.proofs.Common.{sym, ◌∙◌}
use Rattle.sets.specs.Words.{listed_as}
use Rattle.values.proofs.KeptLaws.{adds_none, adds-some}
use Rattle.values.proofs.adds.Goals as goal

pub returns-then-has_key : goal.returns-then-has_key
returns-then-has_key c = adds-some c.args.bytes.now c.args.key.now (listed_as c.args.e) (sym c.if-has_key.ensures)

pub returns-else-has_key : goal.returns-else-has_key
returns-else-has_key c = c.if-has_key.false ∙ adds_none c.args.bytes.now c.args.key.now (listed_as c.args.e) (sym c.if-has_key.ensures)
