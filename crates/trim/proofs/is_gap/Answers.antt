use Rattle.std.proofs.Common.{rules}
use Rattle.trim.specs.Trim.{is_gap}
use Rattle.trim.proofs.is_gap.Goals as goal

pub returns-then-b-ne10 : goal.returns-then-b-ne10
unfolding is_gap
returns-then-b-ne10 c = search rules

pub returns-else-b-ne10 : goal.returns-else-b-ne10
unfolding is_gap
returns-else-b-ne10 c = search rules
