use Rattle.std.proofs.Common.{rules}
use Rattle.classes.specs.Classes.{within}
use Rattle.classes.proofs.in_range.Goals as goal

pub returns-then-lo-b : goal.returns-then-lo-b
unfolding within
returns-then-lo-b c = search rules

pub returns-else-lo-b : goal.returns-else-lo-b
unfolding within
returns-else-lo-b c = search rules
