use Rattle.std.proofs.Common.{rules}
use Rattle.classes.specs.Classes.{is_space}
use Rattle.classes.proofs.is_space.Goals as goal

pub returns-then-b-eq12 : goal.returns-then-b-eq12
unfolding is_space
returns-then-b-eq12 c = search rules

pub returns-else-b-eq12 : goal.returns-else-b-eq12
unfolding is_space
returns-else-b-eq12 c = search rules
