use Rattle.sets.specs.Given.{stays}
use Rattle.std.proofs.Common.{arith}
use Rattle.std.proofs.lemmas.Grind.{common_steps}
use Rattle.sets.proofs.stays.Goals as goal

pub returns-then-t-eq13 : goal.returns-then-t-eq13
unfolding stays
returns-then-t-eq13 c = grind (arith, common_steps)

pub returns-else-t-eq13 : goal.returns-else-t-eq13
unfolding stays
returns-else-t-eq13 c = grind (arith, common_steps)
