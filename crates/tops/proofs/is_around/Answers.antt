use Rattle.std.proofs.Common.{rules}
use Rattle.tops.specs.Tops.{is_around}
use Rattle.tops.proofs.is_around.Goals as goal

pub returns-in-1 : goal.returns-in-1
unfolding is_around
returns-in-1 c = search rules

pub returns-in_default : goal.returns-in_default
unfolding is_around
returns-in_default c = search rules
