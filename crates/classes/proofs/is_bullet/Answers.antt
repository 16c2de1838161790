use Rattle.std.proofs.Common.{rules}
use Rattle.classes.specs.Classes.{is_bullet}
use Rattle.classes.proofs.is_bullet.Goals as goal

pub returns-in_default : goal.returns-in_default
unfolding is_bullet
returns-in_default c = search rules

pub returns-in_default-2 : goal.returns-in_default-2
unfolding is_bullet
returns-in_default-2 c = search rules

pub returns-in-45 : goal.returns-in-45
unfolding is_bullet
returns-in-45 c = search rules

pub returns-in-45-2 : goal.returns-in-45-2
unfolding is_bullet
returns-in-45-2 c = search rules
