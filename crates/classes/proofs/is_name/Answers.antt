use Rattle.std.proofs.Common.{rules}
use Rattle.classes.specs.Classes.{is_name}
use Rattle.classes.proofs.is_name.Goals as goal

pub returns-then-in_range-3 : goal.returns-then-in_range-3
unfolding is_name
returns-then-in_range-3 c = search rules

pub returns-in-95 : goal.returns-in-95
unfolding is_name
returns-in-95 c = search rules

pub returns-in_default : goal.returns-in_default
unfolding is_name
returns-in_default c = search rules
