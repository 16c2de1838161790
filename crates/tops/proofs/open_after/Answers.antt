use Rattle.std.proofs.Common.{rules}
use Rattle.tops.specs.Tops.{open_of}
use Rattle.tops.proofs.open_after.Goals as goal

pub returns-then-is_around : goal.returns-then-is_around
unfolding open_of
returns-then-is_around c = search rules

pub returns-in-1 : goal.returns-in-1
unfolding open_of
returns-in-1 c = search rules

pub returns-in-2 : goal.returns-in-2
unfolding open_of
returns-in-2 c = search rules

pub returns-in_default-2 : goal.returns-in_default-2
unfolding open_of
returns-in_default-2 c = search rules
