use mathlib.Core.Path.{◌∙◌}
use Rattle.editions.proofs.PartLaws.{older-yes, older-no}
use Rattle.editions.proofs.older_part.Goals as goal

pub returns-in-Older : goal.returns-in-Older
returns-in-Older c = c.part.ensures ∙ older-yes c.args.older.now c.args.c c.in-Older.is

pub returns-in-Newer : goal.returns-in-Newer
returns-in-Newer c = c.part-in-Newer.ensures ∙ older-no c.args.older.now c.args.c c.in-Newer.is
