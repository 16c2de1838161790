use mathlib.Core.Path.{◌∙◌}
use Rattle.editions.proofs.PartLaws.{newer-no, newer-yes}
use Rattle.editions.proofs.newer_part.Goals as goal

pub returns-in-Older : goal.returns-in-Older
returns-in-Older c = c.part.ensures ∙ newer-no c.args.newer.now c.args.c c.in-Older.is

pub returns-in-Newer : goal.returns-in-Newer
returns-in-Newer c = c.part-in-Newer.ensures ∙ newer-yes c.args.newer.now c.args.c c.in-Newer.is
