use mathlib.Core.Path.{◌∙◌}
use Rattle.editions.proofs.PartLaws.{changed-older, changed-newer}
use Rattle.editions.proofs.changed.Goals as goal

pub returns-in-Older : goal.returns-in-Older
returns-in-Older c = c.older_part.ensures ∙ changed-older c.args.older.now c.args.newer.now c.args.c c.in-Older.is

pub returns-in-Newer : goal.returns-in-Newer
returns-in-Newer c = c.newer_part.ensures ∙ changed-newer c.args.older.now c.args.newer.now c.args.c c.in-Newer.is
