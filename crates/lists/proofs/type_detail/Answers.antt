use mathlib.Core.Path.{◌∙◌}
use Rattle.lists.proofs.ListLaws.{ordered-detail}
use Rattle.lists.proofs.type_detail.Goals as goal

pub returns-in-Ordered : goal.returns-in-Ordered
returns-in-Ordered c = ordered-detail c.args.m _ _ _ _ _ c.in-Ordered.is (c.wide-in-Ordered.ensures ∙ c.from.ensures) (c.wide-in-Ordered-2.ensures ∙ c.from-in-Ordered.ensures)
