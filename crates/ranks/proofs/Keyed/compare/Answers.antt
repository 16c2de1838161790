use Rattle.std.proofs.Common.{◌∙◌}
use Rattle.ranks.proofs.OrderLaws.{compared}
use Rattle.ranks.proofs.Keyed.compare.Goals as goal

pub returns : goal.returns
returns c = c.then.ensures ∙ rw (c.cmp.ensures, c.cmp-2.ensures, compared c.key.result c.key-2.result _ _ c.key.ensures c.key-2.ensures)
