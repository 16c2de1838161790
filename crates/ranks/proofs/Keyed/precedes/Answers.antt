use Rattle.std.proofs.Common.{ap, ◌∙◌}
use Rattle.std.specs.Ordering.{is_lt}
use Rattle.ranks.proofs.OrderLaws.{compared}
use Rattle.ranks.proofs.Keyed.precedes.Goals as goal

pub returns : goal.returns
returns c = c.is_lt.ensures ∙ ap is_lt (c.then.ensures ∙ rw (c.cmp.ensures, c.cmp-2.ensures, compared c.key.result c.args.key _ _ c.key.ensures c.requires))
