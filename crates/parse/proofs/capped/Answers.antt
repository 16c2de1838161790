use Rattle.parse.proofs.ParseLaws.{capped_is}
use Rattle.parse.proofs.capped.Goals as goal

pub returns : goal.returns
returns c = capped_is c.args.lim _ _ c.least.ensures c.least-2.ensures
