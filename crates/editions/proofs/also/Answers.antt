use Rattle.editions.proofs.AgainstLaws.{also-differ, also-same}
use Rattle.editions.proofs.also.Goals as goal

pub returns-then-x-y : goal.returns-then-x-y
returns-then-x-y c = also-differ c.args.x c.args.y c.args.before c.if-x-y.true

pub returns : goal.returns
returns c = also-same c.args.x c.args.y c.args.before c.if-x-y.false
