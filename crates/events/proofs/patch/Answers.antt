use Rattle.events.proofs.EventLaws.{patch-view}
use Rattle.events.proofs.patch.Goals as goal

pub returns : goal.returns
returns c = patch-view c.args.st c.args.events.now c.args.i c.args.v c.requires.0
