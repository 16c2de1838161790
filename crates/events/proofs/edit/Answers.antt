use Rattle.events.proofs.EventLaws.{edit-view}
use Rattle.events.proofs.edit.Goals as goal

pub returns : goal.returns
returns c = edit-view c.args.st c.args.events.now c.put.new.events c.args.i c.args.x c.requires.0 c.put.ensures
