use Rattle.editions.proofs.AgainstLaws.{event-chain}
use Rattle.editions.proofs.same_event.Goals as goal

pub returns : goal.returns
returns c = event-chain c.args.x c.args.y _ _ _ _ _ _ _ c.also.ensures c.also-node.ensures c.also-start.ensures c.also-end.ensures c.also-a.ensures c.also-b.ensures c.also-c.ensures
