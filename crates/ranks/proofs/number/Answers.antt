use Rattle.std.proofs.Common.{arith}
use Rattle.ranks.proofs.SortedLaws.{upto-start, upto-turn}
use Rattle.ranks.proofs.number.Goals as goal

pub loop-i-init : goal.loop-i-init
loop-i-init c = upto-start

pub loop-i-preserved : goal.loop-i-preserved
loop-i-preserved c = upto-turn c.loop-i.places c.loop-i.i (omega arith) c.loop-i.invariant
