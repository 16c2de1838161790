use native.Mathlib.Omega.{arith}
use lib.ListN.{length-set}
use Rattle.events.proofs.ClearLaws.{clear-start, clear-turn, clear-end}
use Rattle.events.proofs.clear.Goals as goal

pub loop-i-init : goal.loop-i-init
loop-i-init c = clear-start c.args.words.now c.args.from c.requires

pub loop-i-smaller : goal.loop-i-smaller
loop-i-smaller c = omega (arith, c.loop-i.invariant.size)

pub loop-i-preserved : goal.loop-i-preserved
loop-i-preserved c = clear-turn c.args.words.now c.args.from c.loop-i.words c.loop-i.i c.loop-i-test.true (length-set c.loop-i.words c.loop-i.i 0) c.loop-i.invariant

pub returns : goal.returns
returns c = clear-end c.args.words.now c.args.from c.loop-i.words c.loop-i.i c.loop-i-test.false c.loop-i.invariant
