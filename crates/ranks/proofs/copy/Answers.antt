use Rattle.std.proofs.Common.{refl, sym, arith}
use Rattle.ranks.proofs.MergeLaws.{written_start, written-turn, written-end}
use Rattle.ranks.proofs.copy.Goals as goal

pub loop-i-init : goal.loop-i-init
loop-i-init c = written_start c.args.from.now c.args.to.now (sym c.requires)

pub loop-i-preserved : goal.loop-i-preserved
loop-i-preserved c = let l = c.loop-i in written-turn c.args.from.now l.to l.i _ (omega (arith, c.loop-i-test.true, l.invariant.size, c.requires)) refl l.invariant

pub returns : goal.returns
returns c = let l = c.loop-i in written-end c.args.from.now l.to l.i (omega (arith, c.loop-i-test.false, l.invariant.size, c.requires)) l.invariant
