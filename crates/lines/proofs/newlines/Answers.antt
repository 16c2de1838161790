use Rattle.std.proofs.Common.{arith}
use Rattle.lines.proofs.CountLaws.{newline-yes, newline-no, newline-end}
use Rattle.lines.proofs.newlines.Goals as goal
use Rattle.lines.proofs.newlines.Goals.{then-b-eq10, else-b-eq10}

pub loop-b-preserved : goal.loop-b-preserved
loop-b-preserved c =
    let l = c.loop-b in
    elim c.if-b-eq10.branch [ then-b-eq10 w ↦ (omega arith, omega (arith, w.n-is), omega (arith, w.n-is, l.invariant.2, newline-yes c.args.s.now l.b-index c.loop-b-test.true w.if-b-eq10.true)) | else-b-eq10 w ↦ (omega arith, omega (arith, w.n-is), omega (arith, w.n-is, l.invariant.2, newline-no c.args.s.now l.b-index c.loop-b-test.true w.if-b-eq10.false)) ]

pub returns : goal.returns
returns c =
    let l = c.loop-b in
    omega (arith, l.invariant.2, newline-end c.args.s.now l.b-index c.loop-b-test.false)
