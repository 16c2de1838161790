use native.Mathlib.Omega.{arith}
use mathlib.Core.Path.{refl}
use Rattle.equals.proofs.SameLaws.{same-lengths, same-differ, same-on, same_end}
use Rattle.equals.proofs.same.Goals as goal
use Rattle.equals.proofs.same.Goals.{then-a-i, else-a-i}

pub returns-then-a-b : goal.returns-then-a-b
returns-then-a-b c = same-lengths c.args.a.now c.args.b.now c.if-a-b.true

pub loop-i-init : goal.loop-i-init
loop-i-init c = (omega arith, refl)

pub loop-i-preserved : goal.loop-i-preserved
loop-i-preserved c =
    let l = c.loop-i in
    elim c.if-a-i.branch [
      | then-a-i w ↦ (omega arith, same-differ c.args.a.now c.args.b.now c.if-a-b.false l.alike l.i c.loop-i-test.true w.if-a-i.true l.invariant.1 _ w.alike-is)
      | else-a-i w ↦ (omega arith, same-on c.args.a.now c.args.b.now c.if-a-b.false l.alike l.i c.loop-i-test.true w.if-a-i.false l.invariant.1 _ w.alike-is)
    ]

pub returns : goal.returns
returns c = same_end c.args.a.now c.args.b.now c.if-a-b.false c.loop-i.alike c.loop-i.i c.loop-i-test.false c.loop-i.invariant.1
