use Rattle.std.proofs.Common.{◌∙◌, sym, arith}
use Rattle.kinds.proofs.ByteLaws.{break-mark, break-gap, break-other, break-end}
use Rattle.kinds.proofs.is_break.Goals as goal
use Rattle.kinds.proofs.is_break.Goals.{then-is_mark, else-is_mark+else-not-is_space}

pub returns-then-not-is_space : goal.returns-then-not-is_space
returns-then-not-is_space c =
    let l = c.loop-b in
    sym (l.invariant.1 ∙ break-other c.args.t.now l.marks l.b-index c.loop-b-test.true (sym c.is_mark.ensures ∙ c.if-is_mark.false) (sym c.is_space.ensures ∙ c.if-not-is_space.true))

pub loop-b-preserved : goal.loop-b-preserved
loop-b-preserved c =
    let l = c.loop-b in
    let t = c.args.t.now in
    elim c.if-is_mark.branch [
      | then-is_mark w ↦ (omega (arith, w.marks-is), rw w.marks-is (l.invariant.1 ∙ break-mark t l.marks l.b-index c.loop-b-test.true (sym c.is_mark.ensures ∙ w.if-is_mark.true)))
      | else-is_mark+else-not-is_space w ↦ (omega (arith, w.marks-is), rw w.marks-is (l.invariant.1 ∙ break-gap t l.marks l.b-index c.loop-b-test.true (sym c.is_mark.ensures ∙ w.if-is_mark.false) (sym w.is_space.ensures ∙ w.if-not-is_space.false)))
    ]

pub returns : goal.returns
returns c = let l = c.loop-b in sym (l.invariant.1 ∙ break-end c.args.t.now l.marks l.b-index c.loop-b-test.false)
