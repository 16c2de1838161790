use Rattle.std.proofs.Common.{◌∙◌, ap, arith}
use Rattle.tops.proofs.PlaceLaws.{walked_next, walked-done}
use Rattle.tops.proofs.places.Goals as goal

pub loop-x-preserved : goal.loop-x-preserved
loop-x-preserved c =
    let l = c.loop-x in
    let step = rw l.invariant.0 at c.in-Some.ensures.steps in (
      ap (λ w. w.now) c.in-Some.ensures.steps.3 ∙ l.invariant.0,
      rw c.in-Some.ensures.steps.4 (walked_next c.args.words.now c.args.out.now l.x-iterator.next l.w l.out l.invariant.1 step.2 _ step.1 _ c.note-w.ensures.0 _ c.note-w.ensures.1),
    )

pub returns : goal.returns
returns c =
    let l = c.loop-x in
    walked-done c.args.words.now c.args.out.now l.x-iterator.next l.w l.out l.invariant.1 (rw l.invariant.0 at c.in-None.ensures.steps)
