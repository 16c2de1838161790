use Rattle.std.proofs.Common.{◌∙◌, sym, arith}
use Rattle.numbers.proofs.NumberLaws.{grows, decimal-turn, decimal-end}
use Rattle.numbers.proofs.decimal.Goals as goal

pub overflow_mul-v : goal.overflow_mul-v
overflow_mul-v c = let l = c.loop-b in omega (arith, grows l.b-index l.v 9 (omega arith) l.invariant.0 (omega arith))

pub overflow_add-v : goal.overflow_add-v
overflow_add-v c = let l = c.loop-b in omega (arith, grows l.b-index l.v c.digit.result (omega arith) l.invariant.0 c.digit.ensures.1)

pub loop-b-preserved : goal.loop-b-preserved
loop-b-preserved c =
    let l = c.loop-b in
    let g = grows l.b-index l.v c.digit.result (omega arith) l.invariant.0 c.digit.ensures.1 in
    (g.0, l.invariant.1 ∙ decimal-turn l.v _ l.b-index _ (omega arith) c.digit.ensures.0)

pub returns : goal.returns
returns c = let l = c.loop-b in sym (l.invariant.1 ∙ decimal-end l.v _ l.b-index (omega arith))
