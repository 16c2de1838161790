use Rattle.std.proofs.Common.{arith}
use Rattle.numbers.proofs.NumberLaws.{worth}
use Rattle.numbers.proofs.RomanLaws.{roman-start, roman-end, roman-bound, roman-sub, roman-add}
use Rattle.numbers.proofs.roman.Goals as goal

pub loop-b-init : goal.loop-b-init
loop-b-init c = roman-start _ _ (cc)

pub overflow_add-v : goal.overflow_add-v
overflow_add-v c = let l = c.loop-b in omega (arith, roman-bound c.args.s.now l.b-iterator.iter.rest.now c.next.new.self.iter.rest.now c.in-Some.b.now l.v l.right c.unwrap_or-d.result c.in-Some.ensures.steps l.invariant (worth _ _ _ c.letter.ensures c.unwrap_or-d.ensures))

pub loop-b-preserved-then-d-right : goal.loop-b-preserved-then-d-right
loop-b-preserved-then-d-right c = let l = c.loop-b in roman-sub c.args.s.now l.b-iterator.iter.rest.now _ c.in-Some.b.now l.v l.right c.unwrap_or-d.result c.in-Some.ensures.steps l.invariant (worth _ _ _ c.letter.ensures c.unwrap_or-d.ensures) c.if-d-right.true

pub loop-b-preserved : goal.loop-b-preserved
loop-b-preserved c = let l = c.loop-b in roman-add c.args.s.now l.b-iterator.iter.rest.now _ c.in-Some.b.now l.v l.right c.unwrap_or-d.result c.in-Some.ensures.steps l.invariant (worth _ _ _ c.letter.ensures c.unwrap_or-d.ensures) c.if-d-right.false

pub returns : goal.returns
returns c = let l = c.loop-b in roman-end _ l.b-iterator.iter.rest.now l.v l.right l.invariant c.in-None.ensures.steps.0
