use Rattle.std.proofs.Common.{◌≡◌, ◌∙◌, ◌+◌, ap, arith, length, length-append}
use Rattle.measure.specs.Look.{look_of}
use Rattle.measure.proofs.MeasureLaws.{span-next, span-none, looked-more, stage-on, stage-stop, stage-end}
use Rattle.measure.proofs.measure.Goals as goal

pub gives_back-requires : goal.gives_back-requires
gives_back-requires c = let h = looked-more _ _ _ _ c.look.ensures in omega (arith, h.0, h.1, h.2)

pub overflow_add-m : goal.overflow_add-m
overflow_add-m c = let h = looked-more _ _ _ _ c.look.ensures in omega (arith, h.1)

pub loop-words-preserved : goal.loop-words-preserved
loop-words-preserved c =
    let h = looked-more _ _ _ _ c.look.ensures in
    let steps = c.in-Some.ensures.steps in
    let i = c.loop-words.invariant in
    let two : length c.in-Some.words.now ≡ 2 = steps.1.1 ∙ i.pairs in
    let left : length c.loop-words.words-iterator.rest.now ≡ 2 + length c.next.new.self.rest.now = ap length steps.1.0 ∙ length-append c.in-Some.words.now c.next.new.self.rest.now ∙ ap (λ n. n + length c.next.new.self.rest.now) two in
    let here = c.look.ensures ∙ ap (look_of c.loop-words.m) c.part-line.ensures in
    record {
      can_next = omega (arith, steps.0, i.pairs);
      is_finite = tt;
      pairs = steps.0 ∙ i.pairs;
      room = omega (arith, h.1, left, i.room);
      given = omega (arith, h.1, h.2, i.given, c.gives_back.ensures.1);
      looks = omega (arith, h.0, h.1, i.looks);
      stage =
          stage-on c.args.text.now _ c.loop-words.m _ _ _ (span-next _ _ _ steps.1.0 two) i.stage c.look.result c.look.new.m here c.if-not-look.false c.gives_back.result c.gives_back.ensures.0;
    }

pub returns-in-None : goal.returns-in-None
returns-in-None c =
    let i = c.loop-words.invariant in
    stage-end c.args.text.now _ _ _ (span-none _ (omega (arith, c.in-None.ensures.steps.1.0, i.pairs))) i.stage

pub returns-then-not-look : goal.returns-then-not-look
returns-then-not-look c =
    let steps = c.in-Some.ensures.steps in
    let i = c.loop-words.invariant in
    let here = c.look.ensures ∙ ap (look_of c.loop-words.m) c.part-line.ensures in
    stage-stop c.args.text.now _ c.loop-words.m _ _ _ (span-next _ _ _ steps.1.0 (steps.1.1 ∙ i.pairs)) i.stage c.look.result c.look.new.m here c.if-not-look.true
