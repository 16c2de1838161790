use Rattle.std.proofs.Common.{◌≡◌, ◌∙◌, ap, arith}
use Rattle.std.specs.Slice.Iter.{chunks_rest}
use Rattle.lines.specs.Lines.{newlines_of}
use Rattle.lines.proofs.CountLaws.{newlines-append, newlines-le}
use Rattle.lines.proofs.count_newlines.Goals as goal

pub overflow_add-count : goal.overflow_add-count
overflow_add-count c =
    let e = ap newlines_of c.in-Some.ensures.steps.1.0 ∙ newlines-append c.in-Some.part.now _ in
    omega (arith, e, c.newlines.ensures, c.from-count.ensures, c.loop-part.invariant.1, newlines-le c.args.text.now)

pub loop-part-preserved : goal.loop-part-preserved
loop-part-preserved c =
    let e = ap newlines_of c.in-Some.ensures.steps.1.0 ∙ newlines-append c.in-Some.part.now _ in
    (c.in-Some.ensures.steps.0 ∙ c.loop-part.invariant.0, omega (arith, e, c.newlines.ensures, c.from-count.ensures, c.loop-part.invariant.1))

pub returns : goal.returns
returns c =
    let e : c.loop-part.count ≡ newlines_of c.args.text.now = omega (arith, c.loop-part.invariant.1, c.in-None.ensures.steps.1.0, newlines-le (chunks_rest c.loop-part.part-iterator)) in
    (e, omega (arith, e, newlines-le c.args.text.now))
