use native.Mathlib.Omega.{arith}
use mathlib.Core.Path.{refl, sym, ◌∙◌}
use lib.Dec.{eqb}
use Rattle.lines.specs.Lines.{span}
use Rattle.events.specs.View.{view}
use Rattle.leaves.proofs.LineLaws.{inlines-start, inlines-end, inlines-stop, inlines-on}
use Rattle.events.proofs.StateLaws.{same-on}
use Rattle.leaves.proofs.inlines.Goals as goal

pub loop-k-init : goal.loop-k-init
loop-k-init c =
    let a = c.args in
    (c.requires, refl, record { depth = refl; lists = refl; sections = refl }, λ x l v. inlines-start a.text.now a.kind a.lines.now (view a.st a.events.now x l v))

pub overflow_add-last : goal.overflow_add-last
overflow_add-last c = omega (arith, c.loop-k-test.true)

pub overflow_mul-k : goal.overflow_mul-k
overflow_mul-k c = omega (arith, c.loop-k-test.true)

pub offset_bounds-lines-k : goal.offset_bounds-lines-k
offset_bounds-lines-k c = omega (arith, c.loop-k-test.true)

pub bounds-lines-k : goal.bounds-lines-k
bounds-lines-k c = omega (arith, c.loop-k-test.true)

pub overflow_mul-k-in-loop-k : goal.overflow_mul-k-in-loop-k
overflow_mul-k-in-loop-k c = omega (arith, c.loop-k-test.true)

pub overflow_add-k : goal.overflow_add-k
overflow_add-k c = omega (arith, c.loop-k-test.true)

pub offset_bounds-lines-k-in-loop-k : goal.offset_bounds-lines-k-in-loop-k
offset_bounds-lines-k-in-loop-k c = omega (arith, c.loop-k-test.true)

pub bounds-lines-k-in-loop-k : goal.bounds-lines-k-in-loop-k
bounds-lines-k-in-loop-k c = omega (arith, c.loop-k-test.true)

pub line_event-b-requires : goal.line_event-b-requires
line_event-b-requires c = c.loop-k.invariant.0

pub returns-then-b-ne0 : goal.returns-then-b-ne0
returns-then-b-ne0 c =
    let a = c.args in
    let o = c.loop-k in
    let n = c.line_event-b.ensures in record { by_index = λ x l v. sym (inlines-stop a.text.now a.kind a.lines.now (eqb o.k 0) o.k c.loop-k-test.true (view o.a o.events x l v) (view c.line_event-b.result c.line_event-b.new.events x l v) (span c.leaf_line-l.result.start c.leaf_line-l.result.end) c.leaf_line-l.ensures (n.by_index x l v) c.if-b-ne0.true) ∙ o.invariant.3 x l v; words_in_bounds = (n.words_in_bounds.0, same-on _ _ _ o.invariant.2 n.words_in_bounds.1) }

pub overflow_add-k-in-loop-k : goal.overflow_add-k-in-loop-k
overflow_add-k-in-loop-k c = omega (arith, c.loop-k-test.true, c.well_formed.1.0)

pub loop-k-smaller : goal.loop-k-smaller
loop-k-smaller c = omega (arith, c.loop-k-test.true)

pub loop-k-preserved : goal.loop-k-preserved
loop-k-preserved c =
    let a = c.args in
    let o = c.loop-k in
    let n = c.line_event-b.ensures in (
      n.words_in_bounds.0,
      c.line_event-b.auto.events ∙ o.invariant.1,
      same-on _ _ _ o.invariant.2 n.words_in_bounds.1,
      λ x l v. sym (inlines-on a.text.now a.kind a.lines.now (eqb o.k 0) o.k c.loop-k-test.true (view o.a o.events x l v) (view c.line_event-b.result c.line_event-b.new.events x l v) (span c.leaf_line-l.result.start c.leaf_line-l.result.end) c.leaf_line-l.ensures (n.by_index x l v) c.if-b-ne0.false) ∙ o.invariant.3 x l v,
    )

pub returns : goal.returns
returns c =
    let a = c.args in
    let o = c.loop-k in record { by_index = λ x l v. inlines-end a.text.now a.kind a.lines.now (eqb o.k 0) o.k (view o.a o.events x l v) c.loop-k-test.false ∙ o.invariant.3 x l v; words_in_bounds = (o.invariant.0, o.invariant.2) }
