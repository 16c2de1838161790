use native.Mathlib.Omega.{arith}
use mathlib.Core.Path.{refl}
use Prim.Native.Nat.{◌+◌, ◌*◌, ◌/◌, ◌<◌}
use lib.ListN.{length}
use Rattle.cells.proofs.CellLaws.{span-bounds}
use Rattle.cells.proofs.EndLaws.{rest-start, rest_end, rest-blank, rest-stop, rest-next}
use Rattle.events.proofs.StateLaws.{same-on}
use Rattle.cells.proofs.rows_of.Goals as goal

pub loop-k-init : goal.loop-k-init
loop-k-init c = (refl, omega arith, rest-start c.args.text.now c.args.lines.now c.args.st c.args.events.now c.requires)

pub overflow_mul-k : goal.overflow_mul-k
overflow_mul-k c = omega (arith, c.loop-k-test.true, c.loop-k.invariant.0, c.well_formed.1.0.1)

pub offset_bounds-lines-k : goal.offset_bounds-lines-k
offset_bounds-lines-k c = omega (arith, c.loop-k-test.true, c.loop-k.invariant.0, c.well_formed.1.0.1)

pub bounds-lines-k : goal.bounds-lines-k
bounds-lines-k c = omega (arith, c.loop-k-test.true, c.loop-k.invariant.0)

pub overflow_cast-lines : goal.overflow_cast-lines
overflow_cast-lines c = omega (arith, c.type_inv.lines (2 * c.loop-k.k))

pub overflow_mul-k-in-loop-k : goal.overflow_mul-k-in-loop-k
overflow_mul-k-in-loop-k c = omega (arith, c.loop-k-test.true, c.loop-k.invariant.0, c.well_formed.1.0.1)

pub overflow_add-k : goal.overflow_add-k
overflow_add-k c = omega (arith, c.loop-k-test.true, c.loop-k.invariant.0, c.well_formed.1.0.1)

pub offset_bounds-lines-k-in-loop-k : goal.offset_bounds-lines-k-in-loop-k
offset_bounds-lines-k-in-loop-k c = omega (arith, c.loop-k-test.true, c.loop-k.invariant.0, c.well_formed.1.0.1)

pub bounds-lines-k-in-loop-k : goal.bounds-lines-k-in-loop-k
bounds-lines-k-in-loop-k c = omega (arith, c.loop-k-test.true, c.loop-k.invariant.0)

pub overflow_cast-lines-in-loop-k : goal.overflow_cast-lines-in-loop-k
overflow_cast-lines-in-loop-k c = omega (arith, c.type_inv.lines (2 * c.loop-k.k + 1))

pub returns-then-t : goal.returns-then-t
returns-then-t c =
    let a = c.args in
    let l = c.loop-k in
    let h : l.k < length a.lines.now / 2 = omega (arith, c.loop-k-test.true, l.invariant.0) in record { by_index = rest-blank a.text.now a.lines.now a.st a.events.now l.k l.r l.events l.invariant.2 h (2 * l.k) (2 * l.k + 1) refl refl c.trim_span-t.result c.trim_span-t.ensures c.if-t.true; words_in_bounds = (l.invariant.2.words, l.invariant.2.same) }

pub row-next-requires : goal.row-next-requires
row-next-requires c =
    let a = c.args in
    let l = c.loop-k in
    let b = span-bounds a.text.now _ _ c.trim_span-t.result c.trim_span-t.ensures in
    let f = c.type_inv.lines (2 * l.k + 1) in
    let g : c.trim_span-t.result.start < c.trim_span-t.result.end = omega (arith, b.0, c.if-t.false) in
    (l.invariant.2.words, g, omega (arith, b, f, g), l.invariant.2.ready)

pub returns-then-now-ne0 : goal.returns-then-now-ne0
returns-then-now-ne0 c =
    let a = c.args in
    let l = c.loop-k in
    let q = c.row-next in
    let h : l.k < length a.lines.now / 2 = omega (arith, c.loop-k-test.true, l.invariant.0) in record { by_index = rest-stop a.text.now a.lines.now a.st a.events.now l.k l.r l.events l.invariant.2 h (2 * l.k) (2 * l.k + 1) refl refl c.trim_span-t.result c.trim_span-t.ensures c.if-t.false q.result q.new.events q.ensures.by_index c.if-now-ne0.true; words_in_bounds = (q.ensures.words_in_bounds.0, same-on a.st l.r.st q.result.st l.invariant.2.same q.ensures.words_in_bounds.1) }

pub overflow_add-k-in-loop-k : goal.overflow_add-k-in-loop-k
overflow_add-k-in-loop-k c = omega (arith, c.loop-k-test.true, c.loop-k.invariant.0, c.well_formed.1.0.1)

pub loop-k-smaller : goal.loop-k-smaller
loop-k-smaller c = omega (arith, c.loop-k-test.true)

pub loop-k-preserved : goal.loop-k-preserved
loop-k-preserved c =
    let a = c.args in
    let l = c.loop-k in
    let q = c.row-next in
    let h : l.k < length a.lines.now / 2 = omega (arith, c.loop-k-test.true, l.invariant.0) in (
      l.invariant.0,
      omega (arith, c.loop-k-test.true),
      rest-next a.text.now a.lines.now a.st a.events.now l.k l.r l.events l.invariant.2 h (2 * l.k) (2 * l.k + 1) refl refl c.trim_span-t.result c.trim_span-t.ensures c.if-t.false q.result q.new.events q.ensures.by_index c.if-now-ne0.false
          q.ensures.words_in_bounds.0 q.auto.events q.ensures.words_in_bounds.1 (q.ensures.words_in_bounds.2 c.if-now-ne0.false),
    )

pub returns : goal.returns
returns c =
    let a = c.args in
    let l = c.loop-k in record { by_index = rest_end a.text.now a.lines.now a.st a.events.now l.k l.r l.events l.invariant.2 (omega (arith, c.loop-k-test.false, l.invariant.0)); words_in_bounds = (l.invariant.2.words, l.invariant.2.same) }
