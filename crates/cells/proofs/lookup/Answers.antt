use native.Mathlib.Omega.{arith}
use Rattle.cells.proofs.HeldLaws.{look-text}
use Rattle.cells.proofs.lookup.Goals as goal

pub overflow_add-at : goal.overflow_add-at
overflow_add-at c = omega (arith, (c.requires.cells c.args.i c.if-i-al.true).0)

pub overflow_mul-at-then-i-al : goal.overflow_mul-at-then-i-al
overflow_mul-at-then-i-al c = omega (arith, (c.requires.cells c.args.i c.if-i-al.true).0)

pub overflow_add-at-then-i-al : goal.overflow_add-at-then-i-al
overflow_add-at-then-i-al c = omega (arith, (c.requires.cells c.args.i c.if-i-al.true).0)

pub overflow_add-result : goal.overflow_add-result
overflow_add-result c = omega (arith, (c.requires.cells c.args.i c.if-i-al.true).0)

pub offset_bounds-events-at : goal.offset_bounds-events-at
offset_bounds-events-at c = omega (arith, (c.requires.cells c.args.i c.if-i-al.true).0)

pub bounds-events-at : goal.bounds-events-at
bounds-events-at c = omega (arith, (c.requires.cells c.args.i c.if-i-al.true).0)

pub returns-then-i-al : goal.returns-then-i-al
returns-then-i-al c = (c.requires.cells c.args.i c.if-i-al.true).1

pub returns : goal.returns
returns c =
    let a = c.args in
    look-text a.text.now _ a.i _ a.al c.requires.place c.if-i-al.false c.part.ensures c.align_first.ensures
