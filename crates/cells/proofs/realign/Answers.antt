use native.Mathlib.Omega.{arith}
use mathlib.Core.Path.{◌≡◌, refl, sym, ap, ◌∙◌}
use mathlib.Core.List.{List}
use Prim.Native.Nat.{ℕ}
use Rattle.events.specs.View.{view}
use Rattle.walk.specs.Table.{cell_at, align_cells}
use Rattle.cells.proofs.CellLaws.{first_cell, next-cell, value-at}
use Rattle.cells.proofs.HeadLaws.{align-start, align-turn, align-end}
use Rattle.cells.proofs.realign.Goals as goal

pub loop-i-init : goal.loop-i-init
loop-i-init c =
    let a = c.args in
    (omega arith, refl, first_cell c.part-sep.result.now, λ k l v. align-start c.part-sep.result.now a.row a.n (view a.st a.events.now k l v))

pub overflow_add-at : goal.overflow_add-at
overflow_add-at c = omega (arith, c.requires.0, c.requires.1, c.well_formed.1.0.1)

pub overflow_mul-at-in-loop-i : goal.overflow_mul-at-in-loop-i
overflow_mul-at-in-loop-i c = omega (arith, c.loop-i-test.true, c.requires.0, c.requires.1)

pub overflow_add-at-in-loop-i : goal.overflow_add-at-in-loop-i
overflow_add-at-in-loop-i c = omega (arith, c.loop-i-test.true, c.requires.0, c.requires.1)

pub overflow_add-at-in-loop-i-2 : goal.overflow_add-at-in-loop-i-2
overflow_add-at-in-loop-i-2 c = omega (arith, c.loop-i-test.true, c.requires.0, c.requires.1)

pub patch-requires : goal.patch-requires
patch-requires c = (omega (arith, c.loop-i-test.true, c.requires.1), omega (arith, c.requires.0, c.loop-i.invariant.1))

pub overflow_add-at-in-loop-i-3 : goal.overflow_add-at-in-loop-i-3
overflow_add-at-in-loop-i-3 c = omega (arith, c.loop-i-test.true, c.requires.0, c.requires.1)

pub patch-requires-in-loop-i : goal.patch-requires-in-loop-i
patch-requires-in-loop-i c = (omega (arith, c.loop-i-test.true, c.requires.1), omega (arith, c.requires.0, c.loop-i.invariant.1, c.patch.auto.events))

pub overflow_add-i : goal.overflow_add-i
overflow_add-i c = omega (arith, c.loop-i-test.true)

pub loop-i-smaller : goal.loop-i-smaller
loop-i-smaller c = omega (arith, c.loop-i-test.true)

pub loop-i-preserved : goal.loop-i-preserved
loop-i-preserved c =
    let a = c.args in
    let l = c.loop-i in
    let sep = c.part-sep.result.now in (
      omega (arith, c.loop-i-test.true),
      c.patch-in-loop-i.auto.events ∙ c.patch.auto.events ∙ l.invariant.1,
      next-cell sep l.i l.cur c.next_start-cur.result l.invariant.2 c.next_start-cur.ensures,
      λ k m v. sym (align-turn sep a.row a.n l.i c.align_first-v.result (view a.st l.events k m v) (view a.st c.patch.new.events k m v) (view a.st c.patch-in-loop-i.new.events k m v)
          c.loop-i-test.true (value-at sep l.i l.cur c.align_first-v.result l.invariant.2 c.align_first-v.ensures) (c.patch.ensures k m v) (c.patch-in-loop-i.ensures k m v)) ∙ l.invariant.3 k m v,
    )

pub returns : goal.returns
returns c =
    let a = c.args in
    let l = c.loop-i in
    let e : l.i ≡ a.n = omega (arith, c.loop-i-test.false, l.invariant.0) in
    let p = c.part-sep.ensures in (
      (λ k m v. sym (align-end c.part-sep.result.now a.row a.n l.i (view a.st l.events k m v) c.loop-i-test.false) ∙ l.invariant.3 k m v ∙ ap (λ (x : List ℕ). align_cells x a.row 0 a.n (view a.st a.events.now k m v)) p),
      l.invariant.2 ∙ ap (λ (x : ℕ). cell_at c.part-sep.result.now x) e ∙ ap (λ (x : List ℕ). cell_at x a.n) p,
    )
