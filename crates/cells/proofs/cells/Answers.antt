use native.Mathlib.Omega.{arith}
use mathlib.Core.Path.{refl, sym, ap, ◌∙◌}
use mathlib.Core.List.{List}
use Prim.Native.Nat.{ℕ, ◌≤◌, ◌<◌}
use lib.ListN.{length}
use lib.Seq.{length-take-le}
use Rattle.classes.specs.Choice.{both}
use Rattle.trim.specs.Trim.{part_of}
use Rattle.rows.specs.Rows.{cell_of, separator_of}
use Rattle.cells.proofs.CellLaws.{pipe-inside, span-bounds, cell-text}
use Rattle.cells.proofs.RowLaws.{loop-start, loop-last, loop-stop, loop-next, loop-done, written-end, written_last}
use Rattle.events.proofs.StateLaws.{same-on}
use Rattle.cells.proofs.cells.Goals as goal

pub loop-at-init : goal.loop-at-init
loop-at-init c =
    let a = c.args in
    loop-start a.text.now (part_of a.text.now a.s a.e) a.s a.align a.st a.events.now c.requires.0 c.requires.1 c.requires.4

pub returns-in-Err : goal.returns-in-Err
returns-in-Err c =
    let a = c.args in
    let l = c.loop-at in
    let row = part_of a.text.now a.s a.e in
    let e = ap (λ (x : List ℕ). cell_of x l.at) (sym c.part-row.ensures) ∙ sym c.next_cell.ensures ∙ c.in-Err.is in
    let h : l.at < length (part_of a.text.now a.s a.e) = omega (arith, c.loop-at-test.true, ap (λ (x : List ℕ). length x) c.part-row.ensures) in record { by_index = loop-last a.text.now row a.s a.align a.st a.events.now l.at l.i l.separators l.al l.b l.events l.invariant h _ e; words_in_bounds = (l.invariant.words, (λ z. l.invariant.kept), l.invariant.same, λ z. written_last a.text.now row a.s a.align a.st a.events.now l.at l.i l.separators l.al l.b l.events l.invariant _ e) }

pub slice_bounds-lookup-end : goal.slice_bounds-lookup-end
slice_bounds-lookup-end c = c.loop-at.invariant.words

pub slice_bounds-lookup-end-in-Ok : goal.slice_bounds-lookup-end-in-Ok
slice_bounds-lookup-end-in-Ok c = sym (length-take-le _ _ c.loop-at.invariant.words)

pub lookup-v-requires : goal.lookup-v-requires
lookup-v-requires c = c.loop-at.invariant.held

pub overflow_add-s : goal.overflow_add-s
overflow_add-s c = omega (arith, pipe-inside c.args.text.now _ c.args.s c.args.e c.loop-at.at _ c.part-row.ensures (sym c.next_cell.ensures ∙ c.in-Ok.is), c.requires.3)

pub overflow_add-s-in-Ok : goal.overflow_add-s-in-Ok
overflow_add-s-in-Ok c = omega (arith, pipe-inside c.args.text.now _ c.args.s c.args.e c.loop-at.at _ c.part-row.ensures (sym c.next_cell.ensures ∙ c.in-Ok.is), c.requires.3)

pub overflow_add-s-in-Ok-2 : goal.overflow_add-s-in-Ok-2
overflow_add-s-in-Ok-2 c = omega (arith, pipe-inside c.args.text.now _ c.args.s c.args.e c.loop-at.at _ c.part-row.ensures (sym c.next_cell.ensures ∙ c.in-Ok.is), c.requires.3)

pub overflow_cast-s : goal.overflow_cast-s
overflow_cast-s c = omega (arith, pipe-inside c.args.text.now _ c.args.s c.args.e c.loop-at.at _ c.part-row.ensures (sym c.next_cell.ensures ∙ c.in-Ok.is), c.requires.3)

pub overflow_add-s-in-Ok-3 : goal.overflow_add-s-in-Ok-3
overflow_add-s-in-Ok-3 c = omega (arith, pipe-inside c.args.text.now _ c.args.s c.args.e c.loop-at.at _ c.part-row.ensures (sym c.next_cell.ensures ∙ c.in-Ok.is), c.requires.3)

pub overflow_cast-s-in-Ok : goal.overflow_cast-s-in-Ok
overflow_cast-s-in-Ok c = omega (arith, pipe-inside c.args.text.now _ c.args.s c.args.e c.loop-at.at _ c.part-row.ensures (sym c.next_cell.ensures ∙ c.in-Ok.is), c.requires.3)

pub cell-c-requires : goal.cell-c-requires
cell-c-requires c =
    let a = c.args in
    let w = pipe-inside a.text.now _ a.s a.e c.loop-at.at _ c.part-row.ensures (sym c.next_cell.ensures ∙ c.in-Ok.is) in
    let b = span-bounds a.text.now _ _ c.trim_span-t.result c.trim_span-t.ensures in
    (c.loop-at.invariant.words, omega (arith, w, b, c.requires.3), omega (arith, w, b, c.requires.3), omega (arith, w, c.requires.3))

pub overflow_add-result : goal.overflow_add-result
overflow_add-result c = omega (arith, pipe-inside c.args.text.now _ c.args.s c.args.e c.loop-at.at _ c.part-row.ensures (sym c.next_cell.ensures ∙ c.in-Ok.is), c.requires.3, c.loop-at.invariant.here)

pub returns-then-c-ne0 : goal.returns-then-c-ne0
returns-then-c-ne0 c =
    let a = c.args in
    let l = c.loop-at in
    let q = c.cell-c in
    let row = part_of a.text.now a.s a.e in
    let e = ap (λ (x : List ℕ). cell_of x l.at) (sym c.part-row.ensures) ∙ sym c.next_cell.ensures ∙ c.in-Ok.is in
    let h : l.at < length (part_of a.text.now a.s a.e) = omega (arith, c.loop-at-test.true, ap (λ (x : List ℕ). length x) c.part-row.ensures) in
    let w = pipe-inside a.text.now row a.s a.e l.at _ refl e in
    let f = c.also-separators.ensures ∙ ap (λ (x : List ℕ). both l.separators (separator_of x)) (cell-text a.text.now a.s a.e l.at _ c.trim_span-t.result _ (omega (arith, w)) c.trim_span-t.ensures c.part.ensures) in record {
      by_index = loop-stop a.text.now row a.s a.align a.st a.events.now l.at l.i l.separators l.al l.b l.events l.invariant h _ e c.lookup-v.result c.lookup-v.ensures c.also-separators.result f
          q.result q.new.events (λ k m v. q.ensures.x_after a.text.now k m v c.trim_span-t.ensures) c.if-c-ne0.true;
      words_in_bounds = (q.ensures.words_in_bounds.0, (λ z. absurd (c.if-c-ne0.true z)), same-on a.st l.b q.result l.invariant.same q.ensures.words_in_bounds.3, λ z. absurd (c.if-c-ne0.true z));
    }

pub advance-al-requires : goal.advance-al-requires
advance-al-requires c =
    let a = c.args in
    let w = pipe-inside a.text.now _ a.s a.e c.loop-at.at _ c.part-row.ensures (sym c.next_cell.ensures ∙ c.in-Ok.is) in
    (omega (arith, w, c.loop-at.invariant.here), c.loop-at.invariant.held.place)

pub overflow_add-i : goal.overflow_add-i
overflow_add-i c = omega (arith, pipe-inside c.args.text.now _ c.args.s c.args.e c.loop-at.at _ c.part-row.ensures (sym c.next_cell.ensures ∙ c.in-Ok.is), c.requires.3, c.loop-at.invariant.here)

pub overflow_add-at : goal.overflow_add-at
overflow_add-at c = omega (arith, pipe-inside c.args.text.now _ c.args.s c.args.e c.loop-at.at _ c.part-row.ensures (sym c.next_cell.ensures ∙ c.in-Ok.is), c.requires.3)

pub loop-at-smaller : goal.loop-at-smaller
loop-at-smaller c = omega (arith, c.loop-at-test.true, pipe-inside c.args.text.now _ c.args.s c.args.e c.loop-at.at _ c.part-row.ensures (sym c.next_cell.ensures ∙ c.in-Ok.is))

pub loop-at-preserved : goal.loop-at-preserved
loop-at-preserved c =
    let a = c.args in
    let l = c.loop-at in
    let q = c.cell-c in
    let m = c.advance-al in
    let z = c.if-c-ne0.false in
    let row = part_of a.text.now a.s a.e in
    let e = ap (λ (x : List ℕ). cell_of x l.at) (sym c.part-row.ensures) ∙ sym c.next_cell.ensures ∙ c.in-Ok.is in
    let h : l.at < length (part_of a.text.now a.s a.e) = omega (arith, c.loop-at-test.true, ap (λ (x : List ℕ). length x) c.part-row.ensures) in
    let w = pipe-inside a.text.now row a.s a.e l.at _ refl e in
    let f = c.also-separators.ensures ∙ ap (λ (x : List ℕ). both l.separators (separator_of x)) (cell-text a.text.now a.s a.e l.at _ c.trim_span-t.result _ (omega (arith, w)) c.trim_span-t.ensures c.part.ensures) in
    loop-next a.text.now row a.s a.align a.st a.events.now l.at l.i l.separators l.al l.b l.events l.invariant h _ e c.lookup-v.result c.lookup-v.ensures c.also-separators.result f
    q.result q.new.events (λ k m v. q.ensures.x_after a.text.now k m v c.trim_span-t.ensures) z
    q.ensures.words_in_bounds.0 q.auto.events (q.ensures.words_in_bounds.1 z) _ _ _ (q.ensures.words_in_bounds.2 z) q.ensures.words_in_bounds.3
    m.result m.ensures.0 m.ensures.1 m.ensures.2 m.ensures.3

pub returns : goal.returns
returns c =
    let a = c.args in
    let l = c.loop-at in
    let row = part_of a.text.now a.s a.e in
    let h : length (part_of a.text.now a.s a.e) ≤ l.at = omega (arith, c.loop-at-test.false, ap (λ (x : List ℕ). length x) c.part-row.ensures) in record { by_index = loop-done a.text.now row a.s a.align a.st a.events.now l.at l.i l.separators l.al l.b l.events l.invariant h; words_in_bounds = (l.invariant.words, (λ z. l.invariant.kept), l.invariant.same, λ z. written-end a.text.now row a.s a.align a.st a.events.now l.at l.i l.separators l.al l.b l.events l.invariant h) }
