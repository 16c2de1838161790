use native.Mathlib.Omega.{arith}
use mathlib.Core.Path.{refl, sym, ap, ◌∙◌}
use mathlib.Core.List.{List}
use Prim.Native.Nat.{◌-◌}
use lib.ListN.{take, drop, get_or}
use Rattle.lines.specs.Lines.{Span, spans_of}
use Rattle.events.specs.View.{view}
use Rattle.meet.proofs.WordLaws.{first-start}
use Rattle.walk.specs.Tree.{inner_lines, container_at}
use Rattle.tree.proofs.BlockLaws.{body-container, body-plain, block_1, block_2, block_3}
use Rattle.tree.proofs.CycleLaws.{fits-as, stacks-after, open-words}
use mathlib.Core.Path.{refl, ◌∙◌}
use Rattle.tree.proofs.RunLaws.{run_end}
use Rattle.tree.proofs.CycleLaws.{some, room, part-two, part-even, near, stop, less, again}
use native.Mathlib.Nat.{pos_of_ne-zero}
use Rattle.tree.proofs.BlockLaws.{container-deep, container-1, container-2, container-3}
use Rattle.tree.proofs.CycleLaws.{fits-as, stacks-after, open-depth, room}
use Rattle.tree.proofs.+block_blocks_container.Goals as goal

pub block-met-m-requires : goal.block-met-m-requires
block-met-m-requires t c = (c.requires.2, c.requires.3, c.requires.4)

pub block-bounds-lines-0 : goal.block-bounds-lines-0
block-bounds-lines-0 t c = omega (arith, c.requires.2)

pub block-marker_start-at-requires : goal.block-marker_start-at-requires
block-marker_start-at-requires t c = c.met-m.ensures.1

pub block-ready-a-requires : goal.block-ready-a-requires
block-ready-a-requires t c = (c.requires.0, c.requires.1.lists, c.requires.1.sections)

pub block-returns-then-a-ne0 : goal.block-returns-then-a-ne0
block-returns-then-a-ne0 t c =
    let a = c.args in
    let y = c.ready-a in
    let s = view a.st a.events.now a.stack.now a.lists.now a.levels.now in record {
      levels_after = block_1 a.text.now a.lim (container_at a.text.now a.lim a.left) a.left a.top a.measured (spans_of a.lines.now) s
          c.met-m.result c.met-m.ensures.0 (get_or a.lines.now 0 0) (sym (first-start a.lines.now c.requires.2)) c.marker_start-at.result c.marker_start-at.ensures
          (view y.result y.new.events a.stack.now y.new.lists a.levels.now) y.ensures.levels_after c.if-a-ne0.true;
      fits = (y.ensures.fits.0, stacks-after a.st y.result a.lists.now a.levels.now y.new.lists a.levels.now y.ensures.fits.1 y.auto.lists (omega (arith, y.ensures.fits.2, c.requires.1.sections)) refl c.requires.1);
    }

pub block-skip_opening-requires : goal.block-skip_opening-requires
block-skip_opening-requires t c = c.requires.2

pub block-inner-inside-requires : goal.block-inner-inside-requires
block-inner-inside-requires t c = (omega (arith, c.skip_opening.auto.lines, c.requires.2), omega (arith, c.skip_opening.auto.lines, c.requires.3))

pub block-offset_bounds-lines-from : goal.block-offset_bounds-lines-from
block-offset_bounds-lines-from t c = omega (arith, c.inner-inside.ensures.start_le_end.0, c.inner-inside.ensures.start_le_end.1, c.skip_opening.auto.lines, c.well_formed.1.0.1)

pub block-slice_bounds-container-start : goal.block-slice_bounds-container-start
block-slice_bounds-container-start t c = c.inner-inside.ensures.start_le_end.0

pub block-slice_bounds-container-end : goal.block-slice_bounds-container-end
block-slice_bounds-container-end t c = c.inner-inside.ensures.start_le_end.1

pub block-container-b-requires : goal.block-container-b-requires
block-container-b-requires t c =
    let a = c.args in
    let y = c.ready-a in (
      omega (arith, c.requires.0),
      (y.ensures.fits.0, stacks-after a.st y.result a.lists.now a.levels.now y.new.lists a.levels.now y.ensures.fits.1 y.auto.lists (omega (arith, y.ensures.fits.2, c.requires.1.sections)) refl c.requires.1, c.met-m.ensures.1),
    )

pub block-returns-then-b-ne0 : goal.block-returns-then-b-ne0
block-returns-then-b-ne0 t c =
    let a = c.args in
    let y = c.ready-a in
    let s = view a.st a.events.now a.stack.now a.lists.now a.levels.now in
    let t = view y.result y.new.events a.stack.now y.new.lists a.levels.now in
    let b = c.container-b in record {
      levels_after = block_2 a.text.now a.lim (container_at a.text.now a.lim a.left) a.left a.top a.measured (spans_of a.lines.now) s
          c.met-m.result c.met-m.ensures.0 (get_or a.lines.now 0 0) (sym (first-start a.lines.now c.requires.2)) c.marker_start-at.result c.marker_start-at.ensures
          (view y.result y.new.events a.stack.now y.new.lists a.levels.now) y.ensures.levels_after c.if-a-ne0.false
          (spans_of (take (c.inner-inside.result.end - c.inner-inside.result.start) (drop c.inner-inside.result.start c.skip_opening.new.lines)))
          (c.inner-inside.ensures.by_index c.skip_opening.new.lines refl ∙ ap (λ (x : List Span). inner_lines c.met-m.result.kind x) c.skip_opening.ensures)
          (view b.result b.new.events b.new.stack b.new.lists b.new.levels)
          (body-container a.text.now (container_at a.text.now a.lim a.left) a.top c.met-m.result (get_or a.lines.now 0 0) _ t _ (sym c.is_container.ensures ∙ c.if-is_container.true) b.ensures.levels_after) c.if-b-ne0.true;
      fits = b.ensures.fits;
    }

pub block-done-requires : goal.block-done-requires
block-done-requires t c = omega (arith, c.ready-a.ensures.fits.0.words, c.ready-a.auto.events, c.well_formed.1.1.0.1)

pub block-returns-then-is_container : goal.block-returns-then-is_container
block-returns-then-is_container t c =
    let a = c.args in
    let y = c.ready-a in
    let s = view a.st a.events.now a.stack.now a.lists.now a.levels.now in
    let t = view y.result y.new.events a.stack.now y.new.lists a.levels.now in
    let b = c.container-b in
    let d = c.done in record {
      levels_after = d.ensures.0 b.new.events b.new.stack b.new.lists b.new.levels
          ∙ block_3 a.text.now a.lim (container_at a.text.now a.lim a.left) a.left a.top a.measured (spans_of a.lines.now) s
          c.met-m.result c.met-m.ensures.0 (get_or a.lines.now 0 0) (sym (first-start a.lines.now c.requires.2)) c.marker_start-at.result c.marker_start-at.ensures
          (view y.result y.new.events a.stack.now y.new.lists a.levels.now) y.ensures.levels_after c.if-a-ne0.false
          (spans_of (take (c.inner-inside.result.end - c.inner-inside.result.start) (drop c.inner-inside.result.start c.skip_opening.new.lines)))
          (c.inner-inside.ensures.by_index c.skip_opening.new.lines refl ∙ ap (λ (x : List Span). inner_lines c.met-m.result.kind x) c.skip_opening.ensures)
          (view b.result b.new.events b.new.stack b.new.lists b.new.levels)
          (body-container a.text.now (container_at a.text.now a.lim a.left) a.top c.met-m.result (get_or a.lines.now 0 0) _ t _ (sym c.is_container.ensures ∙ c.if-is_container.true) b.ensures.levels_after) c.if-b-ne0.false y.result.words (open-words y.result y.new.events a.stack.now y.new.lists a.levels.now y.ensures.fits.0.words);
      fits = (
        fits-as b.result d.result b.new.events b.new.stack d.ensures.1 d.ensures.2.depth b.ensures.fits.0,
        stacks-after b.result d.result b.new.lists b.new.levels b.new.lists b.new.levels (omega (arith, d.ensures.2.lists, b.ensures.fits.1.lists)) refl (omega (arith, d.ensures.2.sections, b.ensures.fits.1.sections)) refl b.ensures.fits.1,
      );
    }

pub block-offset_bounds-lines-from-2 : goal.block-offset_bounds-lines-from-2
block-offset_bounds-lines-from-2 t c = omega (arith, c.inner-inside.ensures.start_le_end.0, c.inner-inside.ensures.start_le_end.1, c.skip_opening.auto.lines, c.well_formed.1.0.1)

pub block-slice_bounds-plain-start : goal.block-slice_bounds-plain-start
block-slice_bounds-plain-start t c = c.inner-inside.ensures.start_le_end.0

pub block-slice_bounds-plain-end : goal.block-slice_bounds-plain-end
block-slice_bounds-plain-end t c = c.inner-inside.ensures.start_le_end.1

pub block-plain-c-requires : goal.block-plain-c-requires
block-plain-c-requires t c =
    let y = c.ready-a in
    (y.ensures.fits.0, omega (arith, y.ensures.fits.2, c.requires.1.sections), c.requires.1.levels, c.met-m.ensures.1)

pub block-returns-then-c-ne0 : goal.block-returns-then-c-ne0
block-returns-then-c-ne0 t c =
    let a = c.args in
    let y = c.ready-a in
    let s = view a.st a.events.now a.stack.now a.lists.now a.levels.now in
    let t = view y.result y.new.events a.stack.now y.new.lists a.levels.now in
    let b = c.plain-c in record {
      levels_after = block_2 a.text.now a.lim (container_at a.text.now a.lim a.left) a.left a.top a.measured (spans_of a.lines.now) s
          c.met-m.result c.met-m.ensures.0 (get_or a.lines.now 0 0) (sym (first-start a.lines.now c.requires.2)) c.marker_start-at.result c.marker_start-at.ensures
          (view y.result y.new.events a.stack.now y.new.lists a.levels.now) y.ensures.levels_after c.if-a-ne0.false
          (spans_of (take (c.inner-inside.result.end - c.inner-inside.result.start) (drop c.inner-inside.result.start c.skip_opening.new.lines)))
          (c.inner-inside.ensures.by_index c.skip_opening.new.lines refl ∙ ap (λ (x : List Span). inner_lines c.met-m.result.kind x) c.skip_opening.ensures)
          (view b.result b.new.events b.new.stack y.new.lists b.new.levels)
          (body-plain a.text.now (container_at a.text.now a.lim a.left) a.top c.met-m.result (get_or a.lines.now 0 0) _ t _ (sym c.is_container.ensures ∙ c.if-is_container.false) (b.ensures.by_index y.new.lists)) c.if-c-ne0.true;
      fits = (b.ensures.fits.0, stacks-after a.st b.result a.lists.now a.levels.now y.new.lists b.new.levels (omega (arith, b.ensures.fits.2, y.ensures.fits.1)) y.auto.lists b.ensures.fits.1 b.auto.levels c.requires.1);
    }

pub block-done-requires-2 : goal.block-done-requires-2
block-done-requires-2 t c = omega (arith, c.ready-a.ensures.fits.0.words, c.ready-a.auto.events, c.well_formed.1.1.0.1)

pub block-returns : goal.block-returns
block-returns t c =
    let a = c.args in
    let y = c.ready-a in
    let s = view a.st a.events.now a.stack.now a.lists.now a.levels.now in
    let t = view y.result y.new.events a.stack.now y.new.lists a.levels.now in
    let b = c.plain-c in
    let d = c.done-2 in record {
      levels_after = d.ensures.0 b.new.events b.new.stack y.new.lists b.new.levels
          ∙ block_3 a.text.now a.lim (container_at a.text.now a.lim a.left) a.left a.top a.measured (spans_of a.lines.now) s
          c.met-m.result c.met-m.ensures.0 (get_or a.lines.now 0 0) (sym (first-start a.lines.now c.requires.2)) c.marker_start-at.result c.marker_start-at.ensures
          (view y.result y.new.events a.stack.now y.new.lists a.levels.now) y.ensures.levels_after c.if-a-ne0.false
          (spans_of (take (c.inner-inside.result.end - c.inner-inside.result.start) (drop c.inner-inside.result.start c.skip_opening.new.lines)))
          (c.inner-inside.ensures.by_index c.skip_opening.new.lines refl ∙ ap (λ (x : List Span). inner_lines c.met-m.result.kind x) c.skip_opening.ensures)
          (view b.result b.new.events b.new.stack y.new.lists b.new.levels)
          (body-plain a.text.now (container_at a.text.now a.lim a.left) a.top c.met-m.result (get_or a.lines.now 0 0) _ t _ (sym c.is_container.ensures ∙ c.if-is_container.false) (b.ensures.by_index y.new.lists)) c.if-c-ne0.false y.result.words (open-words y.result y.new.events a.stack.now y.new.lists a.levels.now y.ensures.fits.0.words);
      fits = (
        fits-as b.result d.result b.new.events b.new.stack d.ensures.1 d.ensures.2.depth b.ensures.fits.0,
        stacks-after a.st d.result a.lists.now a.levels.now y.new.lists b.new.levels (omega (arith, d.ensures.2.lists, b.ensures.fits.2, y.ensures.fits.1)) y.auto.lists (omega (arith, d.ensures.2.sections, b.ensures.fits.1)) b.auto.levels c.requires.1,
      );
    }

pub blocks-loop-at-init : goal.blocks-loop-at-init
blocks-loop-at-init t c =
    record { count = refl; within = omega arith; len = refl; evs = refl; stk = refl; lst = refl; lev = refl; tail = refl; fits = c.requires.0; stacks = c.requires.1; rest = refl }

pub blocks-overflow_sub-n : goal.blocks-overflow_sub-n
blocks-overflow_sub-n t c = omega (arith, c.loop-at.invariant.within, c.loop-at.invariant.count, c.loop-at.invariant.len)

pub blocks-slice_bounds-measure-start : goal.blocks-slice_bounds-measure-start
blocks-slice_bounds-measure-start t c = c.loop-at.invariant.within

pub blocks-overflow_sub-to : goal.blocks-overflow_sub-to
blocks-overflow_sub-to t c =
    let a = c.args in
    let l = c.loop-at in
    omega (arith, some a.text.now a.lim a.left a.top a.lines.now a.events.now a.stack.now a.lists.now a.levels.now a.st _ l.lines l.events l.stack l.lists l.levels l.a l.at l.invariant c.loop-at-test.true c.measure-m.result c.measure-m.ensures)

pub blocks-overflow_mul-to : goal.blocks-overflow_mul-to
blocks-overflow_mul-to t c =
    let a = c.args in
    let l = c.loop-at in
    omega (arith, room a.text.now a.lim a.left a.top a.lines.now a.events.now a.stack.now a.lists.now a.levels.now a.st _ l.lines l.events l.stack l.lists l.levels l.a l.at l.invariant c.loop-at-test.true c.measure-m.result c.measure-m.ensures, c.well_formed.1.0.1, l.invariant.len)

pub blocks-overflow_add-to : goal.blocks-overflow_add-to
blocks-overflow_add-to t c =
    let a = c.args in
    let l = c.loop-at in
    omega (arith, room a.text.now a.lim a.left a.top a.lines.now a.events.now a.stack.now a.lists.now a.levels.now a.st _ l.lines l.events l.stack l.lists l.levels l.a l.at l.invariant c.loop-at-test.true c.measure-m.result c.measure-m.ensures, c.well_formed.1.0.1, l.invariant.len)

pub blocks-slice_bounds-block-end : goal.blocks-slice_bounds-block-end
blocks-slice_bounds-block-end t c =
    let a = c.args in
    let l = c.loop-at in
    room a.text.now a.lim a.left a.top a.lines.now a.events.now a.stack.now a.lists.now a.levels.now a.st _ l.lines l.events l.stack l.lists l.levels l.a l.at l.invariant c.loop-at-test.true c.measure-m.result c.measure-m.ensures

pub blocks-block-b-requires : goal.blocks-block-b-requires
blocks-block-b-requires t c =
    let a = c.args in
    let l = c.loop-at in
    (omega (arith, c.requires.0), (l.invariant.fits, l.invariant.stacks, part-two a.text.now a.lim a.left a.top a.lines.now a.events.now a.stack.now a.lists.now a.levels.now a.st _ l.lines l.events l.stack l.lists l.levels l.a l.at l.invariant c.loop-at-test.true c.measure-m.result c.measure-m.ensures, part-even a.text.now a.lim a.left a.top a.lines.now a.events.now a.stack.now a.lists.now a.levels.now a.st _ l.lines l.events l.stack l.lists l.levels l.a l.at l.invariant c.loop-at-test.true c.measure-m.result c.measure-m.ensures, near a.text.now a.lim a.left a.top a.lines.now a.events.now a.stack.now a.lists.now a.levels.now a.st _ l.lines l.events l.stack l.lists l.levels l.a l.at l.invariant c.loop-at-test.true c.measure-m.result c.measure-m.ensures (λ i. (c.slice_known-1.given i).fits)))

pub blocks-returns-then-b-ne0 : goal.blocks-returns-then-b-ne0
blocks-returns-then-b-ne0 t c =
    let a = c.args in
    let l = c.loop-at in record { levels_after = stop a.text.now a.lim a.left a.top a.lines.now a.events.now a.stack.now a.lists.now a.levels.now a.st _ l.lines l.events l.stack l.lists l.levels l.a l.at l.invariant c.loop-at-test.true c.measure-m.result c.measure-m.ensures c.block-b.new.lines c.block-b.new.events c.block-b.new.stack c.block-b.new.lists c.block-b.new.levels c.block-b.result c.block-b.ensures.levels_after c.block-b.auto.lines c.if-b-ne0.true; fits = c.block-b.ensures.fits }

pub blocks-loop-at-smaller : goal.blocks-loop-at-smaller
blocks-loop-at-smaller t c =
    let a = c.args in
    let l = c.loop-at in
    less a.text.now a.lim a.left a.top a.lines.now a.events.now a.stack.now a.lists.now a.levels.now a.st _ l.lines l.events l.stack l.lists l.levels l.a l.at l.invariant c.loop-at-test.true c.measure-m.result c.measure-m.ensures c.block-b.new.lines c.block-b.new.events c.block-b.new.stack c.block-b.new.lists c.block-b.new.levels c.block-b.result c.block-b.ensures.levels_after c.block-b.auto.lines

pub blocks-loop-at-preserved : goal.blocks-loop-at-preserved
blocks-loop-at-preserved t c =
    let a = c.args in
    let l = c.loop-at in
    again a.text.now a.lim a.left a.top a.lines.now a.events.now a.stack.now a.lists.now a.levels.now a.st _ l.lines l.events l.stack l.lists l.levels l.a l.at l.invariant c.loop-at-test.true c.measure-m.result c.measure-m.ensures c.block-b.new.lines c.block-b.new.events c.block-b.new.stack c.block-b.new.lists c.block-b.new.levels c.block-b.result c.block-b.ensures.levels_after c.block-b.auto.lines c.if-b-ne0.false c.block-b.ensures.fits.0 c.block-b.ensures.fits.1 c.block-b.auto.events c.block-b.auto.stack c.block-b.auto.lists c.block-b.auto.levels

pub blocks-returns : goal.blocks-returns
blocks-returns t c =
    let a = c.args in
    let l = c.loop-at in record { levels_after = run_end a.text.now _ l.lines l.at (view l.a l.events l.stack l.lists l.levels) (omega (arith, c.loop-at-test.false, l.invariant.count, l.invariant.len)) ∙ l.invariant.rest; fits = (l.invariant.fits, l.invariant.stacks) }

pub container-returns-then-left-eq0 : goal.container-returns-then-left-eq0
container-returns-then-left-eq0 t c =
    let a = c.args in
    let f = c.refuse.ensures in record {
      levels_after = f.0 a.events.now a.stack.now a.lists.now a.levels.now ∙ container-deep a.text.now a.lim a.left a.m a.line (spans_of a.lines.now) (view a.st a.events.now a.stack.now a.lists.now a.levels.now) c.if-left-eq0.true;
      fits = (
        fits-as a.st c.refuse.result a.events.now a.stack.now f.1 f.2 c.requires.0,
        stacks-after a.st c.refuse.result a.lists.now a.levels.now a.lists.now a.levels.now (omega (arith, f.4.lists, c.requires.1.lists)) refl (omega (arith, f.4.sections, c.requires.1.sections)) refl c.requires.1,
      );
    }

pub container-overflow_sub-inside : goal.container-overflow_sub-inside
container-overflow_sub-inside t c = pos_of_ne-zero c.if-left-eq0.false

pub container-open_container-a-requires : goal.container-open_container-a-requires
container-open_container-a-requires t c = (record { words = c.requires.0.words; depth = c.requires.0.depth; room = c.requires.0.room }, c.requires.1.lists, c.requires.1.listroom, c.requires.2)

pub container-returns-then-a-ne0 : goal.container-returns-then-a-ne0
container-returns-then-a-ne0 t c =
    let a = c.args in
    let o = c.open_container-a in
    let s = view a.st a.events.now a.stack.now a.lists.now a.levels.now in record {
      levels_after = container-1 a.text.now a.lim a.left a.m a.line (spans_of a.lines.now) s c.if-left-eq0.false c.least.result c.least.ensures
          (view o.result o.new.events o.new.stack o.new.lists a.levels.now) (o.ensures.by_index a.levels.now) c.if-a-ne0.true;
      fits = (o.ensures.fits.0, stacks-after a.st o.result a.lists.now a.levels.now o.new.lists a.levels.now o.ensures.fits.1 o.auto.lists (omega (arith, o.ensures.fits.2, c.requires.1.sections)) refl c.requires.1);
    }

pub container-overflow_sub-m : goal.container-overflow_sub-m
container-overflow_sub-m t c = c.requires.2.opening

pub container-blocks-b-requires : goal.container-blocks-b-requires
container-blocks-b-requires t c =
    let a = c.args in
    let o = c.open_container-a in (
      omega (arith, c.requires.0, pos_of_ne-zero c.if-left-eq0.false),
      (o.ensures.fits.0, stacks-after a.st o.result a.lists.now a.levels.now o.new.lists a.levels.now o.ensures.fits.1 o.auto.lists (omega (arith, o.ensures.fits.2, c.requires.1.sections)) refl c.requires.1),
    )

pub container-returns-then-b-ne0 : goal.container-returns-then-b-ne0
container-returns-then-b-ne0 t c =
    let a = c.args in
    let o = c.open_container-a in
    let b = c.blocks-b in
    let s = view a.st a.events.now a.stack.now a.lists.now a.levels.now in record {
      levels_after = container-2 a.text.now a.lim a.left a.m a.line (spans_of a.lines.now) s c.if-left-eq0.false c.least.result c.least.ensures
          (view o.result o.new.events o.new.stack o.new.lists a.levels.now) (o.ensures.by_index a.levels.now) c.if-a-ne0.false
          _ refl (spans_of c.strip_prefixes.new.lines) c.strip_prefixes.ensures
          (view b.result b.new.events b.new.stack b.new.lists b.new.levels) b.ensures.levels_after c.if-b-ne0.true;
      fits = b.ensures.fits;
    }

pub container-overflow_sub-a : goal.container-overflow_sub-a
container-overflow_sub-a t c = c.open_container-a.ensures.fits.3 c.if-a-ne0.false

pub container-close_container-requires : goal.container-close_container-requires
container-close_container-requires t c = (c.blocks-b.ensures.fits.0, c.blocks-b.ensures.fits.1.lists)

pub container-returns : goal.container-returns
container-returns t c =
    let a = c.args in
    let o = c.open_container-a in
    let b = c.blocks-b in
    let x = c.close_container in
    let s = view a.st a.events.now a.stack.now a.lists.now a.levels.now in record {
      levels_after = x.ensures.by_index b.new.levels ∙ container-3 a.text.now a.lim a.left a.m a.line (spans_of a.lines.now) s c.if-left-eq0.false c.least.result c.least.ensures
          (view o.result o.new.events o.new.stack o.new.lists a.levels.now) (o.ensures.by_index a.levels.now) c.if-a-ne0.false
          _ refl (spans_of c.strip_prefixes.new.lines) c.strip_prefixes.ensures
          (view b.result b.new.events b.new.stack b.new.lists b.new.levels) b.ensures.levels_after c.if-b-ne0.false
          o.result.depth (open-depth o.result o.new.events o.new.stack o.new.lists a.levels.now o.ensures.fits.0.depth);
      fits = (x.ensures.fits.0, stacks-after b.result x.result b.new.lists b.new.levels b.new.lists b.new.levels x.ensures.fits.1 refl (omega (arith, x.ensures.fits.2, b.ensures.fits.1.sections)) refl b.ensures.fits.1);
    }
