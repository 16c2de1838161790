use native.Mathlib.Omega.{arith}
use mathlib.Core.Path.{sym, ◌∙◌}
use Prim.Native.Nat.{◌*◌}
use lib.Seq.{length-take-le}
use Rattle.events.specs.View.{view}
use Rattle.tables.proofs.TableLaws.{table-1, table-2, table-3, table-4}
use Rattle.events.proofs.StateLaws.{kept_on, kept_same, fits-same}
use Rattle.tables.proofs.table.Goals as goal

pub returns-then-a-ne0 : goal.returns-then-a-ne0
returns-then-a-ne0 c =
    let a = c.args in
    let e = c.enter-a.ensures in record { by_index = λ l v. table-1 a.text.now a.m a.lines.now (view a.st a.events.now a.stack.now l v) _ c.node.ensures (view c.enter-a.result c.enter-a.new.events c.enter-a.new.stack l v) (e.by_index l v) c.if-a-ne0.true; fits = (e.fits.0, e.fits.2) }

pub overflow_mul-c : goal.overflow_mul-c
overflow_mul-c c = omega (arith, c.caption_line-c.ensures.1, c.well_formed.1.0.1)

pub offset_bounds-lines-c : goal.offset_bounds-lines-c
offset_bounds-lines-c c = omega (arith, c.caption_line-c.ensures.1, c.well_formed.1.0.1)

pub slice_bounds-caption-count : goal.slice_bounds-caption-count
slice_bounds-caption-count c = c.caption_line-c.ensures.1

pub caption-b-requires : goal.caption-b-requires
caption-b-requires c = c.enter-a.ensures.fits.0

pub returns-then-b-ne0 : goal.returns-then-b-ne0
returns-then-b-ne0 c =
    let a = c.args in
    let e = c.enter-a.ensures in
    let q = c.caption-b.ensures in record {
      by_index = λ l v. table-2 a.text.now a.m a.lines.now (view a.st a.events.now a.stack.now l v) _ c.node.ensures (view c.enter-a.result c.enter-a.new.events c.enter-a.new.stack l v) (e.by_index l v)
          c.if-a-ne0.false c.caption_line-c.result c.caption_line-c.ensures.0 (view c.caption-b.result c.caption-b.new.events c.caption-b.new.stack l v) (q.by_index l v) c.if-b-ne0.true;
      fits = (q.fits.0, kept_on _ _ _ e.fits.2 q.fits.1);
    }

pub overflow_mul-c-2 : goal.overflow_mul-c-2
overflow_mul-c-2 c = omega (arith, c.caption_line-c.ensures.1, c.well_formed.1.0.1)

pub slice_bounds-rows_of-end : goal.slice_bounds-rows_of-end
slice_bounds-rows_of-end c = sym (length-take-le (c.caption_line-c.result * 2) c.args.lines.now c.caption_line-c.ensures.1)

pub rows_of-d-requires : goal.rows_of-d-requires
rows_of-d-requires c = c.caption-b.ensures.fits.0.words

pub returns-then-d-ne0 : goal.returns-then-d-ne0
returns-then-d-ne0 c =
    let a = c.args in
    let e = c.enter-a.ensures in
    let q = c.caption-b.ensures in
    let r = c.rows_of-d.ensures in record {
      by_index = λ l v. table-3 a.text.now a.m a.lines.now (view a.st a.events.now a.stack.now l v) _ c.node.ensures (view c.enter-a.result c.enter-a.new.events c.enter-a.new.stack l v) (e.by_index l v)
          c.if-a-ne0.false c.caption_line-c.result c.caption_line-c.ensures.0 (view c.caption-b.result c.caption-b.new.events c.caption-b.new.stack l v) (q.by_index l v)
          c.if-b-ne0.false (view c.rows_of-d.result c.rows_of-d.new.events c.caption-b.new.stack l v) (r.by_index c.caption-b.new.stack l v) c.if-d-ne0.true;
      fits = (fits-same _ _ c.caption-b.new.events c.rows_of-d.new.events c.caption-b.new.stack q.fits.0 r.words_in_bounds.0 r.words_in_bounds.1, kept_same _ _ _ (kept_on _ _ _ e.fits.2 q.fits.1) r.words_in_bounds.1);
    }

pub exit-requires : goal.exit-requires
exit-requires c =
    let q = c.caption-b.ensures in
    let r = c.rows_of-d.ensures in
    fits-same _ _ c.caption-b.new.events c.rows_of-d.new.events c.caption-b.new.stack q.fits.0 r.words_in_bounds.0 r.words_in_bounds.1

pub returns : goal.returns
returns c =
    let a = c.args in
    let e = c.enter-a.ensures in
    let q = c.caption-b.ensures in
    let r = c.rows_of-d.ensures in
    let x = c.exit.ensures in record {
      by_index = λ l v. x.by_index l v ∙ table-4 a.text.now a.m a.lines.now (view a.st a.events.now a.stack.now l v) _ c.node.ensures (view c.enter-a.result c.enter-a.new.events c.enter-a.new.stack l v) (e.by_index l v)
          c.if-a-ne0.false c.caption_line-c.result c.caption_line-c.ensures.0 (view c.caption-b.result c.caption-b.new.events c.caption-b.new.stack l v) (q.by_index l v)
          c.if-b-ne0.false (view c.rows_of-d.result c.rows_of-d.new.events c.caption-b.new.stack l v) (r.by_index c.caption-b.new.stack l v) c.if-d-ne0.false;
      fits = (x.fits.0, kept_on _ _ _ (kept_same _ _ _ (kept_on _ _ _ e.fits.2 q.fits.1) r.words_in_bounds.1) x.fits.2);
    }
