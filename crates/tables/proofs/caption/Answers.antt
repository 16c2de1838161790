use mathlib.Core.Path.{refl, ◌∙◌}
use Rattle.events.specs.View.{view}
use Rattle.tables.proofs.TableLaws.{caption-none, caption-1, caption-2, caption-3}
use Rattle.events.proofs.StateLaws.{kept_on, kept_same, fits-same}
use Rattle.tables.proofs.caption.Goals as goal

pub returns-then-lines-lt2 : goal.returns-then-lines-lt2
returns-then-lines-lt2 c =
    let a = c.args in record { by_index = λ l v. caption-none a.text.now a.m a.lines.now (view a.st a.events.now a.stack.now l v) c.if-lines-lt2.true; fits = (c.requires, record { lists = refl; sections = refl }) }

pub returns-then-a-ne0 : goal.returns-then-a-ne0
returns-then-a-ne0 c =
    let a = c.args in
    let e = c.enter-a.ensures in record { by_index = λ l v. caption-1 a.text.now a.m a.lines.now (view a.st a.events.now a.stack.now l v) c.if-lines-lt2.false _ c.node.ensures (view c.enter-a.result c.enter-a.new.events c.enter-a.new.stack l v) (e.by_index l v) c.if-a-ne0.true; fits = (e.fits.0, e.fits.2) }

pub caption_lines-b-requires : goal.caption_lines-b-requires
caption_lines-b-requires c = c.enter-a.ensures.fits.0.words

pub returns-then-b-ne0 : goal.returns-then-b-ne0
returns-then-b-ne0 c =
    let a = c.args in
    let e = c.enter-a.ensures in
    let q = c.caption_lines-b.ensures in record {
      by_index = λ l v. caption-2 a.text.now a.m a.lines.now (view a.st a.events.now a.stack.now l v) c.if-lines-lt2.false _ c.node.ensures (view c.enter-a.result c.enter-a.new.events c.enter-a.new.stack l v) (e.by_index l v)
          c.if-a-ne0.false (view c.caption_lines-b.result c.caption_lines-b.new.events c.enter-a.new.stack l v) (q.by_index c.enter-a.new.stack l v) c.if-b-ne0.true;
      fits = (fits-same _ _ c.enter-a.new.events c.caption_lines-b.new.events c.enter-a.new.stack e.fits.0 q.words_in_bounds.0 q.words_in_bounds.1, kept_same _ _ _ e.fits.2 q.words_in_bounds.1);
    }

pub exit-requires : goal.exit-requires
exit-requires c =
    let e = c.enter-a.ensures in
    let q = c.caption_lines-b.ensures in
    fits-same _ _ c.enter-a.new.events c.caption_lines-b.new.events c.enter-a.new.stack e.fits.0 q.words_in_bounds.0 q.words_in_bounds.1

pub returns : goal.returns
returns c =
    let a = c.args in
    let e = c.enter-a.ensures in
    let q = c.caption_lines-b.ensures in
    let x = c.exit.ensures in record {
      by_index = λ l v. x.by_index l v ∙ caption-3 a.text.now a.m a.lines.now (view a.st a.events.now a.stack.now l v) c.if-lines-lt2.false _ c.node.ensures (view c.enter-a.result c.enter-a.new.events c.enter-a.new.stack l v) (e.by_index l v)
          c.if-a-ne0.false (view c.caption_lines-b.result c.caption_lines-b.new.events c.enter-a.new.stack l v) (q.by_index c.enter-a.new.stack l v) c.if-b-ne0.false;
      fits = (x.fits.0, kept_on _ _ _ (kept_same _ _ _ e.fits.2 q.words_in_bounds.1) x.fits.2);
    }
