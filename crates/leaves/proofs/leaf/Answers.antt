use native.Mathlib.Omega.{arith}
use mathlib.Core.Path.{◌∙◌}
use Rattle.lines.specs.Lines.{spans_of}
use Rattle.events.specs.View.{view}
use Rattle.leaves.proofs.LeafLaws.{leaf-1, leaf-2, leaf-3, leaf-4}
use Rattle.leaves.proofs.leaf.Goals as goal

pub heading-a-requires : goal.heading-a-requires
heading-a-requires c = (c.requires.0, c.requires.1, c.requires.2)

pub returns-then-a-ne0 : goal.returns-then-a-ne0
returns-then-a-ne0 c =
    let a = c.args in
    let h = c.heading-a.ensures in record {
      by_index = λ l. leaf-1 a.text.now a.m a.line a.top (spans_of a.lines.now) (view a.st a.events.now a.stack.now l a.levels.now)
          (view c.heading-a.result c.heading-a.new.events c.heading-a.new.stack l c.heading-a.new.levels) (h.by_index l) c.if-a-ne0.true;
      fits = h.fits;
    }

pub leaf_node-requires : goal.leaf_node-requires
leaf_node-requires c = c.requires.3

pub enter-b-requires : goal.enter-b-requires
enter-b-requires c = c.heading-a.ensures.fits.0

pub returns-then-b-ne0 : goal.returns-then-b-ne0
returns-then-b-ne0 c =
    let a = c.args in
    let h = c.heading-a.ensures in
    let e = c.enter-b.ensures in
    let v = c.heading-a.new.levels in record {
      by_index = λ l. leaf-2 a.text.now a.m a.line a.top (spans_of a.lines.now) (view a.st a.events.now a.stack.now l a.levels.now)
          (view c.heading-a.result c.heading-a.new.events c.heading-a.new.stack l v) (h.by_index l) c.if-a-ne0.false c.leaf_node.result c.leaf_node.ensures
          (view c.enter-b.result c.enter-b.new.events c.enter-b.new.stack l v) (e.by_index l v) c.if-b-ne0.true;
      fits = (e.fits.0, omega (arith, e.fits.2.sections, h.fits.1), e.fits.2.lists ∙ h.fits.2);
    }

pub inlines-c-requires : goal.inlines-c-requires
inlines-c-requires c = c.enter-b.ensures.fits.0.words

pub returns-then-c-ne0 : goal.returns-then-c-ne0
returns-then-c-ne0 c =
    let a = c.args in
    let h = c.heading-a.ensures in
    let e = c.enter-b.ensures in
    let n = c.inlines-c.ensures in
    let v = c.heading-a.new.levels in record {
      by_index = λ l. leaf-3 a.text.now a.m a.line a.top (spans_of a.lines.now) (view a.st a.events.now a.stack.now l a.levels.now)
          (view c.heading-a.result c.heading-a.new.events c.heading-a.new.stack l v) (h.by_index l) c.if-a-ne0.false c.leaf_node.result c.leaf_node.ensures
          (view c.enter-b.result c.enter-b.new.events c.enter-b.new.stack l v) (e.by_index l v) c.if-b-ne0.false
          (view c.inlines-c.result c.inlines-c.new.events c.enter-b.new.stack l v) (n.by_index c.enter-b.new.stack l v) c.if-c-ne0.true;
      fits = (record { words = n.words_in_bounds.0; depth = omega (arith, n.words_in_bounds.1.depth, e.fits.0.depth); room = e.fits.0.room }, omega (arith, n.words_in_bounds.1.sections, e.fits.2.sections, h.fits.1), n.words_in_bounds.1.lists ∙ e.fits.2.lists ∙ h.fits.2);
    }

pub exit-requires : goal.exit-requires
exit-requires c = record { words = c.inlines-c.ensures.words_in_bounds.0; depth = omega (arith, c.inlines-c.ensures.words_in_bounds.1.depth, c.enter-b.ensures.fits.0.depth); room = c.enter-b.ensures.fits.0.room }

pub returns : goal.returns
returns c =
    let a = c.args in
    let h = c.heading-a.ensures in
    let e = c.enter-b.ensures in
    let n = c.inlines-c.ensures in
    let x = c.exit.ensures in
    let v = c.heading-a.new.levels in record {
      by_index = λ l. x.by_index l v ∙ leaf-4 a.text.now a.m a.line a.top (spans_of a.lines.now) (view a.st a.events.now a.stack.now l a.levels.now)
          (view c.heading-a.result c.heading-a.new.events c.heading-a.new.stack l v) (h.by_index l) c.if-a-ne0.false c.leaf_node.result c.leaf_node.ensures
          (view c.enter-b.result c.enter-b.new.events c.enter-b.new.stack l v) (e.by_index l v) c.if-b-ne0.false
          (view c.inlines-c.result c.inlines-c.new.events c.enter-b.new.stack l v) (n.by_index c.enter-b.new.stack l v) c.if-c-ne0.false;
      fits = (x.fits.0, omega (arith, x.fits.2.sections, n.words_in_bounds.1.sections, e.fits.2.sections, h.fits.1), x.fits.2.lists ∙ n.words_in_bounds.1.lists ∙ e.fits.2.lists ∙ h.fits.2);
    }
