use native.Mathlib.Omega.{arith}
use mathlib.Core.Path.{◌∙◌}
use Rattle.events.specs.View.{view}
use Rattle.containers.proofs.ExitLaws.{close-1, close-2, close-3}
use Rattle.containers.proofs.close_container.Goals as goal

pub settle_term-a-requires : goal.settle_term-a-requires
settle_term-a-requires c = c.requires.0

pub returns-then-a-ne0 : goal.returns-then-a-ne0
returns-then-a-ne0 c =
    let a = c.args in
    let x = c.settle_term-a.ensures in
    let l = a.lists.now in record { by_index = λ v. close-1 a.m a.d (view a.st a.events.now a.stack.now l v) (view c.settle_term-a.result c.settle_term-a.new.events c.settle_term-a.new.stack l v) (x.by_index l v) c.if-a-ne0.true; fits = (x.fits.0, omega (arith, c.requires.1, x.fits.1.lists), x.fits.1.sections) }

pub close_inner-b-requires : goal.close_inner-b-requires
close_inner-b-requires c = (c.settle_term-a.ensures.fits.0, omega (arith, c.requires.1, c.settle_term-a.ensures.fits.1.lists))

pub returns-then-b-ne0 : goal.returns-then-b-ne0
returns-then-b-ne0 c =
    let a = c.args in
    let x = c.settle_term-a.ensures in
    let y = c.close_inner-b.ensures in
    let l = a.lists.now in record {
      by_index = λ v. close-2 a.m a.d (view a.st a.events.now a.stack.now l v) (view c.settle_term-a.result c.settle_term-a.new.events c.settle_term-a.new.stack l v) (x.by_index l v) c.if-a-ne0.false
          (view c.close_inner-b.result c.close_inner-b.new.events c.settle_term-a.new.stack l v) (y.by_index v) c.if-b-ne0.true;
      fits = (y.fits.0, y.fits.1, y.fits.2 ∙ x.fits.1.sections);
    }

pub exit-requires : goal.exit-requires
exit-requires c = c.close_inner-b.ensures.fits.0

pub returns : goal.returns
returns c =
    let a = c.args in
    let x = c.settle_term-a.ensures in
    let y = c.close_inner-b.ensures in
    let e = c.exit.ensures in
    let l = a.lists.now in record {
      by_index = λ v. e.by_index l v ∙ close-3 a.m a.d (view a.st a.events.now a.stack.now l v) (view c.settle_term-a.result c.settle_term-a.new.events c.settle_term-a.new.stack l v) (x.by_index l v) c.if-a-ne0.false
          (view c.close_inner-b.result c.close_inner-b.new.events c.settle_term-a.new.stack l v) (y.by_index v) c.if-b-ne0.false;
      fits = (e.fits.0, omega (arith, y.fits.1, e.fits.2.lists), e.fits.2.sections ∙ y.fits.2 ∙ x.fits.1.sections);
    }
