use native.Mathlib.Omega.{arith}
use mathlib.Core.Path.{◌∙◌}
use Rattle.events.specs.View.{view}
use Rattle.containers.proofs.EnterLaws.{open-1, open-2, open-3}
use Rattle.containers.proofs.open_container.Goals as goal

pub begin_list-a-requires : goal.begin_list-a-requires
begin_list-a-requires c = (c.requires.0, c.requires.1, c.requires.2)

pub returns-then-a-ne0 : goal.returns-then-a-ne0
returns-then-a-ne0 c =
    let a = c.args in
    let x = c.begin_list-a.ensures in record { by_index = λ v. open-1 a.text.now a.m a.line (view a.st a.events.now a.stack.now a.lists.now v) (view c.begin_list-a.result c.begin_list-a.new.events c.begin_list-a.new.stack c.begin_list-a.new.lists v) (x.by_index v) c.if-a-ne0.true; fits = (x.fits.0, x.fits.1, x.fits.2, λ z. absurd (c.if-a-ne0.true z)) }

pub begin_term-b-requires : goal.begin_term-b-requires
begin_term-b-requires c = c.begin_list-a.ensures.fits.0

pub returns-then-b-ne0 : goal.returns-then-b-ne0
returns-then-b-ne0 c =
    let a = c.args in
    let x = c.begin_list-a.ensures in
    let y = c.begin_term-b.ensures in
    let l = c.begin_list-a.new.lists in record {
      by_index = λ v. open-2 a.text.now a.m a.line (view a.st a.events.now a.stack.now a.lists.now v) (view c.begin_list-a.result c.begin_list-a.new.events c.begin_list-a.new.stack l v) (x.by_index v) c.if-a-ne0.false
          (view c.begin_term-b.result c.begin_term-b.new.events c.begin_term-b.new.stack l v) (y.by_index l v) c.if-b-ne0.true;
      fits = (y.fits.0, omega (arith, x.fits.1, y.fits.1.lists), y.fits.1.sections ∙ x.fits.2, λ z. absurd (c.if-b-ne0.true z));
    }

pub container_node-requires : goal.container_node-requires
container_node-requires c = c.requires.3

pub enter-requires : goal.enter-requires
enter-requires c = c.begin_term-b.ensures.fits.0

pub returns : goal.returns
returns c =
    let a = c.args in
    let x = c.begin_list-a.ensures in
    let y = c.begin_term-b.ensures in
    let e = c.enter.ensures in
    let l = c.begin_list-a.new.lists in record {
      by_index = λ v. e.by_index l v ∙ open-3 a.text.now a.m a.line (view a.st a.events.now a.stack.now a.lists.now v) (view c.begin_list-a.result c.begin_list-a.new.events c.begin_list-a.new.stack l v) (x.by_index v) c.if-a-ne0.false
          (view c.begin_term-b.result c.begin_term-b.new.events c.begin_term-b.new.stack l v) (y.by_index l v) c.if-b-ne0.false c.container_node.result c.container_node.ensures;
      fits = (e.fits.0, omega (arith, x.fits.1, y.fits.1.lists, e.fits.2.lists), e.fits.2.sections ∙ y.fits.1.sections ∙ x.fits.2, λ z. omega (arith, e.fits.1 z));
    }
