use mathlib.Core.Path.{◌∙◌}
use Rattle.events.specs.View.{view}
use Rattle.containers.proofs.EnterLaws.{term-stop, term-on}
use Rattle.containers.proofs.open_term.Goals as goal

pub enter-a-requires : goal.enter-a-requires
enter-a-requires c = c.requires

pub returns-then-a-ne0 : goal.returns-then-a-ne0
returns-then-a-ne0 c =
    let a = c.args in
    let x = c.enter-a.ensures in record { by_index = λ l v. term-stop a.m (view a.st a.events.now a.stack.now l v) c.node.result c.node.ensures (view c.enter-a.result c.enter-a.new.events c.enter-a.new.stack l v) (x.by_index l v) c.if-a-ne0.true; fits = (x.fits.0, x.fits.2) }

pub exit-requires : goal.exit-requires
exit-requires c = c.enter-a.ensures.fits.0

pub returns : goal.returns
returns c =
    let a = c.args in
    let x = c.enter-a.ensures in
    let y = c.exit.ensures in record { by_index = λ l v. y.by_index l v ∙ term-on a.m (view a.st a.events.now a.stack.now l v) c.node.result c.node.ensures (view c.enter-a.result c.enter-a.new.events c.enter-a.new.stack l v) (x.by_index l v) c.if-a-ne0.false; fits = (y.fits.0, record { lists = y.fits.2.lists ∙ x.fits.2.lists; sections = y.fits.2.sections ∙ x.fits.2.sections }) }
