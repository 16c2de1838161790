use native.Mathlib.Omega.{arith}
use mathlib.Core.Path.{◌∙◌}
use Rattle.ends.proofs.EndLaws.{close-lists-stop, close-sections-stop, close-on}
use Rattle.ends.proofs.close.Goals as goal

pub close_lists-d-requires : goal.close_lists-d-requires
close_lists-d-requires c = (record { words = c.requires.0.words; depth = c.requires.0.depth; room = c.requires.0.room }, c.requires.1)

pub returns-then-d-ne0 : goal.returns-then-d-ne0
returns-then-d-ne0 c =
    let a = c.args in
    let x = c.close_lists-d.ensures in record { by_index = λ v h. close-lists-stop a.end a.st a.events.now a.stack.now a.lists.now v c.requires.1 c.close_lists-d.result c.close_lists-d.new.events (x.by_index v) c.if-d-ne0.true; words_in_bounds = x.fits.0.words }

pub close_sections-e-requires : goal.close_sections-e-requires
close_sections-e-requires c = c.close_lists-d.ensures.fits.0

pub returns-then-e-ne0 : goal.returns-then-e-ne0
returns-then-e-ne0 c =
    let a = c.args in
    let x = c.close_lists-d.ensures in
    let y = c.close_sections-e.ensures in record { by_index = λ v h. close-sections-stop a.end a.st a.events.now a.stack.now a.lists.now v c.requires.1 c.close_lists-d.result c.close_lists-d.new.events (x.by_index v) c.if-d-ne0.false (omega (arith, x.fits.1, h)) _ (y.by_index a.lists.now v) c.if-e-ne0.true; words_in_bounds = y.fits.words }

pub exit-requires : goal.exit-requires
exit-requires c = c.close_sections-e.ensures.fits

pub returns : goal.returns
returns c =
    let a = c.args in
    let x = c.close_lists-d.ensures in
    let y = c.close_sections-e.ensures in
    let z = c.exit.ensures in record { by_index = λ v h. z.by_index a.lists.now v ∙ close-on a.end a.st a.events.now a.stack.now a.lists.now v c.requires.1 c.close_lists-d.result c.close_lists-d.new.events (x.by_index v) c.if-d-ne0.false (omega (arith, x.fits.1, h)) _ (y.by_index a.lists.now v) c.if-e-ne0.false; words_in_bounds = z.fits.0.words }
