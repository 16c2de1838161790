use native.Mathlib.Omega.{arith}
use mathlib.Core.Path.{sym, ◌∙◌}
use lib.Seq.{length-take-le}
use Rattle.events.specs.View.{view}
use Rattle.leaves.proofs.SectionLaws.{at-stop, at_on}
use Rattle.leaves.proofs.section_at.Goals as goal

pub slice_bounds-kept_sections-end : goal.slice_bounds-kept_sections-end
slice_bounds-kept_sections-end c = c.requires.2

pub slice_bounds-kept_sections-end-2 : goal.slice_bounds-kept_sections-end-2
slice_bounds-kept_sections-end-2 c = sym (length-take-le c.args.st.sections c.args.levels.now c.requires.2)

pub end_sections-a-requires : goal.end_sections-a-requires
end_sections-a-requires c = (c.requires.0, c.requires.1, omega (arith, c.kept_sections-kept.ensures.1, length-take-le c.args.st.sections c.args.levels.now c.requires.2))

pub returns-then-a-ne0 : goal.returns-then-a-ne0
returns-then-a-ne0 c =
    let a = c.args in
    let e = c.end_sections-a.ensures in record { by_index = λ l. at-stop a.level a.start a.pos a.word c.kept_sections-kept.result (view a.st a.events.now a.stack.now l a.levels.now) (view c.end_sections-a.result c.end_sections-a.new.events a.stack.now l a.levels.now) c.kept_sections-kept.ensures.0 (e.by_index l a.levels.now c.requires.2) c.if-a-ne0.true; fits = (e.fits.0, omega (arith, e.fits.2, c.requires.2), e.fits.1) }

pub begin_section-requires : goal.begin_section-requires
begin_section-requires c =
    let e = c.end_sections-a.ensures in
    (e.fits.0, omega (arith, e.fits.2, c.kept_sections-kept.ensures.1, length-take-le c.args.st.sections c.args.levels.now c.requires.2), omega (arith, e.fits.2, c.requires.2), c.requires.3)

pub returns : goal.returns
returns c =
    let a = c.args in
    let e = c.end_sections-a.ensures in
    let b = c.begin_section.ensures in record { by_index = λ l. b.by_index l ∙ at_on a.level a.start a.pos a.word c.kept_sections-kept.result (view a.st a.events.now a.stack.now l a.levels.now) (view c.end_sections-a.result c.end_sections-a.new.events a.stack.now l a.levels.now) c.kept_sections-kept.ensures.0 (e.by_index l a.levels.now c.requires.2) c.if-a-ne0.false; fits = (b.fits.0, b.fits.1, b.fits.2 ∙ e.fits.1) }
