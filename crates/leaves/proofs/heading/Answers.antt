use mathlib.Core.Path.{refl, ◌∙◌}
use Rattle.events.specs.View.{view}
use Rattle.leaves.proofs.LeafLaws.{heading-inner, heading-other, heading-top}
use Rattle.leaves.proofs.heading.Goals as goal

pub returns-then-not-top : goal.returns-then-not-top
returns-then-not-top c =
    let a = c.args in record { by_index = λ l. heading-inner a.m a.top (view a.st a.events.now a.stack.now l a.levels.now) c.if-not-top.true; fits = (c.requires.0, c.requires.1, refl) }

pub returns-then-kind_num-ne-HEADING : goal.returns-then-kind_num-ne-HEADING
returns-then-kind_num-ne-HEADING c =
    let a = c.args in record { by_index = λ l. heading-other a.m a.top (view a.st a.events.now a.stack.now l a.levels.now) c.if-not-top.false _ c.kind_num.ensures c.if-kind_num-ne-HEADING.true; fits = (c.requires.0, c.requires.1, refl) }

pub section-requires : goal.section-requires
section-requires c = c.requires

pub returns : goal.returns
returns c =
    let a = c.args in
    let s = c.section.ensures in record { by_index = λ l. s.by_index l ∙ heading-top a.m a.top (view a.st a.events.now a.stack.now l a.levels.now) c.if-not-top.false _ c.kind_num.ensures c.if-kind_num-ne-HEADING.false _ c.level_of.ensures; fits = s.fits }
