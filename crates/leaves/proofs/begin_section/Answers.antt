use native.Mathlib.Omega.{arith}
use mathlib.Core.Path.{◌∙◌}
use Rattle.leaves.proofs.SectionLaws.{begin-deep, begin-on}
use Rattle.leaves.proofs.begin_section.Goals as goal

pub returns-then-kept-ge-DEEPEST : goal.returns-then-kept-ge-DEEPEST
returns-then-kept-ge-DEEPEST c =
    let a = c.args in
    let f = c.refuse.ensures in record { by_index = λ l. f.0 a.events.now a.stack.now l a.levels.now ∙ begin-deep a.level a.start a.kept a.st a.events.now a.stack.now l a.levels.now c.if-kept-ge-DEEPEST.true; fits = (record { words = omega (arith, f.1, c.requires.0.words); depth = omega (arith, f.2, c.requires.0.depth); room = c.requires.0.room }, omega (arith, f.4.sections, c.requires.2), f.4.lists) }

pub push_level-a-requires : goal.push_level-a-requires
push_level-a-requires c = (c.requires.1, omega (arith, c.if-kept-ge-DEEPEST.false, c.requires.3))

pub enter-requires : goal.enter-requires
enter-requires c = let p = c.push_level-a.ensures.words_value in record { words = omega (arith, p.0, c.requires.0.words); depth = omega (arith, p.1, c.requires.0.depth); room = c.requires.0.room }

pub returns : goal.returns
returns c =
    let a = c.args in
    let n = c.enter.ensures in
    let p = c.push_level-a.ensures in record { by_index = λ l. n.by_index l c.push_level-a.new.levels ∙ begin-on a.level a.start a.kept a.st a.events.now a.stack.now l a.levels.now c.if-kept-ge-DEEPEST.false _ (p.by_index a.events.now a.stack.now l) c.node.result c.node.ensures; fits = (n.fits.0, omega (arith, n.fits.2.sections, p.words_value.3, c.push_level-a.auto.levels, c.if-kept-ge-DEEPEST.false, c.requires.3), n.fits.2.lists ∙ p.words_value.2) }
