use native.Mathlib.Omega.{arith}
use mathlib.Core.Path.{sym, ◌∙◌}
use native.Mathlib.Nat.{pos_of_ne-zero, le_refl}
use Rattle.leaves.proofs.SectionLaws.{section-plain, section-part, section-attr}
use Rattle.leaves.proofs.section.Goals as goal

pub section_at-requires : goal.section_at-requires
section_at-requires c = (c.requires.0, le_refl c.args.st.words, c.requires.1, c.requires.2)

pub returns-then-st-eq0 : goal.returns-then-st-eq0
returns-then-st-eq0 c =
    let a = c.args in
    let s = c.section_at.ensures in record { by_index = λ l. s.by_index l ∙ section-plain a.level a.start a.st a.events.now a.stack.now l a.levels.now c.requires.0.words c.if-st-eq0.true; fits = s.fits }

pub overflow_sub-at : goal.overflow_sub-at
overflow_sub-at c = pos_of_ne-zero c.if-st-eq0.false

pub returns-then-not-whole : goal.returns-then-not-whole
returns-then-not-whole c =
    let a = c.args in
    let f = c.refuse.ensures in record { by_index = λ l. f.0 a.events.now a.stack.now l a.levels.now ∙ section-part a.level a.start a.st a.events.now a.stack.now l a.levels.now c.if-st-eq0.false (sym (c.whole.ensures.0 a.events.now a.stack.now l a.levels.now c.requires.0.words) ∙ c.if-not-whole.true); fits = (record { words = omega (arith, f.1, c.requires.0.words); depth = omega (arith, f.2, c.requires.0.depth); room = c.requires.0.room }, omega (arith, f.4.sections, c.requires.1), f.4.lists) }

pub overflow_add-at : goal.overflow_add-at
overflow_add-at c = omega (arith, c.whole.ensures.1 c.if-not-whole.false, c.requires.0.words)

pub word-pos-requires : goal.word-pos-requires
word-pos-requires c = (omega (arith, c.whole.ensures.1 c.if-not-whole.false), c.requires.0.words)

pub section_at-requires-2 : goal.section_at-requires-2
section_at-requires-2 c = (c.requires.0, omega (arith, c.whole.ensures.1 c.if-not-whole.false), c.requires.1, c.requires.2)

pub returns : goal.returns
returns c =
    let a = c.args in
    let s = c.section_at-2.ensures in record { by_index = λ l. s.by_index l ∙ section-attr a.level a.start a.st a.events.now a.stack.now l a.levels.now c.if-st-eq0.false (pos_of_ne-zero c.if-st-eq0.false) (sym (c.whole.ensures.0 a.events.now a.stack.now l a.levels.now c.requires.0.words) ∙ c.if-not-whole.false) (c.whole.ensures.1 c.if-not-whole.false) c.word-pos.result (c.word-pos.ensures a.stack.now l a.levels.now); fits = s.fits }
