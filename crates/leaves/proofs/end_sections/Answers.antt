use native.Mathlib.Omega.{arith}
use mathlib.Core.Path.{refl, ◌∙◌}
use Rattle.leaves.proofs.SectionLaws.{end-deep, end-stop, end_on}
use Rattle.leaves.proofs.end_sections.Goals as goal

pub overflow_sub-closed : goal.overflow_sub-closed
overflow_sub-closed c = c.requires.2

pub returns-then-d-closed : goal.returns-then-d-closed
returns-then-d-closed c =
    let a = c.args in
    let f = c.refuse.ensures in record { by_index = λ l v h. f.0 a.events.now a.stack.now l v ∙ end-deep a.kept a.pos a.word a.st a.events.now a.stack.now l v c.requires.0.depth h c.if-d-closed.true; fits = (record { words = omega (arith, f.1, c.requires.0.words); depth = omega (arith, f.2, c.requires.0.depth); room = c.requires.0.room }, f.4.lists, f.4.sections) }

pub end_sections-a-requires : goal.end_sections-a-requires
end_sections-a-requires c = (c.requires.1, c.requires.0.words)

pub returns-then-a-ne0 : goal.returns-then-a-ne0
returns-then-a-ne0 c =
    let a = c.args in
    let e = c.end_sections-a.ensures in record { by_index = λ l v h. end-stop a.kept a.pos a.word a.st a.events.now a.stack.now l v c.requires.0.depth h c.if-d-closed.false _ refl c.end_sections-a.result c.end_sections-a.new.events (e.by_index a.stack.now l v) c.if-a-ne0.true; fits = (record { words = e.words_in_bounds.0; depth = omega (arith, e.words_in_bounds.1.depth, c.requires.0.depth); room = c.requires.0.room }, e.words_in_bounds.1.lists, e.words_in_bounds.1.sections) }

pub returns : goal.returns
returns c =
    let a = c.args in
    let e = c.end_sections-a.ensures in record { by_index = λ l v h. end_on a.kept a.pos a.word a.st a.events.now a.stack.now l v c.requires.0.depth h c.if-d-closed.false _ refl c.end_sections-a.result c.end_sections-a.new.events (e.by_index a.stack.now l v) c.if-a-ne0.false; fits = (record { words = e.words_in_bounds.0; depth = omega (arith, c.requires.0.depth); room = c.requires.0.room }, e.words_in_bounds.1.lists, e.words_in_bounds.1.sections) }
