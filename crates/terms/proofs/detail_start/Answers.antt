use native.Mathlib.Omega.{arith}
use mathlib.Core.Path.{sym, ◌∙◌}
use Rattle.terms.proofs.TermLaws.{start-at, start-end}
use Rattle.terms.proofs.detail_start.Goals as goal

pub overflow_add-f : goal.overflow_add-f
overflow_add-f c = omega (arith, c.whole.ensures.1 c.if-whole.true, c.requires.1)

pub word-requires : goal.word-requires
word-requires c = (omega (arith, c.whole.ensures.1 c.if-whole.true), c.requires.1)

pub returns-then-whole : goal.returns-then-whole
returns-then-whole c =
    let a = c.args in
    (λ k l v. c.word.ensures k l v ∙ start-at a.st a.events.now c.requires.1 a.f k l v (c.whole.ensures.1 c.if-whole.true))

pub word-requires-2 : goal.word-requires-2
word-requires-2 c = (omega (arith, c.requires.0), c.requires.1)

pub returns : goal.returns
returns c =
    let a = c.args in
    (λ k l v. c.word-2.ensures k l v ∙ start-end a.st a.events.now c.requires.1 a.f k l v (sym (c.whole.ensures.0 a.events.now k l v c.requires.1) ∙ c.if-whole.false))
