use native.Mathlib.Omega.{arith}
use mathlib.Core.Path.{refl, sym, ◌∙◌}
use lib.ListN.{length-set}
use borrow.Author.Tests.{eqb-false}
use Rattle.events.proofs.OpenLaws.{enter-full, enter-stop, enter-on}
use Rattle.events.proofs.enter.Goals as goal

pub returns-then-d-ge-MOST : goal.returns-then-d-ge-MOST
returns-then-d-ge-MOST c =
    let a = c.args in
    let f = c.refuse.ensures in record { by_index = λ l v. f.0 a.events.now a.stack.now l v ∙ enter-full a.st a.events.now a.stack.now c.requires.depth a.x l v c.if-d-ge-MOST.true; fits = (record { words = omega (arith, f.1, c.requires.words); depth = omega (arith, f.2, c.requires.depth); room = c.requires.room }, λ z. absurd (eqb-false 7 0 refl (sym f.3 ∙ z)), record { lists = f.4.lists; sections = f.4.sections }) }

pub push-a-requires : goal.push-a-requires
push-a-requires c = c.requires.words

pub returns-then-a-ne0 : goal.returns-then-a-ne0
returns-then-a-ne0 c =
    let a = c.args in
    let p = c.push-a.ensures in record { by_index = λ l v. enter-stop a.st a.events.now a.stack.now c.requires.depth a.x l v c.if-d-ge-MOST.false c.push-a.result c.push-a.new.events (p.by_index a.stack.now l v) c.if-a-ne0.true; fits = (record { words = p.words_in_bounds.0; depth = omega (arith, p.words_in_bounds.2.depth, c.requires.depth); room = c.requires.room }, λ z. absurd (c.if-a-ne0.true z), record { lists = p.words_in_bounds.2.lists; sections = p.words_in_bounds.2.sections }) }

pub bounds-stack-d : goal.bounds-stack-d
bounds-stack-d c = omega (arith, c.requires.room, c.if-d-ge-MOST.false)

pub overflow_add-r : goal.overflow_add-r
overflow_add-r c = omega (arith, c.if-d-ge-MOST.false)

pub returns : goal.returns
returns c =
    let a = c.args in
    let p = c.push-a.ensures in record { by_index = λ l v. enter-on a.st a.events.now a.stack.now c.requires.depth a.x l v c.if-d-ge-MOST.false c.push-a.result c.push-a.new.events (p.by_index a.stack.now l v) c.requires.words (omega (arith, c.requires.room, c.if-d-ge-MOST.false)) c.if-a-ne0.false; fits = (record { words = p.words_in_bounds.0; depth = simp length-set (omega (arith, c.requires.room, c.if-d-ge-MOST.false)); room = simp length-set c.requires.room }, λ z. refl, record { lists = p.words_in_bounds.2.lists; sections = p.words_in_bounds.2.sections }) }
