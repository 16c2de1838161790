use native.Mathlib.Omega.{arith}
use mathlib.Core.Path.{refl, sym, ap, ◌∙◌}
use borrow.Author.Tests.{eqb-false}
use native.Mathlib.Nat.{pos_of_ne-zero}
use lib.Seq.{length-take-le}
use Rattle.events.specs.Events.{push_of}
use Rattle.events.specs.View.{view}
use Rattle.events.specs.declared.Event.{Event}
use Rattle.events.proofs.OpenLaws.{exit-empty, exit-part, exit-other, exit-stop, exit-on}
use Rattle.events.proofs.exit.Goals as goal

pub returns-then-st-eq0 : goal.returns-then-st-eq0
returns-then-st-eq0 c =
    let a = c.args in
    let f = c.refuse.ensures in record { by_index = λ l v. f.0 a.events.now a.stack.now l v ∙ exit-empty a.st a.events.now a.stack.now a.start a.end l v c.if-st-eq0.true; fits = (record { words = omega (arith, f.1, c.requires.words); depth = omega (arith, f.2, c.requires.depth); room = c.requires.room }, λ z. absurd (eqb-false 7 0 refl (sym f.3 ∙ z)), record { lists = f.4.lists; sections = f.4.sections }) }

pub bounds-stack-d : goal.bounds-stack-d
bounds-stack-d c = omega (arith, c.requires.depth, pos_of_ne-zero c.if-st-eq0.false)

pub returns-then-not-whole : goal.returns-then-not-whole
returns-then-not-whole c =
    let a = c.args in
    let f = c.refuse-then-not-whole.ensures in record { by_index = λ l v. f.0 a.events.now a.stack.now l v ∙ exit-part a.st a.events.now a.stack.now a.start a.end l v c.requires.words c.requires.depth c.if-st-eq0.false (sym (c.whole.ensures.0 a.events.now a.stack.now l v c.requires.words) ∙ c.if-not-whole.true); fits = (record { words = omega (arith, f.1, c.requires.words); depth = omega (arith, f.2, c.requires.depth); room = c.requires.room }, λ z. absurd (eqb-false 7 0 refl (sym f.3 ∙ z)), record { lists = f.4.lists; sections = f.4.sections }) }

pub offset_bounds-events-o : goal.offset_bounds-events-o
offset_bounds-events-o c = omega (arith, c.whole.ensures.1 c.if-not-whole.false, c.requires.words)

pub bounds-events-o : goal.bounds-events-o
bounds-events-o c = omega (arith, c.whole.ensures.1 c.if-not-whole.false, c.requires.words)

pub returns-then-events-o-ne-ENTER : goal.returns-then-events-o-ne-ENTER
returns-then-events-o-ne-ENTER c =
    let a = c.args in
    let f = c.refuse-then-events-o-ne-ENTER.ensures in record { by_index = λ l v. f.0 a.events.now a.stack.now l v ∙ exit-other a.st a.events.now a.stack.now a.start a.end l v c.requires.words c.requires.depth c.if-st-eq0.false _ refl (c.whole.ensures.1 c.if-not-whole.false) c.if-events-o-ne-ENTER.true; fits = (record { words = omega (arith, f.1, c.requires.words); depth = omega (arith, f.2, c.requires.depth); room = c.requires.room }, λ z. absurd (eqb-false 7 0 refl (sym f.3 ∙ z)), record { lists = f.4.lists; sections = f.4.sections }) }

pub slice_bounds-exit_event-end : goal.slice_bounds-exit_event-end
slice_bounds-exit_event-end c = c.requires.words

pub slice_bounds-exit_event-end-2 : goal.slice_bounds-exit_event-end-2
slice_bounds-exit_event-end-2 c = sym (length-take-le c.args.st.words c.args.events.now c.requires.words)

pub exit_event-x-requires : goal.exit_event-x-requires
exit_event-x-requires c = omega (arith, length-take-le c.args.st.words c.args.events.now c.requires.words, c.whole.ensures.1 c.if-not-whole.false)

pub push-a-requires : goal.push-a-requires
push-a-requires c = c.requires.words

pub returns-then-a-ne0 : goal.returns-then-a-ne0
returns-then-a-ne0 c =
    let a = c.args in
    let p = c.push-a.ensures in record { by_index = λ l v. exit-stop a.st a.events.now a.stack.now a.start a.end l v c.requires.words c.requires.depth c.if-st-eq0.false _ refl (c.whole.ensures.1 c.if-not-whole.false) c.if-events-o-ne-ENTER.false c.push-a.result c.push-a.new.events (p.by_index a.stack.now l v ∙ ap (λ (x : Event). push_of x (view a.st a.events.now a.stack.now l v)) c.exit_event-x.ensures) c.if-a-ne0.true; fits = (record { words = p.words_in_bounds.0; depth = omega (arith, p.words_in_bounds.2.depth, c.requires.depth); room = c.requires.room }, λ z. absurd (c.if-a-ne0.true z), record { lists = p.words_in_bounds.2.lists; sections = p.words_in_bounds.2.sections }) }

pub returns : goal.returns
returns c =
    let a = c.args in
    let p = c.push-a.ensures in record { by_index = λ l v. exit-on a.st a.events.now a.stack.now a.start a.end l v c.requires.words c.requires.depth c.if-st-eq0.false _ refl (c.whole.ensures.1 c.if-not-whole.false) c.if-events-o-ne-ENTER.false c.push-a.result c.push-a.new.events (p.by_index a.stack.now l v ∙ ap (λ (x : Event). push_of x (view a.st a.events.now a.stack.now l v)) c.exit_event-x.ensures) c.if-a-ne0.false; fits = (record { words = p.words_in_bounds.0; depth = omega (arith, c.requires.depth); room = c.requires.room }, λ z. omega (arith, pos_of_ne-zero c.if-st-eq0.false), record { lists = p.words_in_bounds.2.lists; sections = p.words_in_bounds.2.sections }) }
