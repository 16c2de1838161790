use native.Mathlib.Omega.{arith}
use mathlib.Core.Path.{refl, sym, ◌∙◌}
use lib.Seq.{length-take-le}
use Rattle.terms.proofs.TermLaws.{term-front, term-part, term-alone, term-none, term-endless, term_moved}
use Rattle.terms.proofs.term.Goals as goal

pub returns-then-i-lt-WIDTH : goal.returns-then-i-lt-WIDTH
returns-then-i-lt-WIDTH c =
    let a = c.args in
    let f = c.refuse.ensures in record { by_index = λ l v. f.0 a.events.now a.stack.now l v ∙ term-front a.d a.i _ c.if-i-lt-WIDTH.true; fits = (record { words = omega (arith, f.1, c.requires.0.words); depth = omega (arith, f.2, c.requires.0.depth); room = c.requires.0.room }, record { lists = f.4.lists; sections = f.4.sections }) }

pub returns-then-not-whole : goal.returns-then-not-whole
returns-then-not-whole c =
    let a = c.args in
    let f = c.refuse-then-not-whole.ensures in record { by_index = λ l v. f.0 a.events.now a.stack.now l v ∙ term-part a.d a.i _ c.if-i-lt-WIDTH.false (sym (c.whole.ensures.0 a.events.now a.stack.now l v c.requires.0.words) ∙ c.if-not-whole.true); fits = (record { words = omega (arith, f.1, c.requires.0.words); depth = omega (arith, f.2, c.requires.0.depth); room = c.requires.0.room }, record { lists = f.4.lists; sections = f.4.sections }) }

pub overflow_add-child : goal.overflow_add-child
overflow_add-child c = omega (arith, c.whole.ensures.1 c.if-not-whole.false, c.requires.0.words)

pub returns-then-not-whole-2 : goal.returns-then-not-whole-2
returns-then-not-whole-2 c =
    let a = c.args in
    let f = c.refuse-then-not-whole-2.ensures in record {
      by_index = λ l v. f.0 a.events.now a.stack.now l v ∙ term-alone a.d a.i _ c.if-i-lt-WIDTH.false
          (sym (c.whole.ensures.0 a.events.now a.stack.now l v c.requires.0.words) ∙ c.if-not-whole.false)
          (sym (c.whole-2.ensures.0 a.events.now a.stack.now l v c.requires.0.words) ∙ c.if-not-whole-2.true);
      fits = (record { words = omega (arith, f.1, c.requires.0.words); depth = omega (arith, f.2, c.requires.0.depth); room = c.requires.0.room }, record { lists = f.4.lists; sections = f.4.sections });
    }

pub slice_bounds-is_at-end-2 : goal.slice_bounds-is_at-end-2
slice_bounds-is_at-end-2 c = sym (length-take-le c.args.st.words c.args.events.now c.requires.0.words)

pub is_at-requires : goal.is_at-requires
is_at-requires c = omega (arith, length-take-le c.args.st.words c.args.events.now c.requires.0.words, c.whole-2.ensures.1 c.if-not-whole-2.false)

pub returns-then-not-is_at : goal.returns-then-not-is_at
returns-then-not-is_at c =
    let a = c.args in record {
      by_index = λ l v. term-none a.d a.i _ c.if-i-lt-WIDTH.false
          (sym (c.whole.ensures.0 a.events.now a.stack.now l v c.requires.0.words) ∙ c.if-not-whole.false)
          (sym (c.whole-2.ensures.0 a.events.now a.stack.now l v c.requires.0.words) ∙ c.if-not-whole-2.false)
          (sym c.is_at.ensures ∙ c.if-not-is_at.true);
      fits = (c.requires.0, record { lists = refl; sections = refl });
    }

pub overflow_add-child-2 : goal.overflow_add-child-2
overflow_add-child-2 c = omega (arith, c.whole-2.ensures.1 c.if-not-whole-2.false, c.requires.0.words)

pub find-x-requires : goal.find-x-requires
find-x-requires c = (c.whole-2.ensures.1 c.if-not-whole-2.false, c.requires.0.words)

pub returns-then-not-whole-3 : goal.returns-then-not-whole-3
returns-then-not-whole-3 c =
    let a = c.args in
    let f = c.refuse-then-not-whole-3.ensures in record {
      by_index = λ l v. f.0 a.events.now a.stack.now l v ∙ term-endless a.d a.i _ c.if-i-lt-WIDTH.false
          (sym (c.whole.ensures.0 a.events.now a.stack.now l v c.requires.0.words) ∙ c.if-not-whole.false)
          (sym (c.whole-2.ensures.0 a.events.now a.stack.now l v c.requires.0.words) ∙ c.if-not-whole-2.false)
          (sym c.is_at.ensures ∙ c.if-not-is_at.false)
          c.find-x.result (c.find-x.ensures.0 a.stack.now l v)
          (sym (c.whole-3.ensures.0 a.events.now a.stack.now l v c.requires.0.words) ∙ c.if-not-whole-3.true);
      fits = (record { words = omega (arith, f.1, c.requires.0.words); depth = omega (arith, f.2, c.requires.0.depth); room = c.requires.0.room }, record { lists = f.4.lists; sections = f.4.sections });
    }

pub move_term-requires : goal.move_term-requires
move_term-requires c = (c.requires.0, c.requires.1, c.if-i-lt-WIDTH.false, omega (arith, c.find-x.ensures.1), c.whole-3.ensures.1 c.if-not-whole-3.false)

pub returns : goal.returns
returns c =
    let a = c.args in record {
      by_index = λ l v. c.move_term.ensures l v ∙ term_moved a.d a.i _ c.if-i-lt-WIDTH.false
          (sym (c.whole.ensures.0 a.events.now a.stack.now l v c.requires.0.words) ∙ c.if-not-whole.false)
          (sym (c.whole-2.ensures.0 a.events.now a.stack.now l v c.requires.0.words) ∙ c.if-not-whole-2.false)
          (sym c.is_at.ensures ∙ c.if-not-is_at.false)
          c.find-x.result (c.find-x.ensures.0 a.stack.now l v)
          (sym (c.whole-3.ensures.0 a.events.now a.stack.now l v c.requires.0.words) ∙ c.if-not-whole-3.false);
      fits = (record { words = omega (arith, c.requires.0.words, c.move_term.auto.events); depth = omega (arith, c.requires.0.depth, c.move_term.auto.stack); room = omega (arith, c.requires.0.room, c.move_term.auto.stack) }, record { lists = refl; sections = refl });
    }
