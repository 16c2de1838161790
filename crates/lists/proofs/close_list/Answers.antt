use native.Mathlib.Omega.{arith}
use mathlib.Core.Path.{refl, sym, ◌∙◌}
use native.Mathlib.Nat.{pos_of_ne-zero}
use Rattle.lists.proofs.CloseLaws.{close-none, close-outside, close-deeper, close-part, close-stop, close-on}
use Rattle.lists.proofs.close_list.Goals as goal

pub returns-then-st-eq0 : goal.returns-then-st-eq0
returns-then-st-eq0 c =
    let a = c.args in
    let f = c.refuse.ensures in record { by_index = λ v. f.0 a.events.now a.stack.now a.lists.now v ∙ close-none a.pos a.st a.events.now a.stack.now a.lists.now v c.if-st-eq0.true; fits = (record { words = omega (arith, f.1, c.requires.0.words); depth = omega (arith, f.2, c.requires.0.depth); room = c.requires.0.room }, omega (arith, f.4.lists, c.requires.1), f.4.sections) }

pub last_list-o-requires : goal.last_list-o-requires
last_list-o-requires c = (pos_of_ne-zero c.if-st-eq0.false, c.requires.1)

pub returns-then-d-eq0 : goal.returns-then-d-eq0
returns-then-d-eq0 c =
    let a = c.args in
    let f = c.refuse-then-d-eq0.ensures in record { by_index = λ v. f.0 a.events.now a.stack.now a.lists.now v ∙ close-outside a.pos a.st a.events.now a.stack.now a.lists.now v c.requires.1 c.if-st-eq0.false c.last_list-o.result (c.last_list-o.ensures a.events.now a.stack.now v) c.if-d-eq0.true; fits = (record { words = omega (arith, f.1, c.requires.0.words); depth = omega (arith, f.2, c.requires.0.depth); room = c.requires.0.room }, omega (arith, f.4.lists, c.requires.1), f.4.sections) }

pub returns-then-st-d : goal.returns-then-st-d
returns-then-st-d c =
    let a = c.args in
    let f = c.refuse-then-st-d.ensures in record { by_index = λ v. f.0 a.events.now a.stack.now a.lists.now v ∙ close-deeper a.pos a.st a.events.now a.stack.now a.lists.now v c.requires.1 c.if-st-eq0.false c.last_list-o.result (c.last_list-o.ensures a.events.now a.stack.now v) c.requires.0.depth c.if-d-eq0.false c.if-st-d.true; fits = (record { words = omega (arith, f.1, c.requires.0.words); depth = omega (arith, f.2, c.requires.0.depth); room = c.requires.0.room }, omega (arith, f.4.lists, c.requires.1), f.4.sections) }

pub overflow_sub-e : goal.overflow_sub-e
overflow_sub-e c = omega (arith, pos_of_ne-zero c.if-d-eq0.false)

pub bounds-stack-d : goal.bounds-stack-d
bounds-stack-d c = omega (arith, c.if-st-d.false, c.requires.0.depth, pos_of_ne-zero c.if-d-eq0.false)

pub returns-then-not-whole : goal.returns-then-not-whole
returns-then-not-whole c =
    let a = c.args in
    let f = c.refuse-then-not-whole.ensures in record { by_index = λ v. f.0 a.events.now a.stack.now a.lists.now v ∙ close-part a.pos a.st a.events.now a.stack.now a.lists.now v c.requires.1 c.if-st-eq0.false c.last_list-o.result (c.last_list-o.ensures a.events.now a.stack.now v) c.requires.0.depth c.if-d-eq0.false c.if-st-d.false _ refl (sym (c.whole.ensures.0 a.events.now a.stack.now a.lists.now v c.requires.0.words) ∙ c.if-not-whole.true); fits = (record { words = omega (arith, f.1, c.requires.0.words); depth = omega (arith, f.2, c.requires.0.depth); room = c.requires.0.room }, omega (arith, f.4.lists, c.requires.1), f.4.sections) }

pub retype-requires : goal.retype-requires
retype-requires c = (c.whole.ensures.1 c.if-not-whole.false, c.requires.0.words)

pub exit-a-requires : goal.exit-a-requires
exit-a-requires c = record { words = omega (arith, c.requires.0.words, c.retype.auto.events); depth = c.requires.0.depth; room = c.requires.0.room }

pub returns-then-a-ne0 : goal.returns-then-a-ne0
returns-then-a-ne0 c =
    let a = c.args in
    let x = c.exit-a.ensures in record {
      by_index = λ v. close-stop a.pos a.st a.events.now a.stack.now a.lists.now v c.requires.1 c.if-st-eq0.false c.last_list-o.result (c.last_list-o.ensures a.events.now a.stack.now v) c.requires.0.depth c.if-d-eq0.false c.if-st-d.false _ refl (sym (c.whole.ensures.0 a.events.now a.stack.now a.lists.now v c.requires.0.words) ∙ c.if-not-whole.false)
          c.retype.new.events c.exit-a.new.events c.exit-a.result (c.retype.ensures a.stack.now a.lists.now v) (x.by_index a.lists.now v) c.if-a-ne0.true;
      fits = (x.fits.0, omega (arith, c.requires.1, x.fits.2.lists), x.fits.2.sections);
    }

pub pop_list-requires : goal.pop_list-requires
pop_list-requires c = omega (arith, pos_of_ne-zero c.if-st-eq0.false, c.exit-a.ensures.fits.2.lists)

pub returns : goal.returns
returns c =
    let a = c.args in
    let x = c.exit-a.ensures in
    let p = c.pop_list.ensures in
    let n = x.fits.2.lists in record {
      by_index = λ v. p.0 c.exit-a.new.events a.stack.now a.lists.now v (omega (arith, c.requires.1, n)) ∙ close-on a.pos a.st a.events.now a.stack.now a.lists.now v c.requires.1 c.if-st-eq0.false c.last_list-o.result (c.last_list-o.ensures a.events.now a.stack.now v) c.requires.0.depth c.if-d-eq0.false c.if-st-d.false _ refl (sym (c.whole.ensures.0 a.events.now a.stack.now a.lists.now v c.requires.0.words) ∙ c.if-not-whole.false)
          c.retype.new.events c.exit-a.new.events c.exit-a.result (c.retype.ensures a.stack.now a.lists.now v) (x.by_index a.lists.now v) c.if-a-ne0.false;
      fits = (record { words = omega (arith, p.2, x.fits.0.words); depth = omega (arith, p.3, x.fits.0.depth); room = c.requires.0.room }, omega (arith, c.requires.1, n, p.1), p.4 ∙ x.fits.2.sections);
    }
