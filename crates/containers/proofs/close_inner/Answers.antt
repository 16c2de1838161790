use mathlib.Core.Path.{refl, ◌∙◌}
use native.Mathlib.Nat.{pos_of_ne-zero}
use Rattle.containers.proofs.ExitLaws.{inner-none, inner-other, inner-here}
use Rattle.containers.proofs.close_inner.Goals as goal

pub returns-then-st-eq0 : goal.returns-then-st-eq0
returns-then-st-eq0 c =
    let a = c.args in record { by_index = λ v. inner-none a.pos a.st a.events.now a.stack.now a.lists.now v c.if-st-eq0.true; fits = (c.requires.0, c.requires.1, refl) }

pub last_list-o-requires : goal.last_list-o-requires
last_list-o-requires c = (pos_of_ne-zero c.if-st-eq0.false, c.requires.1)

pub returns-then-o-st : goal.returns-then-o-st
returns-then-o-st c =
    let a = c.args in record { by_index = λ v. inner-other a.pos a.st a.events.now a.stack.now a.lists.now v c.requires.1 c.if-st-eq0.false c.last_list-o.result (c.last_list-o.ensures a.events.now a.stack.now v) c.requires.0.depth c.if-o-st.true; fits = (c.requires.0, c.requires.1, refl) }

pub close_list-requires : goal.close_list-requires
close_list-requires c = (record { words = c.requires.0.words; depth = c.requires.0.depth; room = c.requires.0.room }, c.requires.1)

pub returns : goal.returns
returns c =
    let a = c.args in record { by_index = λ v. c.close_list.ensures.by_index v ∙ inner-here a.pos a.st a.events.now a.stack.now a.lists.now v c.requires.1 c.if-st-eq0.false c.last_list-o.result (c.last_list-o.ensures a.events.now a.stack.now v) c.requires.0.depth c.if-o-st.false; fits = c.close_list.ensures.fits }
