use native.Mathlib.Omega.{arith}
use mathlib.Core.Path.{refl, sym, ◌∙◌}
use Rattle.moves.specs.Moves.{found}
use Rattle.moves.proofs.MoveLaws.{found-near, first-hit, first_on, first-end, find-view}
use Rattle.moves.proofs.find.Goals as goal

pub loop-j-init : goal.loop-j-init
loop-j-init c = (omega arith, omega arith, refl)

pub returns-then-is_at : goal.returns-then-is_at
returns-then-is_at c =
    let l = c.loop-j in
    let a = c.args in
    ((λ k m v. sym (first-hit (found a.role a.node) (found-near a.role a.node) a.st.words a.events.now l.j c.loop-j-test.true (sym c.is_at.ensures ∙ c.if-is_at.true)) ∙ l.invariant.2 ∙ find-view a.st a.events.now a.role a.node a.i c.requires.1 k m v), l.invariant.0, l.invariant.1)

pub loop-j-preserved : goal.loop-j-preserved
loop-j-preserved c =
    let l = c.loop-j in
    let a = c.args in
    (omega arith, omega arith, sym (first_on (found a.role a.node) (found-near a.role a.node) a.st.words a.events.now l.j c.loop-j-test.true (sym c.is_at.ensures ∙ c.if-is_at.false)) ∙ l.invariant.2)

pub returns : goal.returns
returns c =
    let l = c.loop-j in
    let a = c.args in
    ((λ k m v. sym (first-end (found a.role a.node) (found-near a.role a.node) a.st.words a.events.now l.j c.loop-j-test.false) ∙ l.invariant.2 ∙ find-view a.st a.events.now a.role a.node a.i c.requires.1 k m v), l.invariant.0, l.invariant.1)
