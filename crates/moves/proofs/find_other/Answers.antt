use native.Mathlib.Omega.{arith}
use mathlib.Core.Path.{refl, sym, ap, ◌∙◌}
use mathlib.Core.Bool.{not}
use Rattle.moves.specs.Moves.{other}
use Rattle.moves.proofs.MoveLaws.{other-near, first-hit, first_on, first-end, other-view}
use Rattle.moves.proofs.find_other.Goals as goal

pub loop-j-init : goal.loop-j-init
loop-j-init c = (omega arith, omega arith, refl)

pub returns-then-not-is_at : goal.returns-then-not-is_at
returns-then-not-is_at c =
    let l = c.loop-j in
    let a = c.args in
    ((λ k m v. sym (first-hit (other a.role a.node) (other-near a.role a.node) a.st.words a.events.now l.j c.loop-j-test.true (ap not (sym c.is_at.ensures ∙ c.if-not-is_at.true))) ∙ l.invariant.2 ∙ other-view a.st a.events.now a.role a.node a.i c.requires.1 k m v), l.invariant.0, l.invariant.1)

pub loop-j-preserved : goal.loop-j-preserved
loop-j-preserved c =
    let l = c.loop-j in
    let a = c.args in
    (omega arith, omega arith, sym (first_on (other a.role a.node) (other-near a.role a.node) a.st.words a.events.now l.j c.loop-j-test.true (ap not (sym c.is_at.ensures ∙ c.if-not-is_at.false))) ∙ l.invariant.2)

pub returns : goal.returns
returns c =
    let l = c.loop-j in
    let a = c.args in
    ((λ k m v. sym (first-end (other a.role a.node) (other-near a.role a.node) a.st.words a.events.now l.j c.loop-j-test.false) ∙ l.invariant.2 ∙ other-view a.st a.events.now a.role a.node a.i c.requires.1 k m v), l.invariant.0, l.invariant.1)
