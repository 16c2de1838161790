use borrow.Author.Tests.{eq-eqb, ne_eqb}
use Rattle.attrs.specs.Machine.{is_quoted}
use Rattle.attrs.proofs.is_quoted.Goals as goal

pub returns-then-b-eq34 : goal.returns-then-b-eq34
unfolding is_quoted
returns-then-b-eq34 c = rw (eq-eqb _ _ c.if-b-eq34.true)

pub returns-then-b-eq92 : goal.returns-then-b-eq92
unfolding is_quoted
returns-then-b-eq92 c = rw (ne_eqb _ _ c.if-b-eq34.false, eq-eqb _ _ c.if-b-eq92.true)

pub returns : goal.returns
unfolding is_quoted
returns c = rw (ne_eqb _ _ c.if-b-eq34.false, ne_eqb _ _ c.if-b-eq92.false)
