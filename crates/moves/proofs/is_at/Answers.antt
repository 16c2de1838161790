use borrow.Author.Tests.{eq-eqb, ne_eqb}
use Rattle.moves.proofs.is_at.Goals as goal

pub returns-then-events-i : goal.returns-then-events-i
returns-then-events-i c = rw (ne_eqb _ _ c.if-events-i.true)

pub returns : goal.returns
returns c = rw (eq-eqb _ _ c.if-events-i.false)
