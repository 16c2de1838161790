use Rattle.cells.proofs.is_dropped.Goals as goal

pub returns-then-not-separators : goal.returns-then-not-separators
returns-then-not-separators c = rw c.if-not-separators.true

pub returns : goal.returns
returns c = rw c.if-not-separators.false
