use mathlib.Core.Path.{◌∙◌}
use Rattle.editions.proofs.RunLaws.{left_other, left-none, left-level}
use Rattle.editions.proofs.left.Goals as goal

pub returns-then-o-n : goal.returns-then-o-n
returns-then-o-n c = c.least.ensures ∙ left_other c.args.o c.args.n c.if-o-n.true

pub returns-then-o-eq0 : goal.returns-then-o-eq0
returns-then-o-eq0 c = left-none c.args.o c.args.n c.if-o-n.false c.if-o-eq0.true

pub returns : goal.returns
returns c = left-level c.args.o c.args.n c.if-o-n.false
