use mathlib.Core.Path.{sym, ap}
use Rattle.lists.specs.Lists.{style_by}
use Rattle.lists.proofs.ListLaws.{last-style}
use Rattle.lists.proofs.style_by.Goals as goal

pub returns-then-n-eq0 : goal.returns-then-n-eq0
unfolding style_by
returns-then-n-eq0 c = sym (ap style_by c.if-n-eq0.true)

pub returns-then-n-eq1 : goal.returns-then-n-eq1
unfolding style_by
returns-then-n-eq1 c = sym (ap style_by c.if-n-eq1.true)

pub returns : goal.returns
returns c = sym (last-style c.args.n c.if-n-eq0.false c.if-n-eq1.false)
