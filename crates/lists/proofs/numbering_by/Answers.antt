use mathlib.Core.Path.{sym, ap}
use Rattle.lists.specs.Lists.{numbering_by}
use Rattle.lists.proofs.ListLaws.{last-numbering}
use Rattle.lists.proofs.numbering_by.Goals as goal

pub returns-then-n-eq1 : goal.returns-then-n-eq1
unfolding numbering_by
returns-then-n-eq1 c = sym (ap numbering_by c.if-n-eq1.true)

pub returns-then-n-eq2 : goal.returns-then-n-eq2
unfolding numbering_by
returns-then-n-eq2 c = sym (ap numbering_by c.if-n-eq2.true)

pub returns-then-n-eq3 : goal.returns-then-n-eq3
unfolding numbering_by
returns-then-n-eq3 c = sym (ap numbering_by c.if-n-eq3.true)

pub returns-then-n-eq4 : goal.returns-then-n-eq4
unfolding numbering_by
returns-then-n-eq4 c = sym (ap numbering_by c.if-n-eq4.true)

pub returns : goal.returns
returns c = sym (last-numbering c.args.n c.if-n-eq1.false c.if-n-eq2.false c.if-n-eq3.false c.if-n-eq4.false)
