use native.Mathlib.Nat.{pos_of_ne-zero}
use Rattle.containers.proofs.EnterLaws.{here-none, here-some}
use Rattle.containers.proofs.open_here.Goals as goal

pub returns-then-st-eq0 : goal.returns-then-st-eq0
returns-then-st-eq0 c = λ e k v d. here-none c.args.st e k c.args.lists.now v c.if-st-eq0.true

pub last_list-o-requires : goal.last_list-o-requires
last_list-o-requires c = (pos_of_ne-zero c.if-st-eq0.false, c.requires)

pub returns : goal.returns
returns c = λ e k v d. here-some c.args.st e k c.args.lists.now v c.requires c.if-st-eq0.false c.last_list-o.result (c.last_list-o.ensures e k v) d
