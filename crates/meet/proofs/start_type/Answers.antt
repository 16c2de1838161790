use mathlib.Core.Path.{sym, ◌∙◌}
use Rattle.lists.specs.Lists.{same_type}
use Rattle.meet.proofs.SettleLaws.{marker-yes, marker-no}
use Rattle.meet.proofs.start_type.Goals as goal

pub returns-then-same_type : goal.returns-then-same_type
returns-then-same_type c = let o = c.args.o in marker-yes (same_type o.start o.prev) c.args.p o.start (sym c.same_type.ensures ∙ c.if-same_type.true)

pub returns : goal.returns
returns c = let o = c.args.o in marker-no (same_type o.start o.prev) c.args.p o.start (sym c.same_type.ensures ∙ c.if-same_type.false)
