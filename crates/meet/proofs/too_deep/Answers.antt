use mathlib.Core.Path.{sym, ◌∙◌}
use lib.Dec.{eqb}
use Rattle.walk.specs.Fields.{is_container}
use Rattle.meet.proofs.AdmitLaws.{both-no, both_yes}
use Rattle.meet.proofs.too_deep.Goals as goal

pub returns-then-not-is_container : goal.returns-then-not-is_container
returns-then-not-is_container c = both-no (is_container c.args.kind) (eqb c.args.left 0) (sym c.is_container.ensures ∙ c.if-not-is_container.true)

pub returns : goal.returns
returns c = both_yes (is_container c.args.kind) (eqb c.args.left 0) (sym c.is_container.ensures ∙ c.if-not-is_container.false)
