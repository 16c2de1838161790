use mathlib.Core.Path.{◌∙◌, sym}
use Rattle.kinds.proofs.KindLaws.{heading-yes, heading-no}
use Rattle.kinds.proofs.heading.Goals as goal

pub returns-then-ends : goal.returns-then-ends
returns-then-ends c = c.new.ensures ∙ heading-yes _ _ _ c.run_of-level.ensures.0 (sym c.ends.ensures ∙ c.if-ends.true)

pub returns : goal.returns
returns c = c.paragraph.ensures ∙ heading-no _ _ _ c.run_of-level.ensures.0 (sym c.ends.ensures ∙ c.if-ends.false)
