use mathlib.Core.Path.{◌∙◌, sym}
use Rattle.kinds.proofs.KindLaws.{quote-yes, quote-no}
use Rattle.kinds.proofs.quote.Goals as goal

pub returns-then-ends : goal.returns-then-ends
returns-then-ends c = c.new.ensures ∙ quote-yes _ _ (sym c.ends.ensures ∙ c.if-ends.true)

pub returns : goal.returns
returns c = c.paragraph.ensures ∙ quote-no _ _ (sym c.ends.ensures ∙ c.if-ends.false)
