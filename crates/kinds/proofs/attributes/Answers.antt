use mathlib.Core.Path.{◌∙◌, sym}
use Rattle.kinds.proofs.KindLaws.{attributes-yes, attributes-no}
use Rattle.kinds.proofs.attributes.Goals as goal

pub returns-then-valid-trim_end : goal.returns-then-valid-trim_end
returns-then-valid-trim_end c = c.new.ensures ∙ attributes-yes _ _ _ c.trim_end.ensures (sym c.valid.ensures.0 ∙ c.if-valid-trim_end.true)

pub returns : goal.returns
returns c = c.paragraph.ensures ∙ attributes-no _ _ _ c.trim_end.ensures (λ e. c.if-valid-trim_end.false (c.valid.ensures.0 ∙ e))
