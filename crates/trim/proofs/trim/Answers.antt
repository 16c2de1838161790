use mathlib.Core.Path.{◌∙◌, ap}
use Rattle.trim.specs.Trim.{trim_end, trim_both}
use Rattle.trim.proofs.trim.Goals as goal

pub returns : goal.returns
unfolding trim_both
returns c = c.trim_end.ensures ∙ ap trim_end c.trim_start-front.ensures
