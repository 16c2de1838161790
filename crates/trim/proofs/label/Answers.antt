use Rattle.std.proofs.Common.{◌∙◌}
use Rattle.trim.proofs.LabelLaws.{no_label, label-part}
use Rattle.trim.proofs.label.Goals as goal

pub returns-in-Some : goal.returns-in-Some
returns-in-Some c = c.part.ensures ∙ label-part _ _ _ c.in-Some.ensures.0 c.label_start.ensures c.in-Some.ensures.1

pub returns-in-None : goal.returns-in-None
returns-in-None c = no_label _ c.in-None.ensures
