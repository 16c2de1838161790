use mathlib.Core.Path.{ap, ◌∙◌}
use Rattle.tolphaneap.specs.Answers.{moved_words}
use Rattle.tolphaneap.proofs.tolphaneap_page.Goals as goal

pub returns : goal.returns
returns c = record { answer_after = c.tell.ensures ∙ ap moved_words c.page.ensures.value; out_after = c.page.ensures.out_after }
