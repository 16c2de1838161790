use mathlib.Core.Path.{ap, ◌∙◌}
use Rattle.tolphaneap.specs.Answers.{moved_words}
use Rattle.tolphaneap.proofs.tolphaneap_list.Goals as goal

pub returns : goal.returns
returns c = record { answer_after = c.tell.ensures ∙ ap moved_words c.list.ensures.value; out_after = c.list.ensures.out_after }
