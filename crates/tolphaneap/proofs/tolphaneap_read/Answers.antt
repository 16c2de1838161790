use mathlib.Core.Path.{ap, ◌∙◌}
use Rattle.tolphaneap.specs.Answers.{moved_words}
use Rattle.tolphaneap.proofs.tolphaneap_read.Goals as goal

pub returns : goal.returns
returns c = record { answer_after = c.tell.ensures ∙ ap moved_words c.read.ensures.value; events_after = c.read.ensures.words_after }
