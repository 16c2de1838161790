use mathlib.Core.Path.{ap, ◌∙◌}
use Rattle.tolphaneap.specs.Answers.{moved_words}
use Rattle.tolphaneap.proofs.tolphaneap_write.Goals as goal

pub returns : goal.returns
returns c = record { answer_after = c.tell.ensures ∙ ap moved_words c.write.ensures.value; bytes_after = c.write.ensures.bytes_after }
