use mathlib.Core.Path.{ap, ◌∙◌}
use Rattle.tolphaneap_sets.specs.Answers.{opened_words}
use Rattle.tolphaneap_sets.proofs.tolphaneap_set_value.Goals as goal

pub returns : goal.returns
returns c = record {
  answer_after = c.tell.ensures ∙ ap opened_words c.value-a.ensures.value;
  elements_after = c.value-a.ensures.elements_after;
  pieces_after = c.value-a.ensures.pieces_after;
}
