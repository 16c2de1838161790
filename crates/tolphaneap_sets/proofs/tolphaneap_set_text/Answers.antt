use mathlib.Core.Path.{ap, ◌∙◌}
use Rattle.tolphaneap_sets.specs.Answers.{opened_words}
use Rattle.tolphaneap_sets.proofs.tolphaneap_set_text.Goals as goal

pub returns : goal.returns
returns c = record {
  answer_after = c.tell.ensures ∙ ap opened_words c.text-a.ensures.value;
  elements_after = c.text-a.ensures.elements_after;
  pieces_after = c.text-a.ensures.pieces_after;
  out_after = c.text-a.ensures.out_after;
}
