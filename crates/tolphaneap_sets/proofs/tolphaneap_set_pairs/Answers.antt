use mathlib.Core.Path.{ap, ◌∙◌}
use Rattle.tolphaneap_sets.specs.Answers.{opened_words}
use Rattle.tolphaneap_sets.proofs.tolphaneap_set_pairs.Goals as goal

pub returns : goal.returns
returns c = record {
  answer_after = c.tell.ensures ∙ ap opened_words c.pairs-a.ensures.value;
  elements_after = c.pairs-a.ensures.elements_after;
  pieces_after = c.pairs-a.ensures.pieces_after;
  places_after = c.pairs-a.ensures.places_after;
}
