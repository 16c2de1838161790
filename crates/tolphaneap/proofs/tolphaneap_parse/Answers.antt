use mathlib.Core.Path.{ap}
use Rattle.tolphaneap.specs.Answers.{answer_words}
use Rattle.tolphaneap.proofs.tolphaneap_parse.Goals as goal

pub returns : goal.returns
returns c = record {
  answer_after = ap answer_words c.parse-a.ensures.value;
  lines_after = c.parse-a.ensures.lines_after;
  events_after = c.parse-a.ensures.events_after;
}
