use Rattle.std.proofs.Common.{◌≡◌, ◌+◌, ◌*◌, ◌≤◌, length}
use Rattle.lines.specs.Lines.{spans_of}
use Rattle.measure.proofs.MeasureLaws.{Stage}
use Rattle.measure.proofs.measure.Given as goal

abbrev pub invariant-loop-words : goal.invariant-loop-words
invariant-loop-words l = record {
  can_next : (goal.iterator-loop-words).can_next l.words-iterator;
  is_finite : (goal.iterator-loop-words).is_finite l.words-iterator;
  pairs : l.words-iterator.size ≡ 2;
  room : l.m.lines * 2 + length l.words-iterator.rest.now ≤ length l.lines;
  given : l.m.given ≤ l.m.lines;
  looks : l.m.looks ≡ l.m.lines;
  stage : Stage l.text (spans_of l.lines) l.m (spans_of l.words-iterator.rest.now);
}
