use Rattle.std.proofs.Common.{◌≡◌, ◌+◌}
use Rattle.std.specs.Slice.Iter.{chunks_rest, chunks_size}
use Rattle.lines.specs.Lines.{newlines_of}
use Rattle.lines.proofs.count_newlines.Given as goal

abbrev pub invariant-loop-part : goal.invariant-loop-part
invariant-loop-part l = (chunks_size l.part-iterator ≡ 192) × (l.count + newlines_of (chunks_rest l.part-iterator) ≡ newlines_of l.text)
