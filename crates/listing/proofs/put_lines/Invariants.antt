use Rattle.std.proofs.Common.{◌≡◌}
use Rattle.records.proofs.PutEach.{PutEach}
use Rattle.listing.specs.Listing.{line_in}
use Rattle.listing.specs.Modes.{mode_num}
use Rattle.listing.proofs.put_lines.Given as goal

abbrev pub invariant-loop-x : goal.invariant-loop-x
invariant-loop-x g l = record {
  same_words : l.x-iterator.words.now ≡ l.words;
  put : PutEach g.S.Sink.fits g.S.Sink.took (line_in (mode_num l.mode)) l.words l.initial.sink l.x-iterator.next l.sink;
}
