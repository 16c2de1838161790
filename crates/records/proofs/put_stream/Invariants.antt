use Rattle.std.proofs.Common.{◌≡◌, true}
use Rattle.sinks.specs.Sinks.{fills, has_filled}
use Rattle.events.specs.Pack.{live_of}
use Rattle.events.proofs.PackLaws.{rest_of}
use Rattle.records.specs.Records.{all_listed}
use Rattle.records.proofs.PutEach.{PutEach}
use Rattle.records.proofs.WriteLaws.{piece}
use Rattle.records.proofs.put_stream.Given as goal

abbrev pub invariant-loop-x : goal.invariant-loop-x
invariant-loop-x l = record {
  same_words : l.x-iterator.words.now ≡ l.words;
  listed : all_listed (live_of (rest_of l.words l.x-iterator.next)) ≡ true;
  put : PutEach fills has_filled piece l.words l.initial.sink l.x-iterator.next l.sink;
}
