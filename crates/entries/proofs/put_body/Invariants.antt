use Rattle.sinks.proofs.PutLaws.{Putting}
use Rattle.entries.proofs.EntryLaws.{piece}
use Rattle.entries.proofs.put_body.Given as goal

abbrev pub invariant-loop-f : goal.invariant-loop-f
invariant-loop-f g l = Putting g.S.Sink.fits g.S.Sink.took piece l.initial.sink l.f-items l.f-index l.sink
