use Rattle.record.proofs.RecordLaws.{piece}
use Rattle.sinks.proofs.PutLaws.{Putting}
use Rattle.record.proofs.put_body.Given as goal

abbrev pub invariant-loop-f : goal.invariant-loop-f
invariant-loop-f g l = Putting g.S.Sink.fits g.S.Sink.took piece l.initial.sink l.f-items l.f-index l.sink
