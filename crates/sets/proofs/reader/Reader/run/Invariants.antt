use Rattle.sets.proofs.ReadLaws.{Going}
use Rattle.sets.proofs.reader.Reader.run.Given as goal

abbrev pub invariant-loop-p : goal.invariant-loop-p
invariant-loop-p l = Going l.bytes l.set l.initial.self l.self l.p
