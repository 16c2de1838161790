use Rattle.values.specs.Values.{adds}
use Rattle.values.proofs.KeptLaws.{Kept, joining}
use Rattle.values.proofs.keep_all.Given as goal

abbrev pub invariant-loop-i : goal.invariant-loop-i
invariant-loop-i l = Kept (joining (adds l.bytes l.key)) l.n l.initial.elements l.elements l.m l.i
