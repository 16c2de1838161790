use Rattle.keys.specs.Keys.{has_key}
use Rattle.values.proofs.KeptLaws.{Kept, replacing}
use Rattle.values.proofs.keep_last.Given as goal

abbrev pub invariant-loop-i : goal.invariant-loop-i
invariant-loop-i l = Kept (replacing (has_key l.bytes l.key)) l.n l.initial.elements l.elements l.m l.i
