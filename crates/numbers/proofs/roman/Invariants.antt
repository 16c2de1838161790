use Rattle.numbers.proofs.RomanLaws.{Reading}
use Rattle.numbers.proofs.roman.Given as goal

abbrev pub invariant-loop-b : goal.invariant-loop-b
invariant-loop-b l = Reading l.s l.b-iterator.iter.rest.now l.v l.right
