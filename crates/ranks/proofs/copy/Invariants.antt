use Rattle.ranks.proofs.MergeLaws.{Written}
use Rattle.ranks.proofs.copy.Given as goal

abbrev pub invariant-loop-i : goal.invariant-loop-i
invariant-loop-i l = Written l.from l.to l.i
