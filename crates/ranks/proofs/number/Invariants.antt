use Rattle.std.proofs.Common.{◌≡◌, take}
use Rattle.ranks.specs.Sorting.{upto}
use Rattle.ranks.proofs.number.Given as goal

abbrev pub invariant-loop-i : goal.invariant-loop-i
invariant-loop-i l = take l.i l.places ≡ upto 0 l.i
