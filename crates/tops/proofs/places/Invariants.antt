use Rattle.std.proofs.Common.{◌≡◌}
use Rattle.tops.proofs.PlaceLaws.{Walked}
use Rattle.tops.proofs.places.Given as goal

abbrev pub invariant-loop-x : goal.invariant-loop-x
invariant-loop-x l = (l.x-iterator.words.now ≡ l.words) × Walked l.words l.initial.out l.x-iterator.next l.w l.out
