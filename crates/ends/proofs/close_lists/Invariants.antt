use Rattle.ends.proofs.EndLaws.{Lists}
use Rattle.ends.proofs.close_lists.Given as goal

abbrev pub invariant-loop-left : goal.invariant-loop-left
invariant-loop-left l = Lists l.pos l.initial.events l.stack l.lists l.initial.a l.initial.left l.events l.a l.left

abbrev pub decreases-loop-left : goal.decreases-loop-left
decreases-loop-left l = l.left
