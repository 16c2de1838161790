use Rattle.std.proofs.Common.{◌≡◌, length}
use Rattle.print.specs.Held.{after_put}
use Rattle.print.proofs.Out.put.Given as goal

abbrev pub invariant-loop-rest : goal.invariant-loop-rest
invariant-loop-rest g l = after_put l.self l.rest ≡ after_put l.initial.self l.s

abbrev pub decreases-loop-rest : goal.decreases-loop-rest
decreases-loop-rest g l = length l.rest
