use Prim.Native.Nat.{◌-◌}
use Rattle.editions.proofs.RunLaws.{Fronting}
use Rattle.editions.proofs.front.Given as goal

abbrev pub invariant-loop-k : goal.invariant-loop-k
invariant-loop-k l = Fronting l.older l.os l.newer l.ns l.a l.b l.k

abbrev pub decreases-loop-k : goal.decreases-loop-k
decreases-loop-k l = l.most - l.k
