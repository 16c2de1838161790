use Prim.Native.Nat.{◌-◌}
use Rattle.editions.proofs.RunLaws.{Backing}
use Rattle.editions.proofs.back.Given as goal

abbrev pub invariant-loop-r : goal.invariant-loop-r
invariant-loop-r l = Backing l.older l.os l.newer l.ns l.k l.p l.q l.r

abbrev pub decreases-loop-r : goal.decreases-loop-r
decreases-loop-r l = l.most - l.r
