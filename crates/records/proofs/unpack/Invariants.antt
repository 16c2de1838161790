use Prim.Native.Nat.{◌-◌}
use lib.ListN.{length}
use Rattle.records.proofs.ReadLaws.{Unpacked}
use Rattle.records.proofs.unpack.Given as goal

abbrev pub invariant-loop-at : goal.invariant-loop-at
invariant-loop-at l = Unpacked l.bytes l.initial.words l.words l.at l.w

abbrev pub decreases-loop-at : goal.decreases-loop-at
decreases-loop-at l = length l.bytes - l.at
