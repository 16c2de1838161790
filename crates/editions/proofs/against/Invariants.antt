use Prim.Native.Nat.{◌-◌, ◌/◌}
use Rattle.events.specs.Pack.{live_in}
use Rattle.tops.specs.Places.{events_behind}
use Rattle.editions.specs.Editions.{against_of}
use lib.ListN.{length}
use Rattle.editions.proofs.AgainstLaws.{Against}
use Rattle.editions.proofs.against.Given as goal

abbrev pub invariant-loop-i : goal.invariant-loop-i
invariant-loop-i l = Against l.given l.parsed (against_of l.from (events_behind l.given l.from) (live_in l.parsed)) l.i l.j

abbrev pub decreases-loop-i : goal.decreases-loop-i
decreases-loop-i l = length l.given / 8 - l.i
