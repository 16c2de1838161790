use mathlib.Core.Path.{◌≡◌}
use Prim.Native.Nat.{◌-◌, ◌≤◌}
use lib.ListN.{length}
use Rattle.moves.specs.Moves.{exits_of}
use Rattle.moves.proofs.SectionLaws.{gapped}
use Rattle.moves.proofs.fill_exits.Given as goal

abbrev pub invariant-loop-i : goal.invariant-loop-i
invariant-loop-i l = (l.n ≡ length l.os) × (l.i ≤ l.n) × (length l.events ≡ length l.initial.events) × (l.events ≡ gapped l.initial.events l.a l.i (exits_of l.pos l.initial.events l.os l.i))

abbrev pub decreases-loop-i : goal.decreases-loop-i
decreases-loop-i l = l.n - l.i
