use mathlib.Core.Path.{◌≡◌}
use Prim.Native.Nat.{◌-◌, ◌/◌, ◌≤◌}
use lib.ListN.{take}
use Rattle.moves.specs.Moves.{first_from, other}
use Rattle.moves.proofs.find_other.Given as goal

abbrev pub invariant-loop-j : goal.invariant-loop-j
invariant-loop-j l = (l.i ≤ l.j) × (l.j ≤ l.w) × (first_from (other l.role l.node) l.j ((l.w - l.j) / 8) (take l.w l.events) ≡ first_from (other l.role l.node) l.i ((l.w - l.i) / 8) (take l.w l.events))

abbrev pub decreases-loop-j : goal.decreases-loop-j
decreases-loop-j l = l.w - l.j
