use mathlib.Core.Path.{◌≡◌}
use Prim.Native.Nat.{◌-◌, ◌/◌, ◌≤◌}
use lib.ListN.{length}
use Rattle.cells.proofs.EndLaws.{Rest}
use Rattle.cells.proofs.rows_of.Given as goal

abbrev pub invariant-loop-k : goal.invariant-loop-k
invariant-loop-k l = (l.n ≡ length l.lines / 2) × (l.k ≤ l.n) × Rest l.text l.lines l.initial.r.st l.initial.events l.k l.r l.events

abbrev pub decreases-loop-k : goal.decreases-loop-k
decreases-loop-k l = l.n - l.k
