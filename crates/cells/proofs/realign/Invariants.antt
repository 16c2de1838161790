use mathlib.Core.Path.{◌≡◌}
use mathlib.Core.List.{List}
use Prim.Native.Nat.{ℕ, ◌-◌, ◌≤◌}
use lib.ListN.{length}
use Rattle.events.specs.View.{view}
use Rattle.walk.specs.Table.{cell_at, align_cells}
use Rattle.cells.proofs.realign.Given as goal

abbrev pub invariant-loop-i : goal.invariant-loop-i
invariant-loop-i l = (l.i ≤ l.n) × (length l.events ≡ length l.initial.events) × (l.cur ≡ cell_at l.sep l.i) × ((k m v : List ℕ) → align_cells l.sep l.row l.i (l.n - l.i) (view l.st l.events k m v) ≡ align_cells l.sep l.row 0 l.n (view l.st l.initial.events k m v))

abbrev pub decreases-loop-i : goal.decreases-loop-i
decreases-loop-i l = l.n - l.i
