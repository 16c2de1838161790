use Rattle.std.proofs.Common.{◌-◌, ◌≤◌, length}
use Rattle.ranks.specs.View.{less_in}
use Rattle.ranks.proofs.MergeLaws.{Merged}
use Rattle.ranks.proofs.Keyed.merge.Given as goal

abbrev pub invariant-loop-i : goal.invariant-loop-i
invariant-loop-i l = Merged (less_in l.self) l.l l.r l.to l.i l.j

abbrev pub decreases-loop-i : goal.decreases-loop-i
decreases-loop-i l = length l.l - l.i

abbrev pub invariant-loop-key : goal.invariant-loop-key
invariant-loop-key l = Merged (less_in l.self) l.l l.r l.to l.i l.j

abbrev pub decreases-loop-key : goal.decreases-loop-key
decreases-loop-key l = length l.r - l.j

abbrev pub invariant-loop-j : goal.invariant-loop-j
invariant-loop-j l = (length l.l ≤ l.i) × Merged (less_in l.self) l.l l.r l.to l.i l.j

abbrev pub decreases-loop-j : goal.decreases-loop-j
decreases-loop-j l = length l.r - l.j
