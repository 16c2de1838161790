use mathlib.Core.Path.{◌≡◌}
use Prim.Native.Nat.{ℕ, ◌+◌, ◌-◌, ◌≤◌, ◌<◌}
use lib.ListN.{length, get_or}
use Rattle.moves.specs.Moves.{all_before}
use Rattle.moves.proofs.all_before.Given as goal

abbrev pub invariant-loop-i : goal.invariant-loop-i
invariant-loop-i l = (l.i ≤ length l.os) × (all_before l.os l.a l.i (length l.os - l.i) ≡ all_before l.os l.a 0 (length l.os)) × ((j : ℕ) → j < l.i → get_or l.os j 0 + 8 ≤ l.a)

abbrev pub decreases-loop-i : goal.decreases-loop-i
decreases-loop-i l = length l.os - l.i
