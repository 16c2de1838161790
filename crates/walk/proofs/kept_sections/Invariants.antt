use mathlib.Core.Path.{◌≡◌}
use Prim.Native.Nat.{◌≤◌}
use lib.ListN.{length}
use Rattle.walk.specs.Leaf.{kept_of}
use Rattle.walk.proofs.kept_sections.Given as goal

abbrev pub invariant-loop-n : goal.invariant-loop-n
invariant-loop-n l = (l.n ≤ length l.levels) × (kept_of l.levels l.level l.n ≡ kept_of l.levels l.level (length l.levels))

abbrev pub decreases-loop-n : goal.decreases-loop-n
decreases-loop-n l = l.n
