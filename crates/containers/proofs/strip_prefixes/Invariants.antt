use mathlib.Core.Path.{◌≡◌}
use Prim.Native.Nat.{◌-◌, ◌≤◌}
use lib.ListN.{length}
use Rattle.lines.specs.Lines.{spans_of}
use Rattle.walk.specs.Tree.{strip_line}
use Rattle.containers.proofs.PrefixLaws.{later_to}
use Rattle.containers.proofs.strip_prefixes.Given as goal

abbrev pub invariant-loop-k : goal.invariant-loop-k
invariant-loop-k l = (1 ≤ l.k) × (length l.lines ≡ length l.initial.lines) × (spans_of l.lines ≡ later_to (strip_line l.text l.kind l.opening) l.k (spans_of l.initial.lines))

abbrev pub decreases-loop-k : goal.decreases-loop-k
decreases-loop-k l = l.n - l.k
