use Prim.Native.Nat.{ℕ, ◌-◌, ◌/◌, ◌≤◌}
use mathlib.Core.Path.{◌≡◌}
use mathlib.Core.Bool.{true}
use mathlib.Core.List.{List}
use lib.Dec.{eqb}
use lib.ListN.{length, drop}
use Rattle.lines.specs.Lines.{spans_of}
use Rattle.events.specs.View.{view, Same}
use Rattle.walk.specs.Leaf.{inlines_of}
use Rattle.leaves.proofs.inlines.Given as goal

abbrev pub invariant-loop-k : goal.invariant-loop-k
invariant-loop-k l = (l.a.words ≤ length l.events) × (length l.events ≡ length l.initial.events) × Same l.initial.a l.a ×
    ((x y v : List ℕ) → inlines_of l.text l.kind (eqb l.k 0) (drop l.k (spans_of l.lines)) (view l.a l.events x y v) ≡ inlines_of l.text l.kind true (spans_of l.lines) (view l.initial.a l.initial.events x y v))

abbrev pub decreases-loop-k : goal.decreases-loop-k
decreases-loop-k l = length l.lines / 2 - l.k
