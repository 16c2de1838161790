use Prim.Native.Nat.{◌-◌, ◌≤◌}
use lib.ListN.{length, drop}
use Rattle.lines.specs.Lines.{lines_from, lines_of}
use Rattle.lines.proofs.LinesLaws.{Put}
use Rattle.lines.proofs.fill_lines.Given as goal

abbrev pub invariant-loop-k : goal.invariant-loop-k
invariant-loop-k l = (l.s ≤ length l.text) × Put l.initial.words l.words l.n (lines_from l.s l.s (drop l.s l.text)) (lines_of l.text)

abbrev pub decreases-loop-k : goal.decreases-loop-k
decreases-loop-k l = length l.text - l.s
