use Rattle.std.proofs.Common.{◌≡◌, ◌+◌, ◌≤◌, length, drop}
use Rattle.lines.specs.Lines.{newlines_of}
use Rattle.lines.proofs.newlines.Given as goal

abbrev pub invariant-loop-b : goal.invariant-loop-b
invariant-loop-b l = (l.b-index ≤ length l.s) × (l.n ≤ l.b-index) × (l.n + newlines_of (drop l.b-index l.s) ≡ newlines_of l.s)
