use Rattle.std.proofs.Common.{◌≡◌, ◌≤◌, drop}
use Rattle.kinds.specs.Bytes.{break_of}
use Rattle.kinds.proofs.is_break.Given as goal

abbrev pub invariant-loop-b : goal.invariant-loop-b
invariant-loop-b l = (l.marks ≤ l.b-index) × (break_of 0 l.t ≡ break_of l.marks (drop l.b-index l.t))
