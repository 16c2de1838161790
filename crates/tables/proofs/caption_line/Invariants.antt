use mathlib.Core.Path.{◌≡◌}
use Prim.Native.Nat.{◌+◌, ◌-◌, ◌/◌, ◌≤◌}
use lib.ListN.{length, drop}
use Rattle.lines.specs.Lines.{spans_of}
use Rattle.trim.specs.Trim.{lead}
use Rattle.walk.specs.Table.{caption_line}
use Rattle.tables.proofs.caption_line.Given as goal

abbrev pub invariant-bytes : goal.invariant-bytes
invariant-bytes l = (l.k ≡ l.initial.k) × (l.i ≤ length l.line) × (lead l.line ≡ l.i + lead (drop l.i l.line))

abbrev pub decreases-bytes : goal.decreases-bytes
decreases-bytes l = length l.line - l.i

abbrev pub invariant-lines : goal.invariant-lines
invariant-lines l = (l.k ≤ length l.lines / 2) × (caption_line l.text (spans_of l.lines) ≡ l.k + caption_line l.text (drop l.k (spans_of l.lines)))

abbrev pub decreases-lines : goal.decreases-lines
decreases-lines l = length l.lines / 2 - l.k
