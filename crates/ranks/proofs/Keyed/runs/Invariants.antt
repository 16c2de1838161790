use Rattle.std.proofs.Common.{◌≡◌, ℕ, ◌+◌, ◌<◌, slice_index}
use Rattle.ranks.specs.View.{less_in}
use Rattle.ranks.proofs.Keyed.runs.Given as goal

abbrev pub invariant-loop-i : goal.invariant-loop-i
invariant-loop-i l = (k : ℕ) → k + 1 < l.i → less_in l.self (slice_index l.places (k + 1)) (slice_index l.places k) ≡ l.falls
