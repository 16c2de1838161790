use mathlib.Core.Path.{◌≡◌}
use mathlib.Core.List.{List}
use Prim.Native.Nat.{ℕ}
use lib.ListN.{length}
use Rattle.events.specs.View.{view, Fits}
use Rattle.walk.specs.Document.{close_sections}
use Rattle.ends.proofs.close_sections.Given as goal

abbrev pub invariant-loop-more : goal.invariant-loop-more
invariant-loop-more l = (length l.events ≡ length l.initial.events) × Fits l.a l.events l.stack × ((m v : List ℕ) → close_sections l.pos l.more (view l.a l.events l.stack m v) ≡ close_sections l.pos l.initial.more (view l.initial.a l.initial.events l.stack m v))

abbrev pub decreases-loop-more : goal.decreases-loop-more
decreases-loop-more l = l.more
