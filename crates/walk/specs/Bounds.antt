-- Offsets of a block that fit the words of an event. Assumes nothing.
use Rattle.std.specs.Prelude.{ℕ, ◌+◌, ◌^◌, ◌≤◌, ◌<◌}
use Rattle.measure.specs.Continue.{level_of}
use Rattle.measure.specs.declared.Measured.{Measured}
use Rattle.walk.specs.Fields.{indent_of, from_of, to_of}
use Rattle.walk.specs.declared.Met.{Met}

-- of a block measured on lines of which the first starts at b
pub record Near (b : ℕ) (m : Measured) : Type 0 where
  pub start : b + m.opening.start < 2 ^ 32
  pub end : b + m.opening.end < 2 ^ 32
  pub indent : b + indent_of m.kind < 2 ^ 32
  pub from : b + from_of m.kind < 2 ^ 32
  pub to : b + to_of m.kind < 2 ^ 32
  pub level : level_of m.kind < 2 ^ 32

-- of a block that was met, whose first line starts at b
pub record Bounded (m : Met) (b : ℕ) : Type 0 where
  pub opening : b ≤ m.end
  pub indent : b + indent_of m.kind < 2 ^ 32
  pub from : b + from_of m.kind < 2 ^ 32
  pub to : b + to_of m.kind < 2 ^ 32
  pub level : level_of m.kind < 2 ^ 32
