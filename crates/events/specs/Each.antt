-- What the events of words give one after another. Assumes nothing.
use Rattle.std.specs.Prelude.{◌≡◌, ℕ, ◌+◌, ◌*◌, ◌/◌, ◌≤◌, ◌<◌, length, Option, Some, None}
use Rattle.events.specs.Events.{width}
use Rattle.events.specs.Pack.{event_in}
use Rattle.events.specs.declared.Event.{Event}
use Rattle.events.specs.declared.each.Each.{Each}

-- the next event with its index, or none behind the last whole one
abbrev pub each_gives : Each → Option (ℕ × Event) → Each → Type 0
each_gives s None t = length s.words.now / width ≤ s.next
each_gives s (Some p) t =
    (p.0 ≡ s.next) × (p.1 ≡ event_in s.words.now (s.next * width)) × (s.next < length s.words.now / width)
    × (t.words ≡ s.words) × (t.next ≡ s.next + 1)
