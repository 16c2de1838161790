-- Where the events start that begin the top-level blocks (RULES Z1), and words that keep these places. Assumes nothing.
use Rattle.std.specs.Prelude.{List, [], ◌∷◌, map, ℕ, ◌+◌, ◌-◌, ◌*◌, ◌/◌, length, drop, set}
use Rattle.classes.specs.Choice.{pick}
use Rattle.events.specs.Events.{width}
use Rattle.events.specs.Pack.{events_of}
use Rattle.events.specs.declared.Event.{Event}
use Rattle.tops.specs.Tops.{open_of, begins_of, line_start, first_or}
use Rattle.tops.specs.declared.Walk.{Walk}

-- the whole events of the words from index i on
abbrev pub events_behind : List ℕ → ℕ → List Event
events_behind words i = events_of (length words / width - i) (drop (i * width) words)

-- where the events start that begin blocks, n nodes being open before them
unfoldable pub places_from : ℕ → List Event → List ℕ
places_from n [] = []
places_from n (x ∷ xs) =
    let rest = places_from (open_of n x) xs in
    pick (begins_of n x) (x.start ∷ rest) rest

-- of a whole text's events
abbrev pub places_of : List Event → List ℕ
places_of xs = places_from 0 xs

-- these places in words from index k on; what has no room is left out
unfoldable pub put_in : ℕ → List ℕ → List ℕ → List ℕ
put_in k [] words = words
put_in k (p ∷ ps) words = put_in (k + 1) ps (set words k p)

-- one event more
abbrev pub walk_of : Walk → Event → Walk
walk_of w x = record { nodes = open_of w.nodes x; blocks = pick (begins_of w.nodes x) (w.blocks + 1) w.blocks }

abbrev pub kept_of : Walk → Event → List ℕ → List ℕ
kept_of w x words = pick (begins_of w.nodes x) (set words w.blocks x.start) words

-- where the first lines of the blocks start that begin at these places
abbrev pub starts_at : List ℕ → List ℕ → List ℕ
starts_at text places = map (line_start text) places

-- the place in a text behind k of these blocks
abbrev pub start_behind : List ℕ → List ℕ → ℕ → ℕ
start_behind text places k = first_or (length text) (drop k (starts_at text places))
