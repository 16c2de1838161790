-- Events in words: one of them, all of them, and those that are not Stale (RULES E1, E10). Assumes nothing.
use Rattle.std.specs.Prelude.{Bool, List, [], ◌∷◌, ◌++◌, ℕ, zero, suc, ◌/◌, eqb, length, get_or, drop}
use Rattle.classes.specs.Choice.{pick, both}
use Rattle.events.specs.Names.{stale_role, role_word, node_word, start_word, end_word, body_word, body_word_b, body_word_c, body_word_d}
use Rattle.events.specs.Events.{width, words_of}
use Rattle.events.specs.declared.Event.{Event}

-- ---- one event
-- the event at the front of words (E1)
abbrev pub event_at : List ℕ → Event
event_at ws = record {
  role = get_or ws role_word 0;
  node = get_or ws node_word 0;
  start = get_or ws start_word 0;
  end = get_or ws end_word 0;
  a = get_or ws body_word 0;
  b = get_or ws body_word_b 0;
  c = get_or ws body_word_c 0;
  d = get_or ws body_word_d 0;
}

-- the event at word i
abbrev pub event_in : List ℕ → ℕ → Event
event_in ws i = event_at (drop i ws)

-- Stale: all words zero (E10)
unfoldable pub is_stale : Event → Bool
is_stale x =
    both (eqb x.role stale_role) (both (eqb x.node 0) (both (eqb x.start 0) (both (eqb x.end 0)
    (both (eqb x.a 0) (both (eqb x.b 0) (both (eqb x.c 0) (eqb x.d 0)))))))

-- ---- all of them
-- n events from the front of words on (E1)
unfoldable pub events_of : ℕ → List ℕ → List Event
events_of zero ws = []
events_of (suc n) ws = event_at ws ∷ events_of n (drop width ws)

-- all whole events of the words (R2)
abbrev pub all_of : List ℕ → List Event
all_of ws = events_of (length ws / width) ws

-- the words of events (E1)
unfoldable pub pack_of : List Event → List ℕ
pack_of [] = []
pack_of (x ∷ xs) = words_of x ++ pack_of xs

-- Stale is not written, wherever it stands (E10, N4)
unfoldable pub live_of : List Event → List Event
live_of [] = []
live_of (x ∷ xs) = let rest = live_of xs in pick (is_stale x) rest (x ∷ rest)

-- the events of words without the Stale ones (E10)
abbrev pub live_in : List ℕ → List Event
live_in ws = live_of (all_of ws)
