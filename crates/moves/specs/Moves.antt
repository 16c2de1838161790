-- Events found and moved: the steps of a description term, and the Exits of sections (RULES U3, U4, S3, S4). Assumes nothing.
use Rattle.std.specs.Prelude.{ℕ, zero, suc, ◌+◌, ◌-◌, ◌*◌, ◌/◌, Bool, true, false, not, List, [], ◌++◌, eqb, leb, length, take, drop, get_or}
use Rattle.classes.specs.Choice.{pick, both}
use Rattle.events.specs.Names.{node_word}
use Rattle.events.specs.State.{State, with_evs, refuse_of}
use Rattle.events.specs.Events.{width, words_of, exit_event}

-- the event at word i is one of that role and node
abbrev pub is_at : List ℕ → ℕ → ℕ → ℕ → Bool
is_at l i role node = both (eqb (get_or l i 0) role) (eqb (get_or l (i + node_word) 0) node)

-- the first of the n events from word i on that passes a test, or where they end
unfoldable pub first_from : (List ℕ → ℕ → Bool) → ℕ → ℕ → List ℕ → ℕ
first_from f i zero l = i
first_from f i (suc n) l = pick (f l i) i (first_from f (i + width) n l)

abbrev pub found : ℕ → ℕ → List ℕ → ℕ → Bool
found role node l i = is_at l i role node

abbrev pub other : ℕ → ℕ → List ℕ → ℕ → Bool
other role node l i = not (is_at l i role node)

-- the first event of that role and node from word i on, or where the events end (U3)
unfoldable pub find_of : ℕ → ℕ → ℕ → State → ℕ
find_of role node i s = first_from (found role node) i ((length s.evs - i) / width) s.evs

-- the first event that is not of that role and node (U4)
unfoldable pub other_of : ℕ → ℕ → ℕ → State → ℕ
other_of role node i s = first_from (other role node) i ((length s.evs - i) / width) s.evs

-- n words, from one event after `to`, brought one event to the front (U4)
unfoldable pub shift_of : ℕ → ℕ → State → State
shift_of to n s = with_evs (take to s.evs ++ take n (drop (to + width) s.evs) ++ drop (to + n) s.evs) s

-- the Exits of the last n of the open events os, the innermost first (S3)
unfoldable pub exits_of : ℕ → List ℕ → List ℕ → ℕ → List ℕ
exits_of pos evs os zero = []
exits_of pos evs os (suc n) = exits_of pos evs os n ++ words_of (exit_event evs (get_or os (length os - suc n) 0) pos pos)

-- each of the n open events from i on stands whole before word a
unfoldable pub all_before : List ℕ → ℕ → ℕ → ℕ → Bool
all_before os a i zero = true
all_before os a i (suc n) = pick (leb (get_or os i 0 + width) a) (all_before os a (i + 1) n) false

-- the sections with the Enters os end at pos, before word a (S3, S4, R11)
unfoldable pub sections_of : ℕ → ℕ → List ℕ → State → State
sections_of pos a os s =
    pick (all_before os a 0 (length os))
    (pick (leb (length s.evs + width * length os) s.cap)
    (with_evs (take a s.evs ++ exits_of pos s.evs os (length os) ++ drop a s.evs) s)
    (refuse_of 6 s))
    (refuse_of 7 s)
