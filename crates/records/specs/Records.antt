-- Events to a stream of records and back (RULES N4, N5, N10 to N15; DECISIONS B17 to B24). Assumes nothing.
use Rattle.std.specs.Prelude.{Bool, true, not, List, [], ◌∷◌, ◌++◌, ℕ, zero, suc, ◌+◌, ◌-◌, ◌/◌, ◌%◌, eqb, leb, ltb, length, drop, replicate}
use Rattle.classes.specs.Choice.{pick, both}
use Rattle.events.specs.Events.{width}
use Rattle.events.specs.Pack.{is_stale, all_of, pack_of, live_of}
use Rattle.events.specs.declared.Event.{Event}
use Rattle.fields.specs.Fields.{offset, is_listed, size_of}
use Rattle.record.specs.Record.{role_of, node_of, kind_size, record_of, event_of}
use Rattle.nests.specs.Nesting.{Nesting, outside, after_of, fault_of}
use Rattle.records.specs.Moved.{Moved}

-- an answer (N13)
abbrev pub moved : ℕ → ℕ → ℕ → Moved
moved n p c = record { number = n; position = p; count = c }

-- ---- events as bytes
-- the records of events (N4)
unfoldable pub stream_of : List Event → List ℕ
stream_of [] = []
stream_of (x ∷ xs) = record_of offset x ++ stream_of xs

-- the events of the records in bytes, of which k belong to a record before (N4)
unfoldable pub stored_of : ℕ → List ℕ → List Event
stored_of k [] = []
stored_of (suc k) (b ∷ bs) = stored_of k bs
stored_of zero (b ∷ bs) = event_of offset (b ∷ bs) ∷ stored_of (kind_size offset b - 1) bs

-- ---- writing: event by event 10, 11, 12, room; 9 where the events end (N5, N10)
-- the events from index i on, with so many bytes before them; spare: the words after the last whole event
unfoldable pub check_of : ℕ → ℕ → List Event → ℕ → Nesting → ℕ → Moved
check_of room spare [] i n size = pick (both n.done (eqb spare 0)) (moved 0 i size) (moved 9 i 0)
check_of room spare (x ∷ xs) i n size =
    let fault = fault_of n x in
    let more = size + size_of offset x.role x.node in
    let skip = check_of room spare xs (i + 1) n size in
    let next = check_of room spare xs (i + 1) (after_of n x) more in
    pick (is_stale x) skip
    (pick (not (eqb fault 0)) (moved fault i 0)
    (pick (ltb room more) (moved 8 i 0)
    next))

-- all words that are lent (N10, N13)
unfoldable pub write_of : List ℕ → ℕ → Moved
write_of words room = check_of room (length words % width) (all_of words) 0 outside 0

-- a refusal leaves the bytes as found; else the stream stands first, and what was lent behind it is as found (N14)
unfoldable pub written_of : List ℕ → List ℕ → List ℕ
written_of words bytes =
    let stream = stream_of (live_of (all_of words)) in
    pick (eqb (write_of words (length bytes)).number 0) (stream ++ drop (length stream) bytes) bytes

-- ---- reading: record by record 10 (a kind that is not listed has no length), 9, 11, 12, room (N5, N11, N12)
-- the bytes from place p on, of which k belong to a record before, with e events before them
unfoldable pub take_of : ℕ → ℕ → List ℕ → ℕ → Nesting → ℕ → Moved
take_of room k [] p n e = pick n.done (moved 0 p e) (moved 9 p 0)
take_of room (suc k) (b ∷ bs) p n e = take_of room k bs (p + 1) n e
take_of room zero (b ∷ bs) p n e =
    let x = event_of offset (b ∷ bs) in
    let fault = fault_of n x in
    let next = take_of room (kind_size offset b - 1) bs (p + 1) (after_of n x) (e + 1) in
    pick (not (is_listed (role_of b) (node_of b))) (moved 10 p 0)
    (pick (ltb (length (b ∷ bs)) (kind_size offset b)) (moved 9 p 0)
    (pick (not (eqb fault 0)) (moved fault p 0)
    (pick (leb room e) (moved 6 p 0)
    next)))

-- all bytes that are lent; spare words count for nothing (N12, N13)
unfoldable pub read_of : List ℕ → ℕ → Moved
read_of bytes lent = take_of (lent / width) zero bytes 0 outside 0

-- a refusal leaves the words as found; else the events stand first, and zeros behind them (N14)
unfoldable pub unpacked_of : List ℕ → List ℕ → List ℕ
unpacked_of bytes words =
    let pack = pack_of (stored_of zero bytes) in
    pick (eqb (read_of bytes (length words)).number 0) (pack ++ replicate (length words - length pack) 0) words

-- ---- what the second pass of each knows from the first
-- every event has a record (N6)
unfoldable pub all_listed : List Event → Bool
all_listed [] = true
all_listed (x ∷ xs) = both (is_listed x.role x.node) (all_listed xs)

-- every record is whole (N11)
unfoldable pub all_whole : ℕ → List ℕ → Bool
all_whole k [] = true
all_whole (suc k) (b ∷ bs) = all_whole k bs
all_whole zero (b ∷ bs) = both (leb (kind_size offset b) (length (b ∷ bs))) (all_whole (kind_size offset b - 1) bs)
