-- The listing of events and of a page (RULES V4 to V8, V10, V11, V14; DECISIONS F24, 2.1a). Assumes nothing.
use Rattle.std.specs.Prelude.{Bool, not, List, [], ◌∷◌, ◌++◌, ℕ, ◌+◌, eqb, ltb, length, drop}
use Rattle.classes.specs.Choice.{pick, both}
use Rattle.events.specs.Names.{atom_role, blankline_atom}
use Rattle.events.specs.Pack.{all_of}
use Rattle.events.specs.declared.Event.{Event}
use Rattle.records.specs.Records.{moved, write_of}
use Rattle.records.specs.Moved.{Moved}
use Rattle.entries.specs.Entries.{line_of, looks_line, refused_line}

-- ---- the mode
-- the numbers of the two modes (those of the settings, request 13); any other number means short (V11)
abbrev pub short : ℕ
short = 0

abbrev pub full : ℕ
full = 1

-- a blank line's event (E2, E4)
unfoldable pub is_blank : Event → Bool
is_blank x = both (eqb x.role atom_role) (eqb x.node blankline_atom)

-- what the listing leaves out: blank lines, unless it is the full one (V10)
unfoldable pub left_out : ℕ → Event → Bool
left_out mode x = both (not (eqb mode full)) (is_blank x)

-- The lines in a mode. The full listing has the line of every event (`lines-full` in the proofs: it is `lines_of`), and the short one is the full
-- listing of the events without the blank lines (`lines-short`: it is `lines_of` of `without_blank`): no other line differs (V10).
unfoldable pub line_in : ℕ → Event → List ℕ
line_in mode x = pick (left_out mode x) [] (line_of x)

unfoldable pub lines_in : ℕ → List Event → List ℕ
lines_in mode [] = []
lines_in mode (x ∷ xs) = line_in mode x ++ lines_in mode xs

unfoldable pub without_blank : List Event → List Event
without_blank [] = []
without_blank (x ∷ xs) = let rest = without_blank xs in pick (is_blank x) rest (x ∷ rest)

-- ---- room
-- more bytes than any stream has: 9 to 12 as the writer gives them, and no 8 (V6)
abbrev pub boundless : ℕ
boundless = 18446744073709551615

-- the first event whose line has no room, or the events and bytes; an event that is left out needs none (V7, V14)
unfoldable pub fit_of : ℕ → ℕ → List Event → ℕ → ℕ → Moved
fit_of mode room [] i size = moved 0 i size
fit_of mode room (x ∷ xs) i size =
    let more = size + length (line_in mode x) in
    let next = fit_of mode room xs (i + 1) more in
    pick (ltb room more) (moved 8 i 0) next

-- events that the writer would take, as lines (V6)
unfoldable pub list_of : ℕ → List ℕ → ℕ → Moved
list_of mode words room =
    let a = write_of words boundless in
    let lines = fit_of mode room (all_of words) 0 0 in
    pick (eqb a.number 0) lines a

-- a refusal leaves the bytes as found; else the lines stand first, and what was lent behind them is as found (V8)
unfoldable pub listed_of : ℕ → List ℕ → List ℕ → List ℕ
listed_of mode words out =
    let lines = lines_in mode (all_of words) in
    pick (eqb (list_of mode words (length out)).number 0) (lines ++ drop (length lines) out) out

-- ---- a page
-- what parse answered, with its events: all of the listing (V4)
unfoldable pub page_text : ℕ → ℕ → ℕ → ℕ → List ℕ → List ℕ
page_text mode number position looks words =
    let lines = lines_in mode (all_of words) ++ looks_line looks in
    let refused = refused_line number position in
    pick (eqb number 0) lines refused

-- after the events' answer: room for the line of looks too (V7)
unfoldable pub last_of : ℕ → ℕ → Moved → Moved
last_of room looks a =
    let more = a.count + length (looks_line looks) in
    pick (not (eqb a.number 0)) a
    (pick (ltb room more) (moved 8 a.position 0) (moved 0 a.position more))

-- of a whole page (V7, V8)
unfoldable pub page_of : ℕ → ℕ → ℕ → ℕ → List ℕ → ℕ → Moved
page_of mode number position looks words room =
    let all = last_of room looks (list_of mode words room) in
    let size = length (refused_line number position) in
    let refused = pick (ltb room size) (moved 8 0 0) (moved 0 0 size) in
    pick (eqb number 0) all refused

-- and its bytes (V8)
unfoldable pub paged_of : ℕ → ℕ → ℕ → ℕ → List ℕ → List ℕ → List ℕ
paged_of mode number position looks words out =
    let page = page_text mode number position looks words in
    pick (eqb (page_of mode number position looks words (length out)).number 0) (page ++ drop (length page) out) out
