-- Table rows: cells and their ends, separator cells, alignments (RULES X2, X4, X5, X7, X11). Assumes nothing.
use Rattle.std.specs.Prelude.{Bool, true, not, Result, Ok, Err, List, [], ◌∷◌, ℕ, zero, suc, ◌+◌, ◌-◌, eqb, length, drop, get_or}
use Rattle.classes.specs.Choice.{pick, both, either}
use Rattle.classes.specs.Classes.{is_punct}
use Rattle.rows.specs.declared.RowEnd.{RowEnd}
use Rattle.rows.specs.declared.Alignment.{Alignment}
use Rattle.rows.specs.declared.Alignment.TheVariants.{None, Left, Right, Centre}

-- how many backticks stand at the front (X4)
unfoldable pub ticks_of : List ℕ → ℕ
ticks_of [] = 0
ticks_of (b ∷ bs) = let r = suc (ticks_of bs) in pick (eqb b 96) r 0

-- the run that is open after a run of n: none was, and n opens one; or it has n backticks, and is closed; or it stays open (X4)
unfoldable pub after_run : ℕ → ℕ → ℕ
after_run o n = pick (eqb o 0) n (pick (eqb o n) 0 o)

-- a backslash hides one following ASCII punctuation byte (X5)
unfoldable pub hides_at : List ℕ → Bool
hides_at bs = both (eqb (get_or bs 0 0) 92) (is_punct (get_or bs 1 0))

-- the row ends, with a backtick run left open or not (X4)
abbrev pub row_end : Bool → Result ℕ RowEnd
row_end u = Err (record { unclosed = u })

-- what is ahead at place i, with k bytes to pass over and a run of o backticks open (0: none) (X2, X4, X5)
unfoldable pub cell_from : ℕ → ℕ → ℕ → List ℕ → Result ℕ RowEnd
cell_from k o i [] = row_end (not (eqb o 0))
cell_from (suc k) o i (b ∷ bs) = cell_from k o (i + 1) bs
cell_from zero o i (b ∷ bs) =
    let run = cell_from (ticks_of bs) (after_run o (suc (ticks_of bs))) (i + 1) bs in
    let on = cell_from zero o (i + 1) bs in
    let past = cell_from 1 o (i + 1) bs in
    pick (eqb b 96) run
    (pick (not (eqb o 0)) on
    (pick (eqb b 124) (Ok i)
    (pick (hides_at (b ∷ bs)) past
    on)))

-- from a place outside backtick runs: the pipe that ends the cell, or the row's end (X2, X4, X5)
unfoldable pub cell_of : List ℕ → ℕ → Result ℕ RowEnd
cell_of row at = cell_from zero 0 at (drop at row)

-- a backtick, a pipe or a backslash; and no such byte
unfoldable pub is_sign : ℕ → Bool
is_sign b = either (eqb b 96) (either (eqb b 124) (eqb b 92))

unfoldable pub plain_of : List ℕ → Bool
plain_of [] = true
plain_of (b ∷ bs) = both (not (is_sign b)) (plain_of bs)

unfoldable pub all_dashes : List ℕ → Bool
all_dashes [] = true
all_dashes (b ∷ bs) = both (eqb b 45) (all_dashes bs)

-- dashes, and at most a colon after them (X7)
unfoldable pub dashes_of : List ℕ → Bool
dashes_of [] = true
dashes_of (b ∷ bs) = let r = dashes_of bs in pick (eqb b 45) r (both (eqb b 58) (eqb (length bs) 0))

-- behind the first n bytes nothing stands, or a colon alone
unfoldable pub dash_end : List ℕ → ℕ → Bool
dash_end bs n = either (eqb (length (drop n bs)) 0) (both (eqb (get_or (drop n bs) 0 0) 58) (eqb (length (drop n bs)) 1))

-- one dash or more, and at most a colon after them (X7)
unfoldable pub dashed : List ℕ → Bool
dashed bs = both (eqb (get_or bs 0 0) 45) (dashes_of (drop 1 bs))

-- an optional colon before that (X7)
unfoldable pub separator_of : List ℕ → Bool
separator_of cell = pick (eqb (get_or cell 0 0) 58) (dashed (drop 1 cell)) (dashed cell)

-- the number that an event holds (E8)
abbrev pub alignment_num : Alignment → ℕ
alignment_num None = 0
alignment_num Left = 1
alignment_num Right = 2
alignment_num Centre = 3

-- 1 for a colon in front, 2 for one at the end, so 3 for both (X11, E8)
unfoldable pub alignment_of : List ℕ → ℕ
alignment_of cell = pick (eqb (get_or cell 0 0) 58) 1 0 + pick (eqb (get_or cell (length cell - 1) 0) 58) 2 0
