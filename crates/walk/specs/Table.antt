-- Tables: caption, rows, cells, heads and alignments (RULES X; DIFFERENCES A14, A23, A24). Assumes nothing.
use Rattle.std.specs.Prelude.{Bool, true, false, not, Result, Ok, Err, List, [], ◌∷◌, ℕ, zero, suc, ◌+◌, ◌-◌, ◌*◌, min, eqb, length, take, drop, get_or}
use Rattle.classes.specs.Choice.{pick, both}
use Rattle.lines.specs.Lines.{Span, span}
use Rattle.trim.specs.Trim.{trim_both, part_of, trim_span}
use Rattle.rows.specs.Rows.{cell_of, separator_of, alignment_of}
use Rattle.rows.specs.declared.RowEnd.{RowEnd}
use Rattle.events.specs.Names.{enter_role, exit_role, table_node, table_row_node, table_cell_node, caption_node, body_word}
use Rattle.events.specs.State.{State, go}
use Rattle.events.specs.Events.{width, push_of, patch_of, cut_of, enter_of, exit_of}
use Rattle.walk.specs.Leaf.{node, mark, inline_of, line_at, trim_front, trim_back}
use Rattle.walk.specs.declared.Met.{Met}

-- ---- the caption
-- the first line whose first byte that is no whitespace is `^`, or the number of lines (X13)
unfoldable pub caption_line : List ℕ → List Span → ℕ
caption_line text [] = 0
caption_line text (l ∷ ls) =
    let r = suc (caption_line text ls) in
    pick (eqb (get_or (part_of text (trim_front text l).start l.end) 0 0) 94) 0 r

-- the first line without `^ ` (X15)
abbrev pub past_caret : List ℕ → Span → Span
past_caret text l = let t = trim_front text l in span (t.start + min 2 (length (line_at text t))) l.end

-- each line is an Inline, the last trimmed at its end (X15)
abbrev pub caption_text : List ℕ → Bool → Bool → Span → Span
caption_text text first last l =
    let a = pick first (past_caret text l) l in
    pick last (trim_back text a) a

unfoldable pub caption_lines : List ℕ → Bool → List Span → State → State
caption_lines text first [] s = s
caption_lines text first (l ∷ ls) s =
    let b = caption_text text first (eqb (length ls) 0) l in
    go (inline_of b.start b.end s) (caption_lines text false ls)

-- Enter, the lines, Exit, with the table's spans (X14)
unfoldable pub caption_of : List ℕ → Met → List Span → State → State
caption_of text m [] s = s
caption_of text m (l ∷ ls) s =
    go (enter_of (node caption_node m.start m.end 0 0 0 0) s) (λ a.
    go (caption_lines text true (l ∷ ls) a) (exit_of m.from m.to))

-- ---- alignments, found again in the separator's cells, from s to e
-- where cell i starts, from s; the end where there is none
abbrev pub past : ℕ → Result ℕ RowEnd → ℕ
past n (Ok p) = p + 1
past n (Err e) = n

-- one cell after the other (X2)
unfoldable pub cell_at : List ℕ → ℕ → ℕ
cell_at sep zero = 0
cell_at sep (suc i) = past (length sep) (cell_of sep (cell_at sep i))

abbrev pub align_by : List ℕ → ℕ → Result ℕ RowEnd → ℕ
align_by sep i (Ok p) = alignment_of (trim_both (part_of sep i p))
align_by sep i (Err e) = 0

-- the alignment of column i: none where the separator has no such cell (X11)
unfoldable pub align_at : List ℕ → ℕ → ℕ
align_at sep i = align_by sep (cell_at sep i) (cell_of sep (cell_at sep i))

-- ---- rows
-- what a row's cells leave: the state, how many there are, whether all are separators, and whether a run is open
pub record Cells : Type 0 where
  pub st : State
  pub count : ℕ
  pub seps : Bool
  pub unclosed : Bool

abbrev pub cells : State → ℕ → Bool → Bool → Cells
cells s n b u = record { st = s; count = n; seps = b; unclosed = u }

-- a cell from i to the pipe p: Enter, its trimmed text, Exit (X2, X3)
unfoldable pub cell_events : List ℕ → ℕ → ℕ → ℕ → State → State
cell_events text v i p s =
    let t = trim_span text i p in
    go (push_of (mark enter_role table_cell_node i i v) s) (λ a.
    go (inline_of t.start t.end a) (push_of (mark exit_role table_cell_node p (p + 1) v)))

-- one cell more, or the row's end; base is where the row's cells start in the text, i where this one does from there (X2, X4)
abbrev pub cell_by : List ℕ → List ℕ → List ℕ → ℕ → ℕ → (ℕ → Cells → Cells) → Cells → Result ℕ RowEnd → Cells
cell_by text sep row base i rest c (Err e) = cells c.st c.count c.seps e.unclosed
cell_by text sep row base i rest c (Ok p) =
    let s = cell_events text (align_at sep c.count) (base + i) (base + p) c.st in
    let n = cells s (c.count + 1) (both c.seps (separator_of (trim_both (part_of row i p)))) false in
    pick (eqb s.number 0) (rest (p + 1) n) n

-- the cells from place i on, k at most (X2)
unfoldable pub cells_of : List ℕ → List ℕ → List ℕ → ℕ → ℕ → ℕ → Cells → Cells
cells_of text sep row base zero i c = c
cells_of text sep row base (suc k) i c = cell_by text sep row base i (cells_of text sep row base k) c (cell_of row i)

-- a table's rows so far: the separator's cells, the last row's word plus one (0: none), and how many cells it has
pub record Rows : Type 0 where
  pub st : State
  pub sep : List ℕ
  pub last : ℕ
  pub count : ℕ

abbrev pub rows : State → List ℕ → ℕ → ℕ → Rows
rows s t l n = record { st = s; sep = t; last = l; count = n }

-- the body's word of a cell's Enter, and of its Exit, which is two events on; and that of a row's Enter and Exit (E3)
abbrev pub alignment_word : ℕ
alignment_word = body_word

abbrev pub exit_alignment : ℕ
exit_alignment = 20

abbrev pub head_word : ℕ
head_word = body_word

-- the word at which cell i of the row at word r starts
abbrev pub cell_word : ℕ → ℕ → ℕ
cell_word r i = r + width + 3 * width * i

-- n cells from cell i on of the row at word r get the separator's alignments, on Enter and Exit (X12)
unfoldable pub align_cells : List ℕ → ℕ → ℕ → ℕ → State → State
align_cells sep r i zero s = s
align_cells sep r i (suc n) s = align_cells sep r (i + 1) n (patch_of (cell_word r i + exit_alignment) (align_at sep i) (patch_of (cell_word r i + alignment_word) (align_at sep i) s))

-- the row of n cells at word r becomes a head, on Enter and Exit (X10, X12)
unfoldable pub head_of : List ℕ → ℕ → ℕ → State → State
head_of sep r n s = patch_of (cell_word r n + head_word) 1 (patch_of (r + head_word) 1 (align_cells sep r 0 n s))

-- a separator row is dropped: it aligns what follows, and makes the row before it a head (X9, X10, X12; A14)
unfoldable pub separate_of : List ℕ → ℕ → Rows → Rows
separate_of sep here r =
    let s = cut_of here r.st in
    pick (eqb r.last 0) (rows s sep 0 0) (rows (head_of sep (r.last - 1) r.count s) sep r.last r.count)

-- after the cells: dropped where all are separators and no run is open, else the row's Exit at its end (X1, X8; A24)
unfoldable pub end_row : List ℕ → ℕ → ℕ → Cells → Rows → Rows
end_row row here e c r =
    pick (eqb c.st.number 0)
    (pick (both c.seps (not c.unclosed)) (separate_of row here (rows c.st r.sep r.last r.count))
    (rows (push_of (mark exit_role table_row_node e e 0) c.st) r.sep (here + 1) c.count))
    (rows c.st r.sep r.last r.count)

-- one row, its line trimmed: the first pipe is the Enter's, the cells come after it (X1)
unfoldable pub row_of : List ℕ → Span → Rows → Rows
row_of text t r =
    let a = push_of (mark enter_role table_row_node t.start (t.start + 1) 0) r.st in
    let row = part_of text (t.start + 1) t.end in
    pick (eqb a.number 0)
    (end_row row (length r.st.evs) t.end (cells_of text r.sep row (t.start + 1) (length row) 0 (cells a 0 true false)) r)
    (rows a r.sep r.last r.count)

-- the rows, up to the first blank line (H14, X1)
unfoldable pub rows_of : List ℕ → List Span → Rows → Rows
rows_of text [] r = r
rows_of text (l ∷ ls) r =
    let t = trim_span text l.start l.end in
    let x = row_of text t r in
    let rest = rows_of text ls x in
    pick (eqb t.start t.end) r (pick (eqb x.st.number 0) rest x)

-- Enter, the caption's events first, the rows before it, Exit (E12, X13, X14)
unfoldable pub table_of : List ℕ → Met → List Span → State → State
table_of text m ls s =
    let c = caption_line text ls in
    go (enter_of (node table_node m.start m.end 0 0 0 0) s) (λ a.
    go (caption_of text m (drop c ls) a) (λ b.
    go (rows_of text (take c ls) (rows b [] 0 0)).st (exit_of m.from m.to)))
