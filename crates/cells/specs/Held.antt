-- Where a column's alignment (RULES X11, X12) stands: in the widest row's events, or at a place in the separator's text. Assumes nothing.
use Rattle.std.specs.Prelude.{◌≡◌, Bool, true, false, Result, Ok, Err, List, ◌++◌, ℕ, ◌+◌, ◌-◌, ◌≤◌, ◌<◌, length, get_or}
use Rattle.trim.specs.Trim.{part_of}
use Rattle.rows.specs.Rows.{cell_of}
use Rattle.rows.specs.declared.RowEnd.{RowEnd}
use Rattle.events.specs.Names.{enter_role, exit_role, inline_role, table_cell_node}
use Rattle.events.specs.Events.{words_of}
use Rattle.events.specs.View.{view}
use Rattle.walk.specs.Leaf.{mark}
use Rattle.walk.specs.Table.{alignment_word, exit_alignment, Cells, cells, rows, past, cell_at, align_by, align_at, cell_word}
use Rattle.walk.specs.Table as Table
use Rattle.cells.specs.declared.Align.{Align}
use Rattle.cells.specs.declared.Rows.{Rows}
use Rattle.cells.specs.declared.Laid.{Laid}

-- the separator's cells
abbrev pub sep_of : List ℕ → Align → List ℕ
sep_of text al = part_of text al.s al.e

abbrev pub is_end : Result ℕ RowEnd → Bool
is_end (Ok p) = false
is_end (Err u) = true

-- the separator has at most n cells
abbrev pub Ends : List ℕ → ℕ → Type 0
Ends sep n = is_end (cell_of sep (cell_at sep n)) ≡ true

-- the words of a cell of alignment v from i to the pipe p, its text from a to b (X2, X3)
abbrev pub cell_words : ℕ → ℕ → ℕ → ℕ → ℕ → List ℕ
cell_words v i a b p = words_of (mark enter_role table_cell_node i i v) ++ words_of (mark inline_role 0 a b 0) ++ words_of (mark exit_role table_cell_node p (p + 1) v)

-- the row at word r has n cells, each with the separator's alignment on Enter and Exit (X12)
abbrev pub Aligned : List ℕ → ℕ → ℕ → List ℕ → Type 0
Aligned sep r n evs = (j : ℕ) → j < n → (cell_word r j + 24 ≤ length evs) × (get_or evs (cell_word r j + alignment_word) 0 ≡ align_at sep j) × (get_or evs (cell_word r j + exit_alignment) 0 ≡ align_at sep j)

-- what is read at cur is what is read where column col starts
pub record Stands (sep : List ℕ) (cur col : ℕ) : Type 0 where
  pub align : align_by sep cur (cell_of sep cur) ≡ align_at sep col
  pub next : past (length sep) (cell_of sep cur) ≡ cell_at sep (col + 1)

-- at column i of a row: the cursor's column is the larger of i and the widest row's cells
pub record Place (text : List ℕ) (i : ℕ) (al : Align) : Type 0 where
  pub stands : Stands (sep_of text al) al.cur al.col
  pub low : i ≤ al.wide → al.col ≡ al.wide
  pub high : al.wide ≤ i → al.col ≡ i

pub record Held (text : List ℕ) (i : ℕ) (al : Align) (evs : List ℕ) : Type 0 where
  pub place : Place text i al
  pub cells : Aligned (sep_of text al) al.row al.wide evs

-- the same separator
pub record Alike (a b : Align) : Type 0 where
  pub s : b.s ≡ a.s
  pub e : b.e ≡ a.e
  pub cells : b.cells ≡ a.cells

-- between rows: the last row has its separator's alignments, too
pub record Ready (text : List ℕ) (r : Rows) (evs : List ℕ) : Type 0 where
  pub held : Held text 0 r.align evs
  pub ends : Ends (sep_of text r.align) r.align.cells
  pub last : (r.last ≡ 0 → ⊥) → (cell_word (r.last - 1) r.cells + 8 ≤ length evs) × Aligned (sep_of text r.align) (r.last - 1) r.cells evs

-- what the cells of a row, whose Enter stands at word `here`, leave
pub record Written (text row : List ℕ) (al : Align) (here : ℕ) (r : Laid) (evs : List ℕ) : Type 0 where
  pub held : Held text r.cells r.align evs
  pub own : Aligned (sep_of text al) here r.cells evs
  pub words : r.st.words ≡ cell_word here r.cells
  pub alike : Alike al r.align
  pub ends : Ends row r.cells

-- what the code's structs stand for
abbrev pub laid_of : Laid → List ℕ → List ℕ → List ℕ → List ℕ → Cells
laid_of r e k l v = cells (view r.st e k l v) r.cells r.separators r.unclosed

abbrev pub rows_at : List ℕ → Rows → List ℕ → List ℕ → List ℕ → List ℕ → Table.Rows
rows_at text r e k l v = rows (view r.st e k l v) (sep_of text r.align) r.last r.cells
