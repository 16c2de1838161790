-- What a table's events hold: spans in the text, a flag, an alignment. Assumes nothing.
use mathlib.Core.Path.{◌≡◌, refl}
use mathlib.Core.Logic.{inr}
use mathlib.Core.Bool.{Bool, true, false}
use mathlib.Core.List.{List}
use Prim.Native.Nat.{ℕ, ◌+◌, ◌-◌, ◌≤◌}
use native.Mathlib.Omega.{arith}
use lib.Dec.{eqb}
use lib.ListN.{length, get_or}
use borrow.Author.Tests.{le-leb}
use Rattle.classes.specs.Choice.{pick}
use Rattle.classes.specs.Classes.{is_space}
use Rattle.lines.specs.Lines.{Span}
use Rattle.trim.specs.Trim.{front, trim_both, part_of, trim_span}
use Rattle.trim.proofs.TrimLaws.{front-le, kept-le, part_length}
use Rattle.rows.specs.Rows.{cell_of, alignment_of}
use Rattle.rows.specs.declared.RowEnd.{RowEnd}
use Rattle.std.specs.Prelude.{Result, Ok, Err}
use Rattle.walk.specs.Leaf.{mark, line_at, trim_front, trim_back}
use Rattle.walk.specs.Table.{past_caret, caption_text, cell_at, align_by, align_at}
use Rattle.cells.proofs.CellLaws.{span-bounds}
use Rattle.fields.specs.Fields.{fields, within, is_listed, field_of, in_range}
use Rattle.theorems.proofs.Proper.{of-pick}
use Rattle.theorems.proofs.Nests.{Fine}
use Rattle.theorems.proofs.FineLaws.{bodied, made-fine}

-- ---- spans
-- trimmed, it is in order and in the part
pub trimmed-inside : (text : List ℕ) (a e : ℕ) → a ≤ e → ((trim_span text a e).start ≤ (trim_span text a e).end) × ((trim_span text a e).end ≤ e)
trimmed-inside text a e h =
    let t = trim_span text a e in
    let b = span-bounds text a e t refl in
    (b.0, omega (arith, b.1, b.2))

-- in order, and no further than e
abbrev pub Within : ℕ → Span → Type 0
Within e l = (l.start ≤ l.end) × (l.end ≤ e)

-- what is counted at a line's front is in the line
pub front-in : (text : List ℕ) (f : ℕ → Bool) (l : Span) → l.start ≤ l.end → l.start + front f (line_at text l) ≤ l.end
front-in text f l h = omega (arith, h, front-le f (line_at text l), (part_length text l.start l.end).0)

pub front-within : (text : List ℕ) (e : ℕ) (l : Span) → Within e l → Within e (trim_front text l)
front-within text e l p = (front-in text is_space l p.0, p.1)

pub back-within : (text : List ℕ) (e : ℕ) (l : Span) → Within e l → Within e (trim_back text l)
back-within text e l p = (omega arith, omega (arith, p.0, p.1, kept-le (line_at text l), (part_length text l.start l.end).0))

caret-within : (text : List ℕ) (e : ℕ) (l : Span) → Within e l → Within e (past_caret text l)
caret-within text e l p =
    let t = trim_front text l in
    (omega (arith, (front-within text e l p).0, (part_length text t.start l.end).0), p.1)

pub caption-within : (text : List ℕ) (first last : Bool) (l : Span) → l.start ≤ l.end → l.end ≤ length text
    → ((caption_text text first last l).start ≤ (caption_text text first last l).end) × ((caption_text text first last l).end ≤ length text)
caption-within text first last l h k =
    let e = length text in
    let a = pick first (past_caret text l) l in
    let w = of-pick (Within e) first (past_caret text l) l (λ q. caret-within text e l (h, k)) (λ q. (h, k)) in
    of-pick (Within e) last (trim_back text a) a (λ q. back-within text e a w) (λ q. w)

-- ---- alignments
sides-most : (a b : Bool) → pick a 1 0 + pick b 2 0 ≤ 3
sides-most true true = omega arith
sides-most true false = omega arith
sides-most false true = omega arith
sides-most false false = omega arith

alignment-most : (cell : List ℕ) → alignment_of cell ≤ 3
unfolding alignment_of
alignment-most cell = sides-most (eqb (get_or cell 0 0) 58) (eqb (get_or cell (length cell - 1) 0) 58)

pub align-most : (sep : List ℕ) (i : ℕ) → align_at sep i ≤ 3
unfolding align_at
align-most sep i = by-cell (cell_at sep i) (cell_of sep (cell_at sep i))
  where
    by-cell : (i : ℕ) (x : Result ℕ RowEnd) → align_by sep i x ≤ 3
    by-cell i (Ok p) = alignment-most (trim_both (part_of sep i p))
    by-cell i (Err u) = omega arith

-- ---- events
module _ (text : List ℕ) (i j : ℕ) (h : i ≤ j) (k : j ≤ length text) where
  mark-fine : (role node a : ℕ) → is_listed role node ≡ true → bodied (length text) role node a 0 0 0 ≡ true → Fine text (mark role node i j a)
  mark-fine role node a l b = made-fine text (mark role node i j a) l b (inr (omega arith)) (inr (omega arith)) h k

  pub inline-fine : Fine text (mark 3 0 i j 0)
  unfolding is_listed field_of in_range within fields
  inline-fine = mark-fine 3 0 0 refl refl

  pub table-fine : Fine text (mark 1 12 i j 0)
  unfolding is_listed field_of in_range within fields
  table-fine = mark-fine 1 12 0 refl refl

  pub caption-fine : Fine text (mark 1 19 i j 0)
  unfolding is_listed field_of in_range within fields
  caption-fine = mark-fine 1 19 0 refl refl

  module _ (a : ℕ) where
    pub row_fine : a ≤ 1 → Fine text (mark 1 13 i j a)
    unfolding is_listed field_of in_range within fields
    row_fine l = mark-fine 1 13 a refl (rw (le-leb a 1 l) refl)

    pub cell-fine : a ≤ 3 → Fine text (mark 1 18 i j a)
    unfolding is_listed field_of in_range within fields
    cell-fine l = mark-fine 1 18 a refl (rw (le-leb a 3 l) refl)
