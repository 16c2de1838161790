-- Where a row's cells end, and what stands beyond the last. Assumes nothing.
use mathlib.Core.Path.{◌≡◌, refl, sym, ap, subst, ◌∙◌}
use mathlib.Core.Bool.{Bool, true, false, not, true≢false}
use mathlib.Core.List.{List, [], ◌∷◌}
use Prim.Native.Nat.{ℕ, zero, suc, ◌+◌, ◌-◌, ◌≤◌, ◌<◌}
use native.Mathlib.Omega.{arith}
use lib.Dec.{eqb}
use lib.ListN.{length, take, drop, length-drop, length-take}
use lib.Seq.{take-take, drop-drop}
use Rattle.classes.proofs.ListLaws.{drop-take}
use Rattle.classes.specs.Choice.{pick}
use Rattle.classes.specs.Classes.{is_space}
use Rattle.lines.specs.Lines.{Span}
use Rattle.trim.specs.Trim.{lead, kept, part_of, trim_both, trim_span}
use Rattle.trim.proofs.TrimLaws.{front-le, kept-le, part_length, span-part}
use Rattle.rows.specs.Rows.{row_end, ticks_of, after_run, hides_at, cell_from, cell_of, alignment_of}
use Rattle.rows.specs.declared.RowEnd.{RowEnd}
use Rattle.std.specs.Prelude.{Result, Ok, Err}
use Rattle.rows.proofs.RowLaws.{turn_end}
use Rattle.walk.specs.Table.{past, cell_at, align_by, align_at}
use Rattle.cells.specs.Held.{is_end, Ends, Stands}

-- ---- a pipe lies within the row
-- a pipe that is ahead lies from i on and before e
abbrev Within : ℕ → ℕ → Result ℕ RowEnd → Type 0
Within i e (Ok p) = (i ≤ p) × (p < e)
Within i e (Err u) = Unit {0}

choose : (i e : ℕ) (b : Bool) (x y : Result ℕ RowEnd) → Within i e x → Within i e y → Within i e (pick b x y)
choose i e true x y p q = p
choose i e false x y p q = q

wider : (i n : ℕ) (x : Result ℕ RowEnd) → Within (i + 1) (i + 1 + n) x → Within i (i + suc n) x
wider i n (Ok p) w = (omega (arith, w.0), omega (arith, w.1))
wider i n (Err u) w = tt

from-within : (k o i : ℕ) (ys : List ℕ) → Within i (i + length ys) (cell_from k o i ys)
unfolding cell_from
from-within zero o i [] = tt
from-within (suc k) o i [] = tt
from-within (suc k) o i (b ∷ bs) = wider i (length bs) (cell_from k o (i + 1) bs) (from-within k o (i + 1) bs)
from-within zero o i (b ∷ bs) =
    let run = wider i (length bs) (cell_from (ticks_of bs) (after_run o (suc (ticks_of bs))) (i + 1) bs) (from-within (ticks_of bs) (after_run o (suc (ticks_of bs))) (i + 1) bs) in
    let on = wider i (length bs) (cell_from zero o (i + 1) bs) (from-within zero o (i + 1) bs) in
    let past = wider i (length bs) (cell_from 1 o (i + 1) bs) (from-within 1 o (i + 1) bs) in
    choose i (i + suc (length bs)) (eqb b 96) _ _ run
    (choose i (i + suc (length bs)) (not (eqb o 0)) _ _ on
    (choose i (i + suc (length bs)) (eqb b 124) _ _ (omega arith, omega arith)
    (choose i (i + suc (length bs)) (hides_at (b ∷ bs)) _ _ past
    on)))

cell-within : (row : List ℕ) (i : ℕ) → Within i (i + length (drop i row)) (cell_of row i)
unfolding cell_of
cell-within row i = from-within zero 0 i (drop i row)

pub pipe-within : (row : List ℕ) (i p : ℕ) → cell_of row i ≡ Ok p → (i ≤ p) × (p < length row)
pipe-within row i p e =
    let w : (i ≤ p) × (p < i + length (drop i row)) = subst (λ (x : Result ℕ RowEnd). Within i (i + length (drop i row)) x) e (cell-within row i) in
    (w.0, omega (arith, w.0, w.1, length-drop i row))

-- ---- the last cell
pub out-end : (row : List ℕ) (i : ℕ) → length row ≤ i → cell_of row i ≡ row_end false
unfolding cell_of
out-end row i h = turn_end row 0 i h

-- no cell more
pub end_is : (x : Result ℕ RowEnd) (u : Bool) → x ≡ row_end u → is_end x ≡ true
end_is x u e = ap (λ (y : Result ℕ RowEnd). is_end y) e

past_end : (n : ℕ) (x : Result ℕ RowEnd) → is_end x ≡ true → past n x ≡ n
past_end n (Ok p) e = absurd (true≢false (sym e))
past_end n (Err u) e = refl

align-end : (sep : List ℕ) (i : ℕ) (x : Result ℕ RowEnd) → is_end x ≡ true → align_by sep i x ≡ 0
align-end sep i (Ok p) e = absurd (true≢false (sym e))
align-end sep i (Err u) e = refl

at_next : (sep : List ℕ) (i : ℕ) → cell_at sep (i + 1) ≡ past (length sep) (cell_of sep (cell_at sep i))
unfolding cell_at
at_next sep i = let e : i + 1 ≡ suc i = omega arith in rw e

ends_next : (sep : List ℕ) (i : ℕ) → Ends sep i → (cell_at sep (i + 1) ≡ length sep) × Ends sep (i + 1)
ends_next sep i e =
    let p : cell_at sep (i + 1) ≡ length sep = at_next sep i ∙ past_end (length sep) (cell_of sep (cell_at sep i)) e in
    (p, end_is (cell_of sep (cell_at sep (i + 1))) false (out-end sep (cell_at sep (i + 1)) (omega arith)))

ends_more : (sep : List ℕ) (i k : ℕ) → Ends sep i → Ends sep (i + k)
ends_more sep i zero e = let z : i + 0 ≡ i = omega arith in rw z e
ends_more sep i (suc k) e =
    let z : i + suc k ≡ i + k + 1 = omega arith in
    rw z (ends_next sep (i + k) (ends_more sep i k e)).1

ends_on : (sep : List ℕ) (i j : ℕ) → Ends sep i → i ≤ j → Ends sep j
ends_on sep i j e h = let z : i + (j - i) ≡ j = omega arith in subst (λ (n : ℕ). Ends sep n) z (ends_more sep i (j - i) e)

-- beyond the separator's cells every alignment is none
align-at : (sep : List ℕ) (i : ℕ) → align_at sep i ≡ align_by sep (cell_at sep i) (cell_of sep (cell_at sep i))
unfolding align_at
align-at sep i = refl

pub beyond : (sep : List ℕ) (i j : ℕ) → Ends sep i → i ≤ j → align_at sep j ≡ 0
beyond sep i j e h = align-at sep j ∙ align-end sep (cell_at sep j) (cell_of sep (cell_at sep j)) (ends_on sep i j e h)

-- ---- the cursor
pub first_cell : (sep : List ℕ) → 0 ≡ cell_at sep 0
unfolding cell_at
first_cell sep = refl

pub next-cell : (sep : List ℕ) (i cur n : ℕ) → cur ≡ cell_at sep i → n ≡ past (length sep) (cell_of sep cur) → n ≡ cell_at sep (i + 1)
next-cell sep i cur n c e = e ∙ ap (λ (x : ℕ). past (length sep) (cell_of sep x)) c ∙ sym (at_next sep i)

pub value-at : (sep : List ℕ) (i cur v : ℕ) → cur ≡ cell_at sep i → v ≡ align_by sep cur (cell_of sep cur) → v ≡ align_at sep i
value-at sep i cur v c e = e ∙ ap (λ (x : ℕ). align_by sep x (cell_of sep x)) c ∙ sym (align-at sep i)

pub stands_at : (sep : List ℕ) (cur col : ℕ) → cur ≡ cell_at sep col → Stands sep cur col
stands_at sep cur col c = record { align = value-at sep col cur _ c refl; next = next-cell sep col cur _ c refl }

-- a cursor beyond the last cell does for every column there
pub stands-past : (sep : List ℕ) (cur n a b : ℕ) → Ends sep n → n ≤ a → n ≤ b → cur ≡ cell_at sep a → Stands sep cur b
stands-past sep cur n a b e ha hb c =
    let u : is_end (cell_of sep cur) ≡ true = rw c (ends_on sep n a e ha) in
    record {
      align = align-end sep cur (cell_of sep cur) u ∙ sym (beyond sep n b e hb);
      next = past_end (length sep) (cell_of sep cur) u ∙ sym (ends_next sep b (ends_on sep n b e hb)).0;
    }

-- the end of the row is the end of its cells
pub ends-out : (row : List ℕ) (i at : ℕ) → at ≡ cell_at row i → length row ≤ at → Ends row i
ends-out row i at c h = end_is (cell_of row (cell_at row i)) false (out-end row (cell_at row i) (omega arith))

pub ends-here : (row : List ℕ) (i at : ℕ) (u : Bool) → at ≡ cell_at row i → cell_of row at ≡ row_end u → Ends row i
ends-here row i at u c e = end_is (cell_of row (cell_at row i)) u (ap (λ (x : ℕ). cell_of row x) (sym c) ∙ e)

-- ---- one cell by what is ahead
pub first-none : (sep : List ℕ) (cur : ℕ) (u : Bool) (x : Result ℕ RowEnd) → x ≡ row_end u → x ≡ cell_of sep cur → 0 ≡ align_by sep cur (cell_of sep cur)
first-none sep cur u x p q = sym (align-end sep cur (cell_of sep cur) (end_is (cell_of sep cur) u (sym q ∙ p)))

pub first-pipe : (sep : List ℕ) (cur p v : ℕ) (x : Result ℕ RowEnd) (c t : List ℕ) → x ≡ Ok p → x ≡ cell_of sep cur
    → c ≡ part_of sep cur p → t ≡ trim_both c → v ≡ alignment_of t → v ≡ align_by sep cur (cell_of sep cur)
first-pipe sep cur p v x c t d q a b e = e ∙ rw (b, a) (sym (ap (λ (y : Result ℕ RowEnd). align_by sep cur y) (sym q ∙ d)))

pub past-none : (sep : List ℕ) (cur : ℕ) (u : Bool) (x : Result ℕ RowEnd) → x ≡ row_end u → x ≡ cell_of sep cur → length sep ≡ past (length sep) (cell_of sep cur)
past-none sep cur u x p q = sym (past_end (length sep) (cell_of sep cur) (end_is (cell_of sep cur) u (sym q ∙ p)))

pub past-pipe : (sep : List ℕ) (cur p : ℕ) (x : Result ℕ RowEnd) → x ≡ Ok p → x ≡ cell_of sep cur → p + 1 ≡ past (length sep) (cell_of sep cur)
past-pipe sep cur p x d q = sym (ap (λ (y : Result ℕ RowEnd). past (length sep) y) (sym q ∙ d))

-- ---- a part of the row is a part of the text
part-part : (text : List ℕ) (s e i p : ℕ) → p ≤ length (part_of text s e) → part_of (part_of text s e) i p ≡ part_of text (s + i) (s + p)
unfolding part_of
part-part text s e i p h =
    let l = length-take (e - s) (drop s text) in
    let z : s + p - (s + i) ≡ p - i = omega arith in
    let g : p - i ≤ e - s - i = omega arith in
    ap (λ (x : List ℕ). take (p - i) x) (drop-take i (e - s) (drop s text))
    ∙ take-take (p - i) (e - s - i) (drop i (drop s text)) g
    ∙ ap (λ (x : List ℕ). take (p - i) x) (drop-drop i s text)
    ∙ ap (λ (n : ℕ). take n (drop (s + i) text)) (sym z)

-- the trimmed cell of the row is what stands in its span
pub cell-text : (text : List ℕ) (s e i p : ℕ) (t : Span) (c : List ℕ) → p ≤ length (part_of text s e) → t ≡ trim_span text (s + i) (s + p)
    → c ≡ part_of text t.start t.end → c ≡ trim_both (part_of (part_of text s e) i p)
cell-text text s e i p t c h q r =
    r ∙ ap (λ (x : Span). part_of text x.start x.end) q ∙ span-part text (s + i) (s + p) ∙ ap (λ (x : List ℕ). trim_both x) (sym (part-part text s e i p h))

-- ---- offsets stay within the line
pub pipe-inside : (text row : List ℕ) (s e at p : ℕ) → row ≡ part_of text s e → cell_of row at ≡ Ok p → (at ≤ p) × (s + p < e) × (p < length text) × (p < length (part_of text s e))
pipe-inside text row s e at p r q =
    let w = pipe-within row at p q in
    let l : length row ≡ length (part_of text s e) = ap (λ (x : List ℕ). length x) r in
    let b = part_length text s e in
    (w.0, omega (arith, w.1, b.0), omega (arith, w.1, b.1), omega (arith, w.1))

pub span-bounds : (text : List ℕ) (a e : ℕ) (t : Span) → t ≡ trim_span text a e → (t.start ≤ t.end) × (t.start ≤ a + (e - a)) × (t.end ≤ t.start + (e - t.start))
unfolding trim_span
span-bounds text a e t q =
    let i = a + lead (part_of text a e) in
    let f = front-le is_space (part_of text a e) in
    let g = kept-le (part_of text i e) in
    let b = (part_length text a e).0 in
    let d = (part_length text i e).0 in
    let x : t.start ≡ i = ap (λ (y : Span). y.start) q in
    let z : t.end ≡ i + kept (part_of text i e) = ap (λ (y : Span). y.end) q in
    (omega arith, omega arith, omega arith)
