-- A row by where it stops, what holds between rows, and the rows of a table. Assumes nothing.
use mathlib.Core.Path.{◌≡◌, refl, sym, ap, ◌∙◌}
use mathlib.Core.Bool.{true, false, not}
use mathlib.Core.List.{List, [], ◌++◌}
use Prim.Native.Nat.{ℕ, ◌+◌, ◌-◌, ◌*◌, ◌/◌, ◌≤◌, ◌<◌}
use native.Mathlib.Omega.{arith}
use lib.Dec.{eqb}
use lib.ListN.{length, take, drop, get_or, length-append}
use lib.Seq.{take-take, take-append-le, length-take-le}
use borrow.Author.Tests.{eq-eqb, ne_eqb}
use Rattle.classes.specs.Choice.{pick, both}
use Rattle.lines.specs.Lines.{Span, span, spans_of}
use Rattle.lines.proofs.SpanLaws.{span-at, span-end}
use Rattle.trim.specs.Trim.{part_of, trim_span}
use Rattle.events.specs.State.{State}
use Rattle.events.specs.Events.{words_of, push_of}
use Rattle.events.specs.View.{view, Same}
use Rattle.events.specs.declared.St.{St}
use Rattle.events.specs.declared.Event.{Event}
use Rattle.walk.specs.Leaf.{mark}
use Rattle.walk.specs.Table.{Cells, cells, rows, cells_of, cell_word, separate_of, end_row, row_of, rows_of}
use Rattle.walk.specs.Table as table
use Rattle.cells.specs.Held.{sep_of, Ends, Aligned, Held, Alike, Ready, Written, rows_at}
use Rattle.cells.specs.declared.Align.{Align}
use Rattle.cells.specs.declared.Rows.{Rows}
use Rattle.cells.specs.declared.Laid.{Laid}
use Rattle.cells.proofs.CellLaws.{out-end, end_is, first_cell, beyond, stands_at}
use Rattle.cells.proofs.HeldLaws.{aligned-none, aligned-more, held_more, same-same, grown}
use Rattle.cells.proofs.RowLaws.{alike-sep}
use Rattle.events.proofs.StateLaws.{same-on}

-- ---- between rows
abbrev pub between : St → Align → ℕ → ℕ → Rows
between st al last n = record { st = st; align = al; last = last; cells = n }

abbrev pub fresh : ℕ → ℕ → ℕ → Align
fresh s e n = record { s = s; e = e; cells = n; row = 0; wide = 0; col = 0; cur = 0 }

-- no row yet, or none since the separator
pub ready-first : (text : List ℕ) (s e n : ℕ) (st : St) (evs : List ℕ) → Ends (part_of text s e) n → Ready text (between st (fresh s e n) 0 0) evs
ready-first text s e n st evs e0 = record {
  held = record {
    place = record { stands = stands_at (part_of text s e) 0 0 (first_cell (part_of text s e)); low = λ g. refl; high = λ g. refl };
    cells = aligned-none (part_of text s e) 0 evs;
  };
  ends = e0;
  last = λ z. absurd (z refl);
}

no_cells : (text : List ℕ) → part_of text 0 0 ≡ []
unfolding part_of
no_cells text = refl

ready-none : (text : List ℕ) (st : St) (evs : List ℕ) → Ready text (between st (fresh 0 0 0) 0 0) evs
ready-none text st evs = ready-first text 0 0 0 st evs (end_is _ false (out-end (part_of text 0 0) _ (rw (no_cells text) (omega arith))))

rows_none : (text : List ℕ) (s : State) → rows s (part_of text 0 0) 0 0 ≡ rows s [] 0 0
rows_none text s = ap (λ (x : List ℕ). rows s x 0 0) (no_cells text)

pub ready-as : (text : List ℕ) (r : Rows) (b : St) (evs evs' : List ℕ) → evs' ≡ evs → Ready text r evs → Ready text (between b r.align r.last r.cells) evs'
ready-as text r b evs evs' e p = rw e (record { held = p.held; ends = p.ends; last = p.last })

ends-alike : (text : List ℕ) (a b : Align) → Alike a b → Ends (sep_of text a) a.cells → Ends (sep_of text b) b.cells
ends-alike text a b p e = rw (alike-sep text a b p, p.cells) e

-- after a separator, whose head is the row before it
pub ready-head : (text : List ℕ) (s e n : ℕ) (r : Rows) (st : St) (al : Align) (evs : List ℕ) → Ends (part_of text s e) n → Held text 0 al evs → Alike (fresh s e n) al
    → cell_word (r.last - 1) r.cells + 8 ≤ length evs → Aligned (part_of text s e) (r.last - 1) r.cells evs → Ready text (between st al r.last r.cells) evs
ready-head text s e n r st al evs e0 held alike w c = record {
  held = held;
  ends = ends-alike text (fresh s e n) al alike e0;
  last = λ z. (w, rw (alike-sep text (fresh s e n) al alike) c);
}

-- what the head needs: beyond the separator before it has no alignment
pub unaligned : (text : List ℕ) (r : Rows) (here w : ℕ) (ev : List ℕ) → w ≡ here → Ready text r (take here ev) → (r.last ≡ 0 → ⊥)
    → (j : ℕ) → r.align.cells ≤ j → j < r.cells → (get_or (take w ev) (cell_word (r.last - 1) j + 4) 0 ≡ 0) × (get_or (take w ev) (cell_word (r.last - 1) j + 20) 0 ≡ 0)
unaligned text r here w ev e p z j g h =
    let a = (p.last z).1 j h in
    let b = beyond (sep_of text r.align) r.align.cells j p.ends g in
    rw e (a.1 ∙ b, a.2 ∙ b)

-- ---- a row, by where it stops
module _ (text : List ℕ) (s e : ℕ) (r : table.Rows) (a : State) (p : a ≡ push_of (mark 1 13 s (s + 1) 0) r.st) where
  pub row-1 : (a.number ≡ 0 → ⊥) → rows a r.sep r.last r.count ≡ row_of text (span s e) r
  unfolding row_of
  row-1 z = sym (rw (← p, ne_eqb a.number 0 z))

  module _ (za : a.number ≡ 0) (here : ℕ) (l : length r.st.evs ≡ here) (c : Cells)
      (q : c ≡ cells_of text r.sep (part_of text (s + 1) e) (s + 1) (length (part_of text (s + 1) e)) 0 (cells a 0 true false)) where
    row_in : row_of text (span s e) r ≡ end_row (part_of text (s + 1) e) here e c r
    unfolding row_of
    row_in = rw (← p, eq-eqb a.number 0 za, l, ← q)

    end-2 : (c.st.number ≡ 0 → ⊥) → rows c.st r.sep r.last r.count ≡ end_row (part_of text (s + 1) e) here e c r
    unfolding end_row
    end-2 z = sym (rw (ne_eqb c.st.number 0 z))

    pub row-2 : (c.st.number ≡ 0 → ⊥) → rows c.st r.sep r.last r.count ≡ row_of text (span s e) r
    row-2 z = end-2 z ∙ sym row_in

    module _ (zc : c.st.number ≡ 0) where
      end-3 : both c.seps (not c.unclosed) ≡ true → separate_of (part_of text (s + 1) e) here (rows c.st r.sep r.last r.count) ≡ end_row (part_of text (s + 1) e) here e c r
      unfolding end_row
      end-3 t = sym (rw (eq-eqb c.st.number 0 zc, t))

      pub row-3 : both c.seps (not c.unclosed) ≡ true → separate_of (part_of text (s + 1) e) here (rows c.st r.sep r.last r.count) ≡ row_of text (span s e) r
      row-3 t = end-3 t ∙ sym row_in

      end-4 : both c.seps (not c.unclosed) ≡ false → rows (push_of (mark 2 13 e e 0) c.st) r.sep (here + 1) c.count ≡ end_row (part_of text (s + 1) e) here e c r
      unfolding end_row
      end-4 t = sym (rw (eq-eqb c.st.number 0 zc, t))

      pub row-4 : both c.seps (not c.unclosed) ≡ false → rows (push_of (mark 2 13 e e 0) c.st) r.sep (here + 1) c.count ≡ row_of text (span s e) r
      row-4 t = end-4 t ∙ sym row_in

-- the row's Enter, written behind what was held
pub held-enter : (text : List ℕ) (al : Align) (st a : St) (ev ev' : List ℕ) (x : Event) → ((k l v : List ℕ) → view a ev' k l v ≡ push_of x (view st ev k l v)) → a.number ≡ 0
    → Held text 0 al (take st.words ev) → Held text 0 al (take a.words ev')
held-enter text al st a ev ev' x p z h = rw (grown st a ev ev' x p z) (held_more text 0 al (take st.words ev) (words_of x) h)

-- the words before the row are as they were
pub words-before : (st a : St) (ev e1 e2 : List ℕ) (x : Event) → st.words ≤ length ev → a.words ≡ st.words + 8
    → ((k l v : List ℕ) → view a e1 k l v ≡ push_of x (view st ev k l v)) → a.number ≡ 0 → take a.words e2 ≡ take a.words e1
    → take st.words e2 ≡ take st.words ev
words-before st a ev e1 e2 x h w p z q =
    let l : length (take st.words ev) ≡ st.words = length-take-le st.words ev h in
    sym (take-take st.words a.words e2 (omega arith))
    ∙ ap (λ (y : List ℕ). take st.words y) (q ∙ grown st a ev e1 x p z)
    ∙ take-append-le st.words (take st.words ev) (words_of x) (omega arith)
    ∙ take-take st.words st.words ev (omega arith)

-- a row that stays is the last one, and perhaps the widest
module _ (text row : List ℕ) (al : Align) (here w : ℕ) (e : w ≡ here + 8) (c : Laid) (z : St) (ev ev' : List ℕ) (x : Event)
    (d : Written text row al (w - 8) c (take c.st.words ev)) (b : c.st.words ≤ length ev)
    (p : (k l v : List ℕ) → view z ev' k l v ≡ push_of x (view c.st ev k l v)) (zz : z.number ≡ 0) where
  held-laid : Held text c.cells c.align (take z.words ev')
  held-laid = rw (grown c.st z ev ev' x p zz) (held_more text c.cells c.align (take c.st.words ev) (words_of x) d.held)

  own : Aligned (sep_of text al) here c.cells (take z.words ev')
  own =
      let q : w - 8 ≡ here = omega arith in
      rw (grown c.st z ev ev' x p zz, ← q) (aligned-more (sep_of text al) (w - 8) c.cells (take c.st.words ev) (words_of x) d.own)

  own-laid : Aligned (sep_of text c.align) here c.cells (take z.words ev')
  own-laid = rw (alike-sep text al c.align d.alike) own

  words-after : cell_word here c.cells + 8 ≤ length (take z.words ev')
  words-after =
      let g : length (take z.words ev') ≡ length (take c.st.words ev ++ words_of x) = ap (λ (y : List ℕ). length y) (grown c.st z ev ev' x p zz) in
      let f : length (take c.st.words ev ++ words_of x) ≡ length (take c.st.words ev) + 8 = length-append (take c.st.words ev) (words_of x) in
      let l : length (take c.st.words ev) ≡ c.st.words = length-take-le c.st.words ev b in
      omega (arith, d.words)

  pub ready-row : (m : Align) → ((text evs : List ℕ) → Held text c.cells c.align evs → Aligned (sep_of text c.align) here c.cells evs → Held text 0 m evs) → Alike c.align m
      → Ends (sep_of text al) al.cells → Ready text (between z m (here + 1) c.cells) (take z.words ev')
  ready-row m f k e0 =
      let q : here + 1 - 1 ≡ here = omega arith in
      record {
        held = f text (take z.words ev') held-laid own-laid;
        ends = ends-alike text c.align m k (ends-alike text al c.align d.alike e0);
        last = λ n. rw q (words-after, rw (alike-sep text c.align m k) own-laid);
      }

-- ---- the rows, up to the first blank line
module _ (text lines : List ℕ) (n : ℕ) (h : n * 2 + 2 ≤ length lines) (r : table.Rows) (t : Span) (q : t ≡ trim_span text (get_or lines (n * 2) 0) (get_or lines (n * 2 + 1) 0)) where
  rows_step : rows_of text (drop n (spans_of lines)) r ≡ pick (eqb t.start t.end) r (pick (eqb (row_of text t r).st.number 0) (rows_of text (drop (n + 1) (spans_of lines)) (row_of text t r)) (row_of text t r))
  unfolding rows_of
  rows_step = rw (span-at lines n h, ← q)

  rows-blank : t.start ≡ t.end → rows_of text (drop n (spans_of lines)) r ≡ r
  rows-blank z = rows_step ∙ rw (eq-eqb t.start t.end z)

  module _ (ne : t.start ≡ t.end → ⊥) (x : table.Rows) (p : x ≡ row_of text t r) where
    rows-stop : (x.st.number ≡ 0 → ⊥) → rows_of text (drop n (spans_of lines)) r ≡ x
    rows-stop z = rows_step ∙ rw (ne_eqb t.start t.end ne, ← p, ne_eqb x.st.number 0 z)

    rows_on : x.st.number ≡ 0 → rows_of text (drop n (spans_of lines)) r ≡ rows_of text (drop (n + 1) (spans_of lines)) x
    rows_on z = rows_step ∙ rw (ne_eqb t.start t.end ne, ← p, eq-eqb x.st.number 0 z)

rows_end : (text lines : List ℕ) (n : ℕ) (r : table.Rows) → length lines / 2 ≤ n → rows_of text (drop n (spans_of lines)) r ≡ r
unfolding rows_of
rows_end text lines n r h = rw (span-end lines n h)

-- after j rows: what is left to do gives the same
pub record Rest (text lines : List ℕ) (st : St) (ev₀ : List ℕ) (j : ℕ) (r : Rows) (ev : List ℕ) : Type 0 where
  pub words : r.st.words ≤ length ev
  pub len : length ev ≡ length ev₀
  pub same : Same st r.st
  pub ready : Ready text r (take r.st.words ev)
  pub rest : (k l v : List ℕ) → (rows_of text (drop j (spans_of lines)) (rows_at text r ev k l v)).st ≡ (rows_of text (spans_of lines) (rows (view st ev₀ k l v) [] 0 0)).st

module _ (text lines : List ℕ) (st : St) (ev₀ : List ℕ) where
  pub rest-start : st.words ≤ length ev₀ → Rest text lines st ev₀ 0 (between st (fresh 0 0 0) 0 0) ev₀
  rest-start h = record {
    words = h;
    len = refl;
    same = same-same st;
    ready = ready-none text st (take st.words ev₀);
    rest = λ k l v. ap (λ (x : table.Rows). (rows_of text (spans_of lines) x).st) (rows_none text (view st ev₀ k l v));
  }

  module _ (j : ℕ) (r : Rows) (ev : List ℕ) (o : Rest text lines st ev₀ j r ev) where
    pub rest_end : length lines / 2 ≤ j → (k l v : List ℕ) → view r.st ev k l v ≡ (rows_of text (spans_of lines) (rows (view st ev₀ k l v) [] 0 0)).st
    rest_end h k l v = sym (ap (λ (x : table.Rows). x.st) (rows_end text lines j (rows_at text r ev k l v) h)) ∙ o.rest k l v

    module _ (h : j < length lines / 2) (a e : ℕ) (ea : a ≡ 2 * j) (ee : e ≡ 2 * j + 1) (t : Span) (q : t ≡ trim_span text (get_or lines a 0) (get_or lines e 0)) where
      line : t ≡ trim_span text (get_or lines (j * 2) 0) (get_or lines (j * 2 + 1) 0)
      line =
          let x : a ≡ j * 2 = omega arith in
          let y : e ≡ j * 2 + 1 = omega arith in
          q ∙ ap (λ (i : ℕ). trim_span text (get_or lines i 0) (get_or lines e 0)) x ∙ ap (λ (i : ℕ). trim_span text (get_or lines (j * 2) 0) (get_or lines i 0)) y

      pub rest-blank : t.start ≡ t.end → (k l v : List ℕ) → view r.st ev k l v ≡ (rows_of text (spans_of lines) (rows (view st ev₀ k l v) [] 0 0)).st
      rest-blank z k l v = sym (ap (λ (x : table.Rows). x.st) (rows-blank text lines j (omega arith) (rows_at text r ev k l v) t line z)) ∙ o.rest k l v

      module _ (ne : t.start ≡ t.end → ⊥) (x : Rows) (ev' : List ℕ) (p : (k l v : List ℕ) → rows_at text x ev' k l v ≡ row_of text (span t.start t.end) (rows_at text r ev k l v)) where
        pub rest-stop : (x.st.number ≡ 0 → ⊥) → (k l v : List ℕ) → view x.st ev' k l v ≡ (rows_of text (spans_of lines) (rows (view st ev₀ k l v) [] 0 0)).st
        rest-stop z k l v = sym (ap (λ (y : table.Rows). y.st) (rows-stop text lines j (omega arith) (rows_at text r ev k l v) t line ne (rows_at text x ev' k l v) (p k l v) z)) ∙ o.rest k l v

        pub rest-next : x.st.number ≡ 0 → x.st.words ≤ length ev' → length ev' ≡ length ev → Same r.st x.st → Ready text x (take x.st.words ev') → Rest text lines st ev₀ (j + 1) x ev'
        rest-next z w n s d = record {
          words = w;
          len = n ∙ o.len;
          same = same-on st r.st x.st o.same s;
          ready = d;
          rest = λ k l v. sym (ap (λ (y : table.Rows). y.st) (rows_on text lines j (omega arith) (rows_at text r ev k l v) t line ne (rows_at text x ev' k l v) (p k l v) z)) ∙ o.rest k l v;
        }
