-- The cells of a row, one law for each way of a turn, and a row by where it stops. Assumes nothing.
use mathlib.Core.Path.{◌≡◌, refl, sym, ap, ◌∙◌}
use mathlib.Core.Bool.{Bool, true, false}
use mathlib.Core.List.{List, ◌++◌}
use Prim.Native.Nat.{ℕ, zero, suc, ◌+◌, ◌-◌, ◌≤◌, ◌<◌}
use native.Mathlib.Omega.{arith}
use lib.Dec.{eqb}
use lib.ListN.{length, take}
use lib.Seq.{take-take, take-append-le, length-take-le}
use borrow.Author.Tests.{eq-eqb, ne_eqb}
use Rattle.classes.specs.Choice.{pick, both}
use Rattle.trim.specs.Trim.{part_of, trim_both}
use Rattle.rows.specs.Rows.{row_end, cell_of, separator_of}
use Rattle.std.specs.Prelude.{Ok}
use Rattle.events.specs.State.{State}
use Rattle.events.specs.View.{view, Same}
use Rattle.events.specs.declared.St.{St}
use Rattle.walk.specs.Table.{cells, cell_at, align_at, cell_events, cells_of, cell_word}
use Rattle.cells.specs.Held.{sep_of, Ends, cell_words, Aligned, Place, Held, Alike, Written}
use Rattle.cells.specs.declared.Align.{Align}
use Rattle.cells.specs.declared.Laid.{Laid}
use Rattle.cells.proofs.CellLaws.{pipe-within, out-end, first_cell, next-cell, past-pipe, ends-out, ends-here}
use Rattle.cells.proofs.HeldLaws.{alike_same, aligned-none, aligned-more, aligned-own, same-same}
use Rattle.events.proofs.StateLaws.{same-on}

-- ---- one turn of the definition
module _ (text sep row : List ℕ) (base m i at p : ℕ) (seps d : Bool) (b c : State) (h : i < m) (e : cell_of row at ≡ Ok p)
    (q : c ≡ cell_events text (align_at sep i) (base + at) (base + p) b) (f : d ≡ both seps (separator_of (trim_both (part_of row at p)))) where
  turn : cells_of text sep row base (m - i) at (cells b i seps false) ≡ pick (eqb c.number 0) (cells_of text sep row base (m - (i + 1)) (p + 1) (cells c (i + 1) d false)) (cells c (i + 1) d false)
  unfolding cells_of
  turn = let z : m - i ≡ suc (m - (i + 1)) = omega arith in rw (z, e, ← q, ← f)

  cells-on : c.number ≡ 0 → cells_of text sep row base (m - i) at (cells b i seps false) ≡ cells_of text sep row base (m - (i + 1)) (p + 1) (cells c (i + 1) d false)
  cells-on z = turn ∙ rw (eq-eqb c.number 0 z)

  cells-stop : (c.number ≡ 0 → ⊥) → cells_of text sep row base (m - i) at (cells b i seps false) ≡ cells c (i + 1) d false
  cells-stop z = turn ∙ rw (ne_eqb c.number 0 z)

cells-last : (text sep row : List ℕ) (base m i at : ℕ) (seps u : Bool) (b : State) → i < m → cell_of row at ≡ row_end u
    → cells_of text sep row base (m - i) at (cells b i seps false) ≡ cells b i seps u
unfolding cells_of
cells-last text sep row base m i at seps u b h e = let z : m - i ≡ suc (m - (i + 1)) = omega arith in rw (z, e)

cells-end : (text sep row : List ℕ) (base m i at : ℕ) (seps : Bool) (b : State) → length row ≤ at → cells_of text sep row base m at (cells b i seps false) ≡ cells b i seps false
unfolding cells_of
cells-end text sep row base zero i at seps b h = refl
cells-end text sep row base (suc m) i at seps b h = rw (out-end row at h)

-- ---- the loop over the cells of a row, whose Enter is the last event of st
pub record Loop (text row : List ℕ) (s : ℕ) (al : Align) (st : St) (ev₀ : List ℕ) (at i : ℕ) (seps : Bool) (l : Align) (b : St) (ev : List ℕ) : Type 0 where
  pub here : i ≤ at
  pub inside : at ≤ length row
  pub words : b.words ≤ length ev
  pub len : length ev ≡ length ev₀
  pub low : st.words ≤ b.words
  pub place : b.words ≡ cell_word (st.words - 8) i
  pub held : Held text i l (take b.words ev)
  pub own : Aligned (sep_of text al) (st.words - 8) i (take b.words ev)
  pub alike : Alike al l
  pub kept : take st.words ev ≡ take st.words ev₀
  pub same : Same st b
  pub start : at ≡ cell_at row i
  pub rest : (k m v : List ℕ) → cells_of text (sep_of text al) row s (length row - i) at (cells (view b ev k m v) i seps false) ≡ cells_of text (sep_of text al) row s (length row) 0 (cells (view st ev₀ k m v) 0 true false)

abbrev pub laid : St → Align → ℕ → Bool → Bool → Laid
laid b l i seps u = record { st = b; align = l; cells = i; separators = seps; unclosed = u }

pub alike-sep : (text : List ℕ) (a b : Align) → Alike a b → sep_of text b ≡ sep_of text a
alike-sep text a b p = ap (λ (x : ℕ). part_of text x b.e) p.s ∙ ap (λ (x : ℕ). part_of text a.s x) p.e

module _ (text row : List ℕ) (s : ℕ) (al : Align) (st : St) (ev₀ : List ℕ) where
  pub loop-start : st.words ≤ length ev₀ → 8 ≤ st.words → Held text 0 al (take st.words ev₀) → Loop text row s al st ev₀ 0 0 true al st ev₀
  loop-start h g held = record {
    here = omega arith;
    inside = omega arith;
    words = h;
    len = refl;
    low = omega arith;
    place = omega arith;
    held = held;
    own = aligned-none (sep_of text al) (st.words - 8) (take st.words ev₀);
    alike = alike_same al;
    kept = refl;
    same = same-same st;
    start = first_cell row;
    rest = λ k m v. let z : length row - 0 ≡ length row = omega arith in rw z refl;
  }

  module _ (at i : ℕ) (seps : Bool) (l : Align) (b : St) (ev : List ℕ) (o : Loop text row s al st ev₀ at i seps l b ev) (h : at < length row) where
    -- no cell more
    pub loop-last : (u : Bool) → cell_of row at ≡ row_end u → (k m v : List ℕ)
        → cells (view b ev k m v) i seps u ≡ cells_of text (sep_of text al) row s (length row) 0 (cells (view st ev₀ k m v) 0 true false)
    loop-last u e k m v = sym (cells-last text (sep_of text al) row s (length row) i at seps u (view b ev k m v) (omega (arith, o.here)) e) ∙ o.rest k m v

    -- a cell
    module _ (p : ℕ) (e : cell_of row at ≡ Ok p) (w : ℕ) (q : w ≡ align_at (sep_of text l) i) (d : Bool) (f : d ≡ both seps (separator_of (trim_both (part_of row at p))))
        (c : St) (ev' : List ℕ) (g : (k m v : List ℕ) → view c ev' k m v ≡ cell_events text w (s + at) (s + p) (view b ev k m v)) where
      -- the separator is the same one all along
      value : w ≡ align_at (sep_of text al) i
      value = q ∙ ap (λ (x : List ℕ). align_at x i) (alike-sep text al l o.alike)

      by : (k m v : List ℕ) → view c ev' k m v ≡ cell_events text (align_at (sep_of text al) i) (s + at) (s + p) (view b ev k m v)
      by k m v = g k m v ∙ ap (λ (x : ℕ). cell_events text x (s + at) (s + p) (view b ev k m v)) value

      pub loop-stop : (c.number ≡ 0 → ⊥) → (k m v : List ℕ)
          → cells (view c ev' k m v) (i + 1) d false ≡ cells_of text (sep_of text al) row s (length row) 0 (cells (view st ev₀ k m v) 0 true false)
      loop-stop z k m v =
          sym (cells-stop text (sep_of text al) row s (length row) i at p seps d (view b ev k m v) (view c ev' k m v) (omega (arith, o.here)) e (by k m v) f z) ∙ o.rest k m v

      pub loop-next : c.number ≡ 0 → c.words ≤ length ev' → length ev' ≡ length ev → c.words ≡ b.words + 24
          → (x y z : ℕ) → take c.words ev' ≡ take b.words ev ++ cell_words w x y z (s + p) → Same b c
          → (n : Align) → Place text (i + 1) n → Alike l n → n.row ≡ l.row → n.wide ≡ l.wide
          → Loop text row s al st ev₀ (p + 1) (i + 1) d n c ev'
      loop-next zero-c words len w24 x y z grew same n place alike nr nw =
          let in_row = pipe-within row at p e in
          let lb : length (take b.words ev) ≡ b.words = length-take-le b.words ev o.words in
          record {
            here = omega (arith, o.here, in_row.0);
            inside = omega (arith, in_row.1);
            words = words;
            len = len ∙ o.len;
            low = omega (arith, o.low);
            place = w24 ∙ (let e = o.place in omega arith);
            held = record {
              place = place;
              cells = rw (grew, alike-sep text l n alike, nr, nw) (aligned-more (sep_of text l) l.row l.wide (take b.words ev) (cell_words w x y z (s + p)) o.held.cells);
            };
            own = rw grew (aligned-own (sep_of text al) (st.words - 8) i w x y z (s + p) (take b.words ev) o.own (lb ∙ o.place) value);
            alike = record { s = alike.s ∙ o.alike.s; e = alike.e ∙ o.alike.e; cells = alike.cells ∙ o.alike.cells };
            kept =
                sym (take-take st.words c.words ev' (omega (arith, o.low)))
                ∙ ap (λ (r : List ℕ). take st.words r) grew
                ∙ take-append-le st.words (take b.words ev) (cell_words w x y z (s + p)) (omega (arith, o.low))
                ∙ take-take st.words b.words ev o.low
                ∙ o.kept;
            same = same-on st b c o.same same;
            start = next-cell row i at (p + 1) o.start (past-pipe row at p (Ok p) refl (sym e));
            rest = λ k m v. sym (cells-on text (sep_of text al) row s (length row) i at p seps d (view b ev k m v) (view c ev' k m v) (omega (arith, o.here)) e (by k m v) f zero-c) ∙ o.rest k m v;
          }

  module _ (at i : ℕ) (seps : Bool) (l : Align) (b : St) (ev : List ℕ) (o : Loop text row s al st ev₀ at i seps l b ev) where
    pub loop-done : length row ≤ at → (k m v : List ℕ)
        → cells (view b ev k m v) i seps false ≡ cells_of text (sep_of text al) row s (length row) 0 (cells (view st ev₀ k m v) 0 true false)
    loop-done h k m v = sym (cells-end text (sep_of text al) row s (length row - i) i at seps (view b ev k m v) h) ∙ o.rest k m v

    written : (u : Bool) → Ends row i → Written text row al (st.words - 8) (laid b l i seps u) (take b.words ev)
    written u e = record { held = o.held; own = o.own; words = o.place; alike = o.alike; ends = e }

    pub written-end : length row ≤ at → Written text row al (st.words - 8) (laid b l i seps false) (take b.words ev)
    written-end h = written false (ends-out row i at o.start h)

    pub written_last : (u : Bool) → cell_of row at ≡ row_end u → Written text row al (st.words - 8) (laid b l i seps u) (take b.words ev)
    written_last u e = written u (ends-here row i at u o.start e)
