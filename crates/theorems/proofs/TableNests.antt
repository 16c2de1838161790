-- A table's events nest three deep, the table, its rows, their cells, and its caption, and a record can hold each. Assumes nothing.
use mathlib.Core.Path.{◌≡◌, refl, sym, ap, subst, ◌∙◌}
use mathlib.Core.Bool.{Bool, true, false, not}
use mathlib.Core.List.{List, [], ◌∷◌, ◌++◌, append_assoc, append-nil}
use Prim.Native.Nat.{ℕ, zero, suc, ◌+◌, ◌-◌, ◌*◌, ◌≤◌}
use native.Mathlib.Omega.{arith}
use lib.Dec.{eqb}
use lib.ListN.{length, take, drop, length-append}
use borrow.Author.Tests.{eqb-true, eqb-false}
use Rattle.classes.specs.Choice.{pick, both}
use Rattle.lines.specs.Lines.{Span}
use Rattle.trim.specs.Trim.{trim_both, part_of, trim_span}
use Rattle.rows.specs.Rows.{cell_of, separator_of}
use Rattle.rows.specs.declared.RowEnd.{RowEnd}
use Rattle.std.specs.Prelude.{Result, Ok, Err}
use Rattle.events.specs.State.{State}
use Rattle.events.specs.Events.{width, push_of, patch_of, cut_of, enter_event, enter_of, exit_of}
use Rattle.events.specs.declared.Event.{Event}
use Rattle.walk.specs.Leaf.{node, mark, inline_of}
use Rattle.walk.specs.Table.{Cells, Rows, cells, rows, caption_line, caption_text, caption_lines, caption_of, align_at, cell_events, cell_by, cells_of, cell_word, align_cells, head_of, separate_of, end_row, row_of, rows_of, table_of}
use Rattle.walk.specs.declared.Met.{Met}
use Rattle.cells.proofs.CellLaws.{pipe-within}
use Rattle.trim.proofs.TrimLaws.{part_length}
use Rattle.theorems.proofs.LevelSteps.{passed}
use Rattle.theorems.proofs.Nests.{Whole, Fines, Frame, flat, Holds}
use Rattle.theorems.proofs.WholeLaws.{whole-none, whole_append, whole-leaf, whole_pair, closing_same, fines-append}
use Rattle.theorems.proofs.HoldLaws.{holds-words, holds-push, holds-enter, holds_as, count-more, holds-body, holds-cut}
use Rattle.theorems.proofs.Trees.{Inside}
use Rattle.theorems.proofs.FineLaws.{closing-fine}
use Rattle.theorems.proofs.Spans.{inside_take, inside-drop}
use Rattle.theorems.proofs.Grown.{Grown, grown-none, grown-more, grown-on, grown-leaf, Paired, paired-exit, grown-exit}
use Rattle.theorems.proofs.TableFine.{trimmed-inside, caption-within, align-most, inline-fine, table-fine, caption-fine, row_fine, cell-fine}

-- ---- rows of cells
-- a cell from i to the pipe p, its text from s to e, its alignment v
record Cell : Type 0 where
  i : ℕ
  p : ℕ
  s : ℕ
  e : ℕ
  v : ℕ

abbrev three : Cell → List Event
three c = mark 1 18 c.i c.i c.v ∷ mark 3 0 c.s c.e 0 ∷ mark 2 18 c.p (c.p + 1) c.v ∷ []

unfoldable threes : List Cell → List Event
threes [] = []
threes (c ∷ cs) = three c ++ threes cs

-- it stands in a text of n bytes, and its alignment is one
record Placed (n : ℕ) (c : Cell) : Type 0 where
  at : c.i ≤ n
  pipe : c.p + 1 ≤ n
  start : c.s ≤ c.e
  end : c.e ≤ n
  align : c.v ≤ 3

abbrev AllPlaced : ℕ → List Cell → Type 0
AllPlaced n [] = Unit {0}
AllPlaced n (c ∷ cs) = Placed n c × AllPlaced n cs

placed-append : (n : ℕ) (cs ds : List Cell) → AllPlaced n cs → AllPlaced n ds → AllPlaced n (cs ++ ds)
placed-append n [] ds p q = q
placed-append n (c ∷ cs) ds p q = (p.0, placed-append n cs ds p.1 q)

-- a row from i to e, a head where h is 1
abbrev across : ℕ → ℕ → ℕ → List Cell → List Event
across i e h cs = mark 1 13 i (i + 1) h ∷ (threes cs ++ (mark 2 13 e e h ∷ []))

threes-none : threes [] ≡ []
unfolding threes
threes-none = refl

threes-append : (cs ds : List Cell) → threes (cs ++ ds) ≡ threes cs ++ threes ds
unfolding threes
threes-append [] ds = refl
threes-append (c ∷ cs) ds = ap (λ (l : List Event). three c ++ l) (threes-append cs ds)

threes-more : (cs : List Cell) (c : Cell) → threes (cs ++ (c ∷ [])) ≡ threes cs ++ three c
unfolding threes
threes-more cs c = threes-append cs (c ∷ [])

threes-count : (cs : List Cell) → length (threes cs) ≡ 3 * length cs
unfolding threes
threes-count [] = refl
threes-count (c ∷ cs) = omega (arith, threes-count cs)

whole-cell : (c : Cell) → Whole 1 (three c)
whole-cell c =
    let e = mark 1 18 c.i c.i c.v in
    whole_pair 0 e (mark 2 18 c.p (c.p + 1) c.v) (mark 3 0 c.s c.e 0 ∷ []) refl (λ q. omega (arith, q)) refl (closing_same e c.p (c.p + 1))
    (whole-leaf (mark 3 0 c.s c.e 0) (λ q. omega (arith, q)) (λ q. omega (arith, q)))

whole_cells : (cs : List Cell) → Whole 1 (threes cs)
unfolding threes
whole_cells [] = whole-none 1
whole_cells (c ∷ cs) = whole_append 1 (three c) (threes cs) (whole-cell c) (whole_cells cs)

whole_row : (i e h : ℕ) (cs : List Cell) → Whole 2 (across i e h cs)
whole_row i e h cs =
    let x = mark 1 13 i (i + 1) h in
    whole_pair 1 x (mark 2 13 e e h) (threes cs) refl (λ q. omega (arith, q)) refl (closing_same x e e) (whole_cells cs)

module _ (text : List ℕ) where
  fines-cells : (cs : List Cell) → AllPlaced (length text) cs → Fines text (threes cs)
  unfolding threes
  fines-cells [] p = tt
  fines-cells (c ∷ cs) p =
      let x = p.0 in
      let e = cell-fine text c.i c.i (omega arith) x.at c.v x.align in
      let y = inline-fine text c.s c.e x.start x.end in
      let z = closing-fine text (mark 1 18 c.i c.i c.v) c.p (c.p + 1) refl e (omega arith) x.pipe in
      (e, (y, (z, fines-cells cs p.1)))

  fines-row : (i e h : ℕ) (cs : List Cell) → i + 1 ≤ length text → e ≤ length text → h ≤ 1 → AllPlaced (length text) cs → Fines text (across i e h cs)
  fines-row i e h cs a b l p =
      let x = row_fine text i (i + 1) (omega arith) a h l in
      let y = closing-fine text (mark 1 13 i (i + 1) h) e e refl x (omega arith) b in
      (x, fines-append text (threes cs) (mark 2 13 e e h ∷ []) (fines-cells cs p) (y, tt))

-- ---- a cell
cell_holds : (text : List ℕ) (v i p : ℕ) (fs : List Frame) (g : List Event) (s : State) → Holds fs g s → (cell_events text v i p s).number ≡ 0
    → Holds fs (g ++ three (record { i = i; p = p; s = (trim_span text i p).start; e = (trim_span text i p).end; v = v })) (cell_events text v i p s)
unfolding cell_events inline_of
cell_holds text v i p fs g s h =
    let t = trim_span text i p in
    let c : Cell = record { i = i; p = p; s = t.start; e = t.end; v = v } in
    let x = mark 1 18 i i v in
    let y = mark 3 0 t.start t.end 0 in
    let w = mark 2 18 p (p + 1) v in
    let a = push_of x s in
    let b = push_of y a in
    let same : ((g ++ (x ∷ [])) ++ (y ∷ [])) ++ (w ∷ []) ≡ g ++ three c = simp append_assoc in
    passed a _ (Holds fs (g ++ three c)) (λ za.
    passed b (push_of w) (Holds fs (g ++ three c)) (λ zc zd.
    holds_as fs _ (g ++ three c) (push_of w b) same
    (holds-push w fs ((g ++ (x ∷ [])) ++ (y ∷ [])) b (holds-push y fs (g ++ (x ∷ [])) a (holds-push x fs g s h za) zc) zd)))

-- ---- a head: its cells get the separator's alignments
unfoldable aligned : List ℕ → ℕ → List Cell → List Cell
aligned sep i [] = []
aligned sep i (c ∷ cs) = (record { i = c.i; p = c.p; s = c.s; e = c.e; v = align_at sep i }) ∷ aligned sep (i + 1) cs

aligned-count : (sep : List ℕ) (i : ℕ) (cs : List Cell) → length (aligned sep i cs) ≡ length cs
unfolding aligned
aligned-count sep i [] = refl
aligned-count sep i (c ∷ cs) = ap (λ (n : ℕ). suc n) (aligned-count sep (i + 1) cs)

aligned-placed : (sep : List ℕ) (n i : ℕ) (cs : List Cell) → AllPlaced n cs → AllPlaced n (aligned sep i cs)
unfolding aligned
aligned-placed sep n i [] p = tt
aligned-placed sep n i (c ∷ cs) p =
    let x = p.0 in
    (record { at = x.at; pipe = x.pipe; start = x.start; end = x.end; align = align-most sep i }, aligned-placed sep n (i + 1) cs p.1)

-- from cell i on, with g before it
align-hold : (sep : List ℕ) (r i : ℕ) (cs : List Cell) (fs : List Frame) (g ys : List Event) (s : State) → cell_word r i ≡ width * length (flat fs ++ g)
    → Holds fs (g ++ (threes cs ++ ys)) s → Holds fs (g ++ (threes (aligned sep i cs) ++ ys)) (align_cells sep r i (length cs) s)
unfolding align_cells aligned threes
align-hold sep r i [] fs g ys s e h = h
align-hold sep r i (c ∷ cs) fs g ys s e h =
    let v = align_at sep i in
    let d : Cell = record { i = c.i; p = c.p; s = c.s; e = c.e; v = v } in
    let x = mark 1 18 c.i c.i v in
    let y = mark 3 0 c.s c.e 0 in
    let w = mark 2 18 c.p (c.p + 1) c.v in
    let l = threes cs ++ ys in
    let two = g ++ (x ∷ y ∷ []) in
    let a = patch_of (cell_word r i + 4) v s in
    let b = patch_of (cell_word r i + 20) v a in
    let ha : Holds fs (g ++ (x ∷ y ∷ w ∷ l)) a = holds-body 0 v (cell_word r i + 4) fs g (mark 1 18 c.i c.i c.v) (y ∷ w ∷ l) s (omega arith) (omega (arith, e)) h in
    let ea : g ++ (x ∷ y ∷ w ∷ l) ≡ two ++ (w ∷ l) = sym (append_assoc g (x ∷ y ∷ []) (w ∷ l)) in
    let n : cell_word r i + 20 ≡ width * length (flat fs ++ two) + 4 + 0 = omega (arith, e, count-more fs g (x ∷ y ∷ [])) in
    let hb : Holds fs (two ++ (mark 2 18 c.p (c.p + 1) v ∷ l)) b = holds-body 0 v (cell_word r i + 20) fs two w l a (omega arith) n (holds_as fs _ _ a ea ha) in
    let eb : two ++ (mark 2 18 c.p (c.p + 1) v ∷ l) ≡ (g ++ three d) ++ l = simp append_assoc in
    let m : cell_word r (i + 1) ≡ width * length (flat fs ++ (g ++ three d)) = omega (arith, e, count-more fs g (three d)) in
    holds_as fs _ _ (align_cells sep r (i + 1) (length cs) b) (append_assoc g (three d) (threes (aligned sep (i + 1) cs) ++ ys))
    (align-hold sep r (i + 1) cs fs (g ++ three d) ys b m (holds_as fs _ _ b eb hb))

head-hold : (sep : List ℕ) (r i e h : ℕ) (cs : List Cell) (fs : List Frame) (g : List Event) (s : State) → r ≡ width * length (flat fs ++ g)
    → Holds fs (g ++ across i e h cs) s → Holds fs (g ++ across i e 1 (aligned sep 0 cs)) (head_of sep r (length cs) s)
unfolding head_of
head-hold sep r i e h cs fs g s n k =
    let x = mark 1 13 i (i + 1) in
    let y = mark 2 13 e e in
    let ds = aligned sep 0 cs in
    let a = align_cells sep r 0 (length cs) s in
    let b = patch_of (r + 4) 1 a in
    let one = g ++ (x h ∷ []) in
    let all = g ++ (x 1 ∷ threes ds) in
    let m : cell_word r 0 ≡ width * length (flat fs ++ one) = omega (arith, n, count-more fs g (x h ∷ [])) in
    let l = threes ds ++ (y h ∷ []) in
    let ks : Holds fs (one ++ (threes cs ++ (y h ∷ []))) s = holds_as fs _ _ s (sym (append_assoc g (x h ∷ []) (threes cs ++ (y h ∷ [])))) k in
    let ka : Holds fs (g ++ (x h ∷ l)) a = holds_as fs _ _ a (append_assoc g (x h ∷ []) l) (align-hold sep r 0 cs fs one (y h ∷ []) s m ks) in
    let kb : Holds fs (g ++ (x 1 ∷ l)) b = holds-body 0 1 (r + 4) fs g (x h) l a (omega arith) (omega (arith, n)) ka in
    let w : cell_word r (length cs) + 4 ≡ width * length (flat fs ++ all) + 4 + 0 = omega (arith, n, count-more fs g (x 1 ∷ threes ds), threes-count ds, aligned-count sep 0 cs) in
    holds_as fs _ _ (patch_of (cell_word r (length cs) + 4) 1 b) (append_assoc g (x 1 ∷ threes ds) (y 1 ∷ []))
    (holds-body 0 1 (cell_word r (length cs) + 4) fs all (y h) [] b (omega arith) w (holds_as fs _ _ b (sym (append_assoc g (x 1 ∷ threes ds) (y h ∷ []))) kb))

module _ (text : List ℕ) where
  -- ---- the caption
  inline-grown : (h i j : ℕ) (fs : List Frame) (g : List Event) (s : State) → i ≤ j → j ≤ length text → Holds fs g s → (inline_of i j s).number ≡ 0 → Grown text h fs g (inline_of i j s)
  unfolding inline_of
  inline-grown h i j fs g s a b = grown-leaf text h (mark 3 0 i j 0) fs g s (λ e. omega (arith, e)) (λ e. omega (arith, e)) (inline-fine text i j a b)

  pub lines-grown : (first : Bool) (ls : List Span) (fs : List Frame) (g : List Event) (s : State) → Inside text ls → Holds fs g s → (caption_lines text first ls s).number ≡ 0
      → Grown text 0 fs g (caption_lines text first ls s)
  unfolding caption_lines
  lines-grown first [] fs g s w h z = grown-none text 0 fs g s h
  lines-grown first (l ∷ ls) fs g s w h z =
      let b = caption_text text first (eqb (length ls) 0) l in
      let i = caption-within text first (eqb (length ls) 0) l w.0 w.1 in
      passed (inline_of b.start b.end s) (caption_lines text false ls) (Grown text 0 fs g) (λ za zb.
      let p = inline-grown 0 b.start b.end fs g s i.0 i.1 h za in
      grown-on text 0 fs g (inline_of b.start b.end s) _ p (lines-grown false ls fs (g ++ p.more) _ w.2 p.holds zb)) z

  -- a block's span, and that of its Exit
  pub record Spans (m : Met) : Type 0 where
    pub start : m.start ≤ m.end
    pub end : m.end ≤ length text
    pub from : m.from ≤ m.to
    pub to : m.to ≤ length text

  pub caption-grown : (m : Met) (ls : List Span) (fs : List Frame) (g : List Event) (s : State) → Spans m → Inside text ls → Holds fs g s → (caption_of text m ls s).number ≡ 0
      → Grown text 1 fs g (caption_of text m ls s)
  unfolding caption_of
  caption-grown m [] fs g s v w h z = grown-none text 1 fs g s h
  caption-grown m (l ∷ ls) fs g s v w h z =
      let x = node 19 m.start m.end 0 0 0 0 in
      let f : Frame = record { before = g; enter = enter_event x } in
      let e = caption-fine text m.start m.end v.start v.end in
      passed (enter_of x s) _ (Grown text 1 fs g) (λ za.
      passed (caption_lines text true (l ∷ ls) (enter_of x s)) (exit_of m.from m.to) (Grown text 1 fs g) (λ zc zd.
      grown-exit text 0 m.from m.to (enter_event x) fs g _ refl (λ e. omega (arith, e)) e v.from v.to
      (lines-grown true (l ∷ ls) (f ∷ fs) [] (enter_of x s) w (holds-enter x fs g s h za) zc) zd)) z

  -- ---- the cells of a row that is begun
  -- behind g there are these cells, and they are counted
  record Celled (fs : List Frame) (g : List Event) (c : Cells) : Type 0 where
    all : List Cell
    holds : Holds fs (g ++ threes all) c.st
    count : length all ≡ c.count
    placed : AllPlaced (length text) all

  -- one cell more, given that the rest keeps it so
  module _ (sep row : List ℕ) (base i : ℕ) (w : base + length row ≤ length text) (fs : List Frame) (g : List Event) (rest : ℕ → Cells → Cells) (c : Cells) (h : Celled fs g c)
      (k : (j : ℕ) (n : Cells) → Celled fs g n → (rest j n).st.number ≡ 0 → Celled fs g (rest j n)) where
    cell-on : (p : ℕ) (b u : Bool) → cell_of row i ≡ Ok p → let s = cell_events text (align_at sep c.count) (base + i) (base + p) c.st in s.number ≡ 0 → Celled fs g (cells s (c.count + 1) b u)
    cell-on p b u a z =
        let v = align_at sep c.count in
        let s = cell_events text v (base + i) (base + p) c.st in
        let t = trim_span text (base + i) (base + p) in
        let d : Cell = record { i = base + i; p = base + p; s = t.start; e = t.end; v = v } in
        let o = pipe-within row i p a in
        let y = trimmed-inside text (base + i) (base + p) (omega (arith, o.0)) in
        let x : Placed (length text) d = record {
          at = omega (arith, o.0, o.1, w);
          pipe = omega (arith, o.1, w);
          start = y.0;
          end = omega (arith, y.1, o.1, w);
          align = align-most sep c.count;
        } in
        let l = threes h.all in
        let e : (g ++ l) ++ three d ≡ g ++ threes (h.all ++ (d ∷ [])) = append_assoc g l (three d) ∙ ap (λ (x : List Event). g ++ x) (sym (threes-more h.all d)) in
        record {
          all = h.all ++ (d ∷ []);
          holds = holds_as fs _ _ s e (cell_holds text v (base + i) (base + p) fs (g ++ threes h.all) c.st h.holds z);
          count = omega (arith, length-append h.all (d ∷ []), h.count);
          placed = placed-append (length text) h.all (d ∷ []) h.placed (x, tt);
        }

    by-cell : (x : Result ℕ RowEnd) → cell_of row i ≡ x → (cell_by text sep row base i rest c x).st.number ≡ 0 → Celled fs g (cell_by text sep row base i rest c x)
    by-cell (Err u) a z = record { all = h.all; holds = h.holds; count = h.count; placed = h.placed }
    by-cell (Ok p) a z = by-case (eqb s.number 0) refl z
      where
        s : State
        s = cell_events text (align_at sep c.count) (base + i) (base + p) c.st

        n : Cells
        n = cells s (c.count + 1) (both c.seps (separator_of (trim_both (part_of row i p)))) false

        by-case : (b : Bool) → eqb s.number 0 ≡ b → (pick b (rest (p + 1) n) n).st.number ≡ 0 → Celled fs g (pick b (rest (p + 1) n) n)
        by-case true q r = k (p + 1) n (cell-on p _ _ a (eqb-true s.number 0 q)) r
        by-case false q r = absurd (eqb-false s.number 0 q r)

  cells-hold : (sep row : List ℕ) (base k i : ℕ) (fs : List Frame) (g : List Event) (c : Cells) → base + length row ≤ length text → Celled fs g c → (cells_of text sep row base k i c).st.number ≡ 0
      → Celled fs g (cells_of text sep row base k i c)
  unfolding cells_of
  cells-hold sep row base zero i fs g c w h z = h
  cells-hold sep row base (suc k) i fs g c w h z =
      by-cell sep row base i w fs g (cells_of text sep row base k) c h (λ j n. cells-hold sep row base k j fs g n w) (cell_of row i) refl z

  -- ---- the rows so far
  -- a row's ends are in the text, and its flag is one
  abbrev Lies : ℕ → ℕ → ℕ → Type 0
  Lies i e h = (i + 1 ≤ length text) × (e ≤ length text) × (h ≤ 1)

  -- the last of them: what is before it, and its cells
  record Ends (fs : List Frame) (g more : List Event) (last count : ℕ) : Type 0 where
    front : List Event
    i : ℕ
    e : ℕ
    h : ℕ
    all : List Cell
    whole : Whole 2 front
    fines : Fines text front
    lies : Lies i e h
    placed : AllPlaced (length text) all
    same : more ≡ front ++ across i e h all
    place : last ≡ suc (width * length (flat fs ++ (g ++ front)))
    counted : length all ≡ count

  -- behind g there are rows, and where one is the last they end with it
  record Rowed (fs : List Frame) (g : List Event) (r : Rows) : Type 0 where
    more : List Event
    holds : Holds fs (g ++ more) r.st
    whole : Whole 2 more
    fines : Fines text more
    ends : (r.last ≡ 0 → ⊥) → Ends fs g more r.last r.count

  -- a row that is closed is the last
  rowed-last : (fs : List Frame) (g front : List Event) (i e h n : ℕ) (cs : List Cell) (s : State) (sep : List ℕ) (count : ℕ) → Whole 2 front → Fines text front
      → Lies i e h → AllPlaced (length text) cs → n ≡ suc (width * length (flat fs ++ (g ++ front))) → length cs ≡ count
      → Holds fs ((g ++ front) ++ across i e h cs) s → Rowed fs g (rows s sep n count)
  rowed-last fs g front i e h n cs s sep count w f u v p q k = record {
    more = front ++ across i e h cs;
    holds = holds_as fs _ _ s (append_assoc g front (across i e h cs)) k;
    whole = whole_append 2 front (across i e h cs) w (whole_row i e h cs);
    fines = fines-append text front (across i e h cs) f (fines-row text i e h cs u.0 u.1 u.2 v);
    ends = λ z. record { front = front; i = i; e = e; h = h; all = cs; whole = w; fines = f; lies = u; placed = v; same = refl; place = p; counted = q };
  }

  -- a separator's events ys are cut off again
  separate-rowed : (sep : List ℕ) (here : ℕ) (fs : List Frame) (g more ys : List Event) (r : Rows) → here ≡ width * length (flat fs ++ (g ++ more)) → Holds fs ((g ++ more) ++ ys) r.st
      → Whole 2 more → Fines text more → ((r.last ≡ 0 → ⊥) → Ends fs g more r.last r.count) → Rowed fs g (separate_of sep here r)
  unfolding separate_of
  separate-rowed sep here fs g more ys r n h w f l = by-case (eqb r.last 0) refl (holds-cut here fs (g ++ more) ys r.st n h)
    where
      s : State
      s = cut_of here r.st

      by-case : (b : Bool) → eqb r.last 0 ≡ b → Holds fs (g ++ more) s → Rowed fs g (pick b (rows s sep 0 0) (rows (head_of sep (r.last - 1) r.count s) sep r.last r.count))
      by-case true q k = record { more = more; holds = k; whole = w; fines = f; ends = λ z. absurd (z refl) }
      by-case false q k =
          let x = l (eqb-false r.last 0 q) in
          let row = across x.i x.e x.h x.all in
          let ds = aligned sep 0 x.all in
          let a : g ++ more ≡ (g ++ x.front) ++ row = ap (λ (t : List Event). g ++ t) x.same ∙ sym (append_assoc g x.front row) in
          let p = head-hold sep (r.last - 1) x.i x.e x.h x.all fs (g ++ x.front) s (omega (arith, x.place)) (holds_as fs _ _ s a k) in
          rowed-last fs g x.front x.i x.e 1 r.last ds (head_of sep (r.last - 1) r.count s) sep r.count x.whole x.fines
          (x.lies.0, x.lies.1, omega arith) (aligned-placed sep (length text) 0 x.all x.placed) x.place (aligned-count sep 0 x.all ∙ x.counted)
          (subst (λ (m : ℕ). Holds fs ((g ++ x.front) ++ across x.i x.e 1 ds) (head_of sep (r.last - 1) m s)) x.counted p)

  -- the row that begins at i, its cells written
  end-rowed : (row : List ℕ) (here i e : ℕ) (fs : List Frame) (g : List Event) (c : Cells) (r : Rows) (p : Rowed fs g r) → here ≡ width * length (flat fs ++ (g ++ p.more))
      → Lies i e 0 → (c.st.number ≡ 0 → Celled fs ((g ++ p.more) ++ (mark 1 13 i (i + 1) 0 ∷ [])) c) → (end_row row here e c r).st.number ≡ 0 → Rowed fs g (end_row row here e c r)
  unfolding end_row
  end-rowed row here i e fs g c r p n u k z = by-case (eqb c.st.number 0) refl z
    where
      apart : Rows
      apart = separate_of row here (rows c.st r.sep r.last r.count)

      closed : Rows
      closed = rows (push_of (mark 2 13 e e 0) c.st) r.sep (here + 1) c.count

      stopped : Rows
      stopped = rows c.st r.sep r.last r.count

      x : Event
      x = mark 1 13 i (i + 1) 0

      by_kind : (b : Bool) → Celled fs ((g ++ p.more) ++ (x ∷ [])) c → (pick b apart closed).st.number ≡ 0 → Rowed fs g (pick b apart closed)
      by_kind true q y =
          separate-rowed row here fs g p.more (x ∷ threes q.all) (rows c.st r.sep r.last r.count) n
          (holds_as fs _ _ c.st (append_assoc (g ++ p.more) (x ∷ []) (threes q.all)) q.holds) p.whole p.fines p.ends
      by_kind false q y =
          let l = ((g ++ p.more) ++ (x ∷ [])) ++ threes q.all in
          let a : l ++ (mark 2 13 e e 0 ∷ []) ≡ (g ++ p.more) ++ across i e 0 q.all = simp append_assoc in
          rowed-last fs g p.more i e 0 (here + 1) q.all (push_of (mark 2 13 e e 0) c.st) r.sep c.count p.whole p.fines u q.placed (omega (arith, n)) q.count
          (holds_as fs _ _ (push_of (mark 2 13 e e 0) c.st) a (holds-push (mark 2 13 e e 0) fs l c.st q.holds y))

      by-case : (b : Bool) → eqb c.st.number 0 ≡ b → (pick b (pick (both c.seps (not c.unclosed)) apart closed) stopped).st.number ≡ 0
          → Rowed fs g (pick b (pick (both c.seps (not c.unclosed)) apart closed) stopped)
      by-case true q y = by_kind (both c.seps (not c.unclosed)) (k (eqb-true c.st.number 0 q)) y
      by-case false q y = absurd (eqb-false c.st.number 0 q y)

  row-rowed : (t : Span) (fs : List Frame) (g : List Event) (r : Rows) → t.start + 1 ≤ t.end → t.end ≤ length text → Rowed fs g r → (row_of text t r).st.number ≡ 0 → Rowed fs g (row_of text t r)
  unfolding row_of
  row-rowed t fs g r u v p z = by-case (eqb a.number 0) refl z
    where
      x : Event
      x = mark 1 13 t.start (t.start + 1) 0

      a : State
      a = push_of x r.st

      row : List ℕ
      row = part_of text (t.start + 1) t.end

      c : Cells
      c = cells_of text r.sep row (t.start + 1) (length row) 0 (cells a 0 true false)

      begun : a.number ≡ 0 → Celled fs ((g ++ p.more) ++ (x ∷ [])) (cells a 0 true false)
      begun q =
          let l = (g ++ p.more) ++ (x ∷ []) in
          let e = sym (append-nil l) ∙ ap (λ (m : List Event). l ++ m) (sym threes-none) in
          record { all = []; holds = holds_as fs _ _ a e (holds-push x fs (g ++ p.more) r.st p.holds q); count = refl; placed = tt }

      by-case : (b : Bool) → eqb a.number 0 ≡ b → (pick b (end_row row (length r.st.evs) t.end c r) (rows a r.sep r.last r.count)).st.number ≡ 0
          → Rowed fs g (pick b (end_row row (length r.st.evs) t.end c r) (rows a r.sep r.last r.count))
      by-case true q y =
          end-rowed row (length r.st.evs) t.start t.end fs g c r p (holds-words fs (g ++ p.more) r.st p.holds) (omega (arith, u, v), v, omega arith)
          (cells-hold r.sep row (t.start + 1) (length row) 0 fs ((g ++ p.more) ++ (x ∷ [])) (cells a 0 true false)
          (omega (arith, u, v, (part_length text (t.start + 1) t.end).0)) (begun (eqb-true a.number 0 q))) y
      by-case false q y = absurd (eqb-false a.number 0 q y)

  rows-rowed : (ls : List Span) (fs : List Frame) (g : List Event) (r : Rows) → Inside text ls → Rowed fs g r → (rows_of text ls r).st.number ≡ 0 → Rowed fs g (rows_of text ls r)
  unfolding rows_of
  rows-rowed [] fs g r w p z = p
  rows-rowed (l ∷ ls) fs g r w p z =
      let t = trim_span text l.start l.end in
      let x = row_of text t r in
      let i = trimmed-inside text l.start l.end w.0 in
      by-blank (eqb t.start t.end) x (λ q. row-rowed t fs g r (omega (arith, i.0, eqb-false t.start t.end q)) (omega (arith, i.1, w.1)) p) (rows-rowed ls fs g x w.2) z
    where
      by-case : (b : Bool) (x : Rows) → eqb x.st.number 0 ≡ b → (x.st.number ≡ 0 → Rowed fs g x) → (Rowed fs g x → (rows_of text ls x).st.number ≡ 0 → Rowed fs g (rows_of text ls x))
          → (pick b (rows_of text ls x) x).st.number ≡ 0 → Rowed fs g (pick b (rows_of text ls x) x)
      by-case true x q one rest y = rest (one (eqb-true x.st.number 0 q)) y
      by-case false x q one rest y = absurd (eqb-false x.st.number 0 q y)

      by-blank : (b : Bool) (x : Rows) → (b ≡ false → x.st.number ≡ 0 → Rowed fs g x) → (Rowed fs g x → (rows_of text ls x).st.number ≡ 0 → Rowed fs g (rows_of text ls x))
          → (pick b r (pick (eqb x.st.number 0) (rows_of text ls x) x)).st.number ≡ 0 → Rowed fs g (pick b r (pick (eqb x.st.number 0) (rows_of text ls x) x))
      by-blank true x one rest y = p
      by-blank false x one rest y = by-case (eqb x.st.number 0) x refl (one refl) rest y

  -- ---- the table
  pub rows_grown : (ls : List Span) (fs : List Frame) (g : List Event) (s : State) → Inside text ls → Holds fs g s → (rows_of text ls (rows s [] 0 0)).st.number ≡ 0
      → Grown text 2 fs g (rows_of text ls (rows s [] 0 0)).st
  rows_grown ls fs g s w h z =
      let k = holds_as fs g (g ++ []) s (sym (append-nil g)) h in
      let p = rows-rowed ls fs g (rows s [] 0 0) w (record { more = []; holds = k; whole = whole-none 2; fines = tt; ends = λ e. absurd (e refl) }) z in
      record { more = p.more; holds = p.holds; whole = p.whole; fines = p.fines }

  table-spans : (m : Met) (ls : List Span) (fs : List Frame) (g : List Event) (s : State) → Spans m → Inside text ls → Holds fs g s → (table_of text m ls s).number ≡ 0
      → Paired text 3 (mark 1 12 m.start m.end 0) fs g (table_of text m ls s)
  unfolding table_of
  table-spans m ls fs g s v w h =
      let c = caption_line text ls in
      let x = node 12 m.start m.end 0 0 0 0 in
      let f : Frame = record { before = g; enter = enter_event x } in
      let o = table-fine text m.start m.end v.start v.end in
      let a = enter_of x s in
      let b = caption_of text m (drop c ls) a in
      let d = (rows_of text (take c ls) (rows b [] 0 0)).st in
      let P : State → Type 0 = Paired text 3 (enter_event x) fs g in
      passed a _ P (λ za.
      passed b _ P (λ zc.
      passed d (exit_of m.from m.to) P (λ ze zf.
      let p = grown-more text 1 2 (f ∷ fs) [] b (omega arith) (caption-grown m (drop c ls) (f ∷ fs) [] a v (inside-drop text c ls w) (holds-enter x fs g s h za) zc) in
      let q = rows_grown (take c ls) (f ∷ fs) p.more b (inside_take text c ls w) p.holds ze in
      paired-exit text 2 m.from m.to (enter_event x) fs g d refl (λ e. omega (arith, e)) o v.from v.to (grown-on text 2 (f ∷ fs) [] b d p q) zf)))

module _ (text : List ℕ) (m : Met) (ls : List Span) (fs : List Frame) (g : List Event) (s : State)
    (a : m.start ≤ m.end) (b : m.end ≤ length text) (c : m.from ≤ m.to) (d : m.to ≤ length text) (w : Inside text ls) (h : Holds fs g s) (z : (table_of text m ls s).number ≡ 0) where
  -- the first of its events is its Enter
  pub table-paired : Paired text 3 (mark 1 12 m.start m.end 0) fs g (table_of text m ls s)
  table-paired = table-spans text m ls fs g s (record { start = a; end = b; from = c; to = d }) w h z
