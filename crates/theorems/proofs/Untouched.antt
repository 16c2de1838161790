-- Steps that only write, change or cut event words, or refuse: what such words and a refusal keep, they keep. Assumes nothing.
use mathlib.Core.Path.{◌≡◌}
use mathlib.Core.Bool.{Bool, true, false, not}
use mathlib.Core.List.{List, [], ◌∷◌}
use Prim.Native.Nat.{ℕ, zero, suc, ◌+◌, ◌-◌, ◌*◌}
use native.Mathlib.Omega.{arith}
use lib.Dec.{eqb, leb, ltb}
use lib.ListN.{length, get_or}
use Rattle.classes.specs.Choice.{pick, both}
use Rattle.lines.specs.Lines.{Span}
use Rattle.trim.specs.Trim.{trim_both, part_of, trim_span}
use Rattle.markers.specs.declared.Marker.{Marker}
use Rattle.kinds.specs.declared.Kind.{Kind}
use Rattle.measure.specs.Continue.{kind_num, level_of}
use Rattle.rows.specs.Rows.{cell_of, separator_of}
use Rattle.rows.specs.declared.RowEnd.{RowEnd}
use Rattle.std.specs.Prelude.{Result, Ok, Err}
use Rattle.events.specs.State.{State, with_evs, with_opn, with_flags, refuse_of, go}
use Rattle.events.specs.Events.{width, push_of, patch_of, edit_of, cut_of, whole_at}
use Rattle.events.specs.declared.Event.{Event}
use Rattle.lists.specs.Lists.{last_list_of, retype_of}
use Rattle.moves.specs.Moves.{is_at, find_of, shift_of, all_before, sections_of}
use Rattle.walk.specs.Fields.{is_container}
use Rattle.walk.specs.Leaf.{mark, inline_of, line_event, inlines_of, kept_of}
use Rattle.walk.specs.Table.{Cells, Rows, cells, rows, align_at, caption_lines, cell_events, cell_by, cells_of, align_cells, head_of, separate_of, end_row, row_of, rows_of}
use Rattle.walk.specs.Tree.{admit_of, loose_at, loosen_of, clear_term, place_detail, move_term, term_of, settle_term}
use Rattle.walk.specs.declared.Met.{Met}
use Rattle.walk.specs.declared.Limits.{Limits}

module _ (R : State → State → Type 0) (same : (s : State) → R s s) (on : (s a r : State) → R s a → R a r → R s r)
    (events : (e : List ℕ) (s : State) → R s (with_evs e s)) (refused : (n : ℕ) → (n ≡ 7 → ⊥) → (s : State) → R s (refuse_of n s)) where
  -- ---- one step after another
  -- of two things that have a state
  un-of : {A : Type 0} (st : A → State) (b : Bool) (s : State) (x y : A) → R s (st x) → R s (st y) → R s (st (pick b x y))
  un-of st true s x y p q = p
  un-of st false s x y p q = q

  pub un-pick : (b : Bool) (s x y : State) → R s x → R s y → R s (pick b x y)
  un-pick = un-of (λ (x : State). x)

  pub un-go : (s a : State) (f : State → State) → R s a → ((x : State) → R x (f x)) → R s (go a f)
  unfolding go
  un-go s a f p q = un-pick (eqb a.number 0) s (f a) a (on s a (f a) p (q a)) p

  -- ---- events
  pub un-push : (x : Event) (s : State) → R s (push_of x s)
  unfolding push_of
  un-push x s = un-pick (leb (length s.evs + width) s.cap) s _ _ (events _ s) (refused 6 (λ e. omega (arith, e)) s)

  un-cut : (n : ℕ) (s : State) → R s (cut_of n s)
  unfolding cut_of
  un-cut n s = events _ s

  pub un-retype : (e : ℕ) (ty : Marker) (s : State) → R s (retype_of e ty s)
  unfolding retype_of patch_of
  un-retype e ty s =
      let a = pick s.loose (patch_of (e + 4) 1 s) s in
      on s a _ (un-pick s.loose s _ s (events _ s) (same s)) (events _ a)

  pub un-exits : (seven : (s : State) → R s (refuse_of 7 s)) (pos a : ℕ) (os : List ℕ) (s : State) → R s (sections_of pos a os s)
  unfolding sections_of
  un-exits seven pos a os s =
      un-pick (all_before os a 0 (length os)) s _ _
      (un-pick (leb (length s.evs + width * length os) s.cap) s _ _ (events _ s) (refused 6 (λ e. omega (arith, e)) s))
      (seven s)

  -- ---- lines
  un-inline : (i j : ℕ) (s : State) → R s (inline_of i j s)
  unfolding inline_of
  un-inline i j s = un-push _ s

  un-line : (x : Span) (s : State) → R s (line_event x s)
  unfolding line_event
  un-line x s = un-pick (ltb x.start x.end) s _ _ (un-inline x.start x.end s) (same s)

  pub un-inlines : (text : List ℕ) (k : Kind) (first : Bool) (ls : List Span) (s : State) → R s (inlines_of text k first ls s)
  unfolding inlines_of
  un-inlines text k first [] s = same s
  un-inlines text k first (l ∷ ls) s = un-go s _ _ (un-line _ s) (un-inlines text k false ls)

  pub un-caption-lines : (text : List ℕ) (first : Bool) (ls : List Span) (s : State) → R s (caption_lines text first ls s)
  unfolding caption_lines
  un-caption-lines text first [] s = same s
  un-caption-lines text first (l ∷ ls) s = un-go s _ _ (un-inline _ _ s) (un-caption-lines text false ls)

  -- ---- cells
  un-cell : (text : List ℕ) (v i p : ℕ) (s : State) → R s (cell_events text v i p s)
  unfolding cell_events
  un-cell text v i p s =
      un-go s _ _ (un-push _ s) (λ a.
      un-go a _ _ (un-inline _ _ a) (un-push _))

  un-cell-by : (text sep row : List ℕ) (base i : ℕ) (rest : ℕ → Cells → Cells) (c : Cells) (a : Result ℕ RowEnd) (s : State)
      → ((j : ℕ) (d : Cells) → R s d.st → R s (rest j d).st)
      → R s c.st
      → R s (cell_by text sep row base i rest c a).st
  un-cell-by text sep row base i rest c (Err u) s h p = p
  un-cell-by text sep row base i rest c (Ok q) s h p =
      let r = cell_events text (align_at sep c.count) (base + i) (base + q) c.st in
      let n = cells r (c.count + 1) (both c.seps (separator_of (trim_both (part_of row i q)))) false in
      let k = on s c.st r p (un-cell text (align_at sep c.count) (base + i) (base + q) c.st) in
      un-of (λ (d : Cells). d.st) (eqb r.number 0) s (rest (q + 1) n) n (h (q + 1) n k) k

  un-cells : (text sep row : List ℕ) (base k i : ℕ) (c : Cells) (s : State) → R s c.st → R s (cells_of text sep row base k i c).st
  unfolding cells_of
  un-cells text sep row base zero i c s p = p
  un-cells text sep row base (suc k) i c s p =
      un-cell-by text sep row base i (cells_of text sep row base k) c (cell_of row i) s (λ j d. un-cells text sep row base k j d s) p

  un-align : (sep : List ℕ) (r i n : ℕ) (s : State) → R s (align_cells sep r i n s)
  unfolding align_cells patch_of
  un-align sep r i zero s = same s
  un-align sep r i (suc n) s = on s _ _ (events _ s) (un-align sep r (i + 1) n _)

  un-head : (sep : List ℕ) (r n : ℕ) (s : State) → R s (head_of sep r n s)
  unfolding head_of patch_of
  un-head sep r n s = on s _ _ (un-align sep r 0 n s) (events _ _)

  -- ---- rows
  un-rows-of : (b : Bool) (s : State) (x y : Rows) → R s x.st → R s y.st → R s (pick b x y).st
  un-rows-of = un-of (λ (r : Rows). r.st)

  un-separate : (sep : List ℕ) (here : ℕ) (r : Rows) → R r.st (separate_of sep here r).st
  unfolding separate_of
  un-separate sep here r =
      let s = cut_of here r.st in
      let p = un-cut here r.st in
      un-rows-of (eqb r.last 0) r.st _ _ p (on r.st s _ p (un-head sep (r.last - 1) r.count s))

  un-end-row : (row : List ℕ) (here e : ℕ) (c : Cells) (r : Rows) → R c.st (end_row row here e c r).st
  unfolding end_row
  un-end-row row here e c r =
      un-rows-of (eqb c.st.number 0) c.st _ _
      (un-rows-of (both c.seps (not c.unclosed)) c.st _ _
      (un-separate row here (rows c.st r.sep r.last r.count))
      (un-push _ c.st))
      (same c.st)

  un-row : (text : List ℕ) (t : Span) (r : Rows) → R r.st (row_of text t r).st
  unfolding row_of
  un-row text t r =
      let x = mark 1 13 t.start (t.start + 1) 0 in
      let a = push_of x r.st in
      let row = part_of text (t.start + 1) t.end in
      let c = cells_of text r.sep row (t.start + 1) (length row) 0 (cells a 0 true false) in
      let p = un-push x r.st in
      un-rows-of (eqb a.number 0) r.st _ _
      (on r.st c.st _
      (un-cells text r.sep row (t.start + 1) (length row) 0 (cells a 0 true false) r.st p)
      (un-end-row row (length r.st.evs) t.end c r))
      p

  pub un-rows : (text : List ℕ) (ls : List Span) (r : Rows) → R r.st (rows_of text ls r).st
  unfolding rows_of
  un-rows text [] r = same r.st
  un-rows text (l ∷ ls) r =
      let t = trim_span text l.start l.end in
      let x = row_of text t r in
      let rest = rows_of text ls x in
      let p = un-row text t r in
      un-rows-of (eqb t.start t.end) r.st r (pick (eqb x.st.number 0) rest x) (same r.st)
      (un-rows-of (eqb x.st.number 0) r.st rest x (on r.st x.st rest.st p (un-rows text ls x)) p)

  -- ---- before a block's own events
  pub un-admit : (lim : Limits) (left : ℕ) (top : Bool) (m : Met) (s : State) → R s (admit_of lim left top m s)
  unfolding admit_of
  un-admit lim left top m s =
      let heading = eqb (kind_num m.kind) 5 in
      un-pick (both heading (ltb 65535 (level_of m.kind))) s _ _ (refused 5 (λ e. omega (arith, e)) s)
      (un-pick (both (is_container m.kind) (eqb left 0)) s _ _ (refused 3 (λ e. omega (arith, e)) s)
      (un-pick (both heading (both top (leb lim.sections (kept_of s.sec (level_of m.kind) (length s.sec))))) s _ _ (refused 4 (λ e. omega (arith, e)) s)
      (same s)))

  -- where the flags do not count either
  module _ (seven : (s : State) → R s (refuse_of 7 s)) (flags : (b l : Bool) (s : State) → R s (with_flags b l s)) where
    un-loose : (e : ℕ) (s : State) → R s (loose_at e s)
    unfolding loose_at patch_of
    un-loose e s =
        un-pick (whole_at s.evs e) s _ _
        (un-pick (eqb (get_or s.evs (e + 4) 0) 1) s _ _ (on s _ _ (events _ s) (flags false true (patch_of (e + 4) 0 s))) (flags false false s))
        (seven s)

    pub un-loosen : (m : Met) (s : State) → R s (loosen_of m s)
    unfolding loosen_of
    un-loosen m s =
        let o = last_list_of s in
        let off = flags false false s in
        un-pick (eqb (kind_num m.kind) 1) s _ _ (flags true s.loose s)
        (un-pick (not s.blank) s _ _ off
        (un-pick (eqb (length s.lst) 0) s _ _ off
        (un-pick (ltb (length s.opn) o.depth) s _ _ (seven s)
        (un-pick (eqb o.depth 0) s _ _ off
        (un-pick (both (eqb (kind_num m.kind) 9) (ltb o.depth (length s.opn))) s _ _ off
        (un-loose _ s))))))

  -- where the open events do not count either
  module _ (seven : (s : State) → R s (refuse_of 7 s)) (opens : (o : List ℕ) (s : State) → R s (with_opn o s)) where
    un-move : (d i x : ℕ) (s : State) → R s (move_term d i x s)
    unfolding move_term clear_term place_detail edit_of shift_of patch_of
    un-move d i x s = on s _ _ (events _ s) (opens _ (with_evs _ s))

    un-term : (d i : ℕ) (s : State) → R s (term_of d i s)
    unfolding term_of
    un-term d i s =
        let x = find_of 2 15 (i + width + width) s in
        un-pick (ltb i width) s _ _ (seven s)
        (un-pick (not (whole_at s.evs i)) s _ _ (seven s)
        (un-pick (not (whole_at s.evs (i + width))) s _ _ (seven s)
        (un-pick (not (is_at s.evs (i + width) 1 15)) s _ _ (same s)
        (un-pick (not (whole_at s.evs x)) s _ _ (seven s)
        (un-move d i x s)))))

    pub un-settle-term : (d : ℕ) (s : State) → R s (settle_term d s)
    unfolding settle_term
    un-settle-term d s = un-pick (leb (length s.opn) d) s _ _ (seven s) (un-term d _ s)
