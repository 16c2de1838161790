-- The alignments of a row's cells, where they are read again, and a cell's words. Assumes nothing.
use mathlib.Core.Path.{◌≡◌, refl, sym, ap, ◌∙◌}
use mathlib.Core.Bool.{Bool, true, false}
use mathlib.Core.List.{List, [], ◌++◌, append_assoc}
use Prim.Native.Nat.{ℕ, ◌+◌, ◌≤◌, ◌<◌}
use native.Mathlib.Omega.{arith}
use lib.Dec.{leb}
use lib.ListN.{length, take, get_or, length-append, get_or-append}
use lib.Seq.{get_or-append-add}
use borrow.Author.Tests.{eqb-false}
use borrow.Author.Count.{below_more, below_none}
use Rattle.classes.specs.Choice.{pick}
use Rattle.lines.specs.Lines.{Span}
use Rattle.trim.specs.Trim.{trim_span}
use Rattle.rows.specs.Rows.{cell_of}
use Rattle.events.specs.State.{State}
use Rattle.events.specs.Events.{width, words_of, push_of}
use Rattle.events.specs.View.{view, Same}
use Rattle.events.specs.declared.St.{St}
use Rattle.events.specs.declared.Event.{Event}
use Rattle.events.proofs.GoLaws.{go_on, go-stop}
use Rattle.walk.specs.Leaf.{mark, inline_of}
use Rattle.walk.specs.Table.{past, cell_at, align_by, align_at, cell_events, cell_word}
use Rattle.walk.proofs.LineLaws.{inlined}
use Rattle.cells.specs.Held.{sep_of, cell_words, Aligned, Place, Held, Alike}
use Rattle.cells.specs.declared.Align.{Align}
use Rattle.cells.proofs.CellLaws.{stands_at}

-- ---- the lookup
pub look-text : (text sep : List ℕ) (i v : ℕ) (al : Align) → Place text i al → al.wide ≤ i → sep ≡ sep_of text al → v ≡ align_by sep al.cur (cell_of sep al.cur) → v ≡ align_at (sep_of text al) i
look-text text sep i v al p h e q =
    q ∙ ap (λ (x : List ℕ). align_by x al.cur (cell_of x al.cur)) e ∙ p.stands.align ∙ ap (λ (k : ℕ). align_at (sep_of text al) k) (p.high h)

abbrev pub moved : Align → ℕ → ℕ → Align
moved al i n = record { s = al.s; e = al.e; cells = al.cells; row = al.row; wide = al.wide; col = i + 1; cur = n }

pub alike_same : (al : Align) → Alike al al
alike_same al = record { s = refl; e = refl; cells = refl }

pub place-row : (text : List ℕ) (i : ℕ) (al : Align) → Place text i al → i < al.wide → Place text (i + 1) al
place-row text i al p h = record {
  stands = p.stands;
  low = λ g. p.low (omega arith);
  high = λ g. p.low (omega arith) ∙ (let e : al.wide ≡ i + 1 = omega arith in e);
}

pub place-text : (text sep : List ℕ) (i n : ℕ) (al : Align) → Place text i al → al.wide ≤ i → sep ≡ sep_of text al → n ≡ past (length sep) (cell_of sep al.cur) → Place text (i + 1) (moved al i n)
place-text text sep i n al p h e q = record {
  stands = stands_at (sep_of text al) n (i + 1) (q ∙ ap (λ (x : List ℕ). past (length x) (cell_of x al.cur)) e ∙ p.stands.next ∙ ap (λ (k : ℕ). cell_at (sep_of text al) (k + 1)) (p.high h));
  low = λ g. omega arith;
  high = λ g. refl;
}

-- ---- the widest row
abbrev pub widened : Align → ℕ → ℕ → Align
widened al here n = record { s = al.s; e = al.e; cells = al.cells; row = here; wide = n; col = al.col; cur = al.cur }

pub held_kept : (al : Align) (n : ℕ) → n ≤ al.wide → (text evs : List ℕ) → Held text n al evs → Held text 0 al evs
held_kept al n h text evs p =
    let lo : al.col ≡ al.wide = p.place.low h in
    record {
      place = record { stands = p.place.stands; low = λ g. lo; high = λ g. lo ∙ omega arith };
      cells = p.cells;
    }

pub held-wider : (al : Align) (here n : ℕ) → al.wide < n → (text evs : List ℕ) → Held text n al evs → Aligned (sep_of text al) here n evs → Held text 0 (widened al here n) evs
held-wider al here n h text evs p own =
    let hi : al.col ≡ n = p.place.high (omega arith) in
    record {
      place = record { stands = p.place.stands; low = λ g. hi; high = λ g. (let w : ⊥ = omega arith in absurd w) };
      cells = own;
    }

-- ---- what was written stays
pub aligned-more : (sep : List ℕ) (r n : ℕ) (evs ws : List ℕ) → Aligned sep r n evs → Aligned sep r n (evs ++ ws)
aligned-more sep r n evs ws c j h =
    let l : length (evs ++ ws) ≡ length evs + length ws = length-append evs ws in
    let b : cell_word r j + 24 ≤ length evs = (c j h).0 in
    (omega arith, get_or-append evs ws 0 (cell_word r j + 4) (omega arith) ∙ (c j h).1, get_or-append evs ws 0 (cell_word r j + 20) (omega arith) ∙ (c j h).2)

pub held_more : (text : List ℕ) (i : ℕ) (al : Align) (evs ws : List ℕ) → Held text i al evs → Held text i al (evs ++ ws)
held_more text i al evs ws h = record { place = h.place; cells = aligned-more (sep_of text al) al.row al.wide evs ws h.cells }

pub aligned-own : (sep : List ℕ) (r n v i a b p : ℕ) (evs : List ℕ) → Aligned sep r n evs → length evs ≡ cell_word r n → v ≡ align_at sep n
    → Aligned sep r (n + 1) (evs ++ cell_words v i a b p)
aligned-own sep r n v i a b p evs c l q =
    let m : length (evs ++ cell_words v i a b p) ≡ length evs + 24 = length-append evs (cell_words v i a b p) in
    let here : (cell_word r n + 24 ≤ length (evs ++ cell_words v i a b p)) × (get_or (evs ++ cell_words v i a b p) (cell_word r n + 4) 0 ≡ align_at sep n) × (get_or (evs ++ cell_words v i a b p) (cell_word r n + 20) 0 ≡ align_at sep n) =
    (omega arith, ap (λ (k : ℕ). get_or (evs ++ cell_words v i a b p) (k + 4) 0) (sym l) ∙ get_or-append-add evs (cell_words v i a b p) 4 0 ∙ q, ap (λ (k : ℕ). get_or (evs ++ cell_words v i a b p) (k + 20) 0) (sym l) ∙ get_or-append-add evs (cell_words v i a b p) 20 0 ∙ q) in
    below_more (λ j. (cell_word r j + 24 ≤ length (evs ++ cell_words v i a b p)) × (get_or (evs ++ cell_words v i a b p) (cell_word r j + 4) 0 ≡ align_at sep j) × (get_or (evs ++ cell_words v i a b p) (cell_word r j + 20) 0 ≡ align_at sep j)) n
    (aligned-more sep r n evs (cell_words v i a b p) c) here

pub aligned-none : (sep : List ℕ) (r : ℕ) (evs : List ℕ) → Aligned sep r 0 evs
aligned-none sep r evs = below_none (λ j. (cell_word r j + 24 ≤ length evs) × (get_or evs (cell_word r j + 4) 0 ≡ align_at sep j) × (get_or evs (cell_word r j + 20) 0 ≡ align_at sep j))

pub same-same : (a : St) → Same a a
same-same a = record { depth = refl; lists = refl; sections = refl }

-- ---- events pushed
either : (P : State → Type 0) (b : Bool) (x y : State) → P x → P y → P (pick b x y)
either P true x y p q = p
either P false x y p q = q

push-grows : (x : Event) (s : State) → (push_of x s).number ≡ 0 → (push_of x s).evs ≡ s.evs ++ words_of x
unfolding push_of
push-grows x s = either (λ (r : State). r.number ≡ 0 → r.evs ≡ s.evs ++ words_of x) (leb (length s.evs + width) s.cap) _ _ (λ z. refl) (λ z. absurd (eqb-false 6 0 refl z))

pub grown : (st r : St) (ev ev' : List ℕ) (x : Event) → ((k l v : List ℕ) → view r ev' k l v ≡ push_of x (view st ev k l v)) → r.number ≡ 0
    → take r.words ev' ≡ take st.words ev ++ words_of x
grown st r ev ev' x p z =
    ap (λ (s : State). s.evs) (p [] [] []) ∙ push-grows x (view st ev [] [] []) (sym (ap (λ (s : State). s.number) (p [] [] [])) ∙ z)

-- ---- a cell, by where it stops
module _ (text : List ℕ) (v i p : ℕ) (t : Span) (e : t ≡ trim_span text i p) (st a : State) (q : a ≡ push_of (mark 1 18 i i v) st) where
  pub cell-1 : (a.number ≡ 0 → ⊥) → a ≡ cell_events text v i p st
  unfolding cell_events
  cell-1 z = sym (rw (← q) (go-stop a _ z))

  module _ (za : a.number ≡ 0) (b : State) (r : b ≡ inline_of t.start t.end a) where
    pub cell-2 : (b.number ≡ 0 → ⊥) → b ≡ cell_events text v i p st
    unfolding cell_events
    cell-2 z = sym (rw (← q) (go_on a _ za ∙ rw (← e, ← r) (go-stop b _ z)))

    pub cell-3 : b.number ≡ 0 → push_of (mark 2 18 p (p + 1) v) b ≡ cell_events text v i p st
    unfolding cell_events
    cell-3 z = sym (rw (← q) (go_on a _ za ∙ rw (← e, ← r) (go_on b _ z)))

pub marked : (x y : Event) (a s : State) → x ≡ y → a ≡ push_of x s → a ≡ push_of y s
marked x y a s e p = p ∙ ap (λ (z : Event). push_of z s) e

pub cell-grown : (st a b c : St) (ev e1 e2 e3 : List ℕ) (v i s e p : ℕ)
    → ((k l x : List ℕ) → view a e1 k l x ≡ push_of (mark 1 18 i i v) (view st ev k l x))
    → ((k l x : List ℕ) → view b e2 k l x ≡ inline_of s e (view a e1 k l x))
    → ((k l x : List ℕ) → view c e3 k l x ≡ push_of (mark 2 18 p (p + 1) v) (view b e2 k l x))
    → a.number ≡ 0 → b.number ≡ 0 → c.number ≡ 0 → take c.words e3 ≡ take st.words ev ++ cell_words v i s e p
cell-grown st a b c ev e1 e2 e3 v i s e p f g h za zb zc =
    grown b c e2 e3 (mark 2 18 p (p + 1) v) h zc
    ∙ ap (λ (l : List ℕ). l ++ words_of (mark 2 18 p (p + 1) v)) (grown a b e1 e2 (mark 3 0 s e 0) (λ k l x. g k l x ∙ sym (inlined s e (mark 3 0 s e 0) (view a e1 k l x) refl)) zb
    ∙ ap (λ (l : List ℕ). l ++ words_of (mark 3 0 s e 0)) (grown st a ev e1 (mark 1 18 i i v) f za))
    ∙ simp append_assoc
