-- Sections that a heading ends and begins, one law a return. Assumes nothing.
use Prim.Native.Nat.{ℕ, ◌+◌, ◌-◌, ◌≤◌, ◌<◌}
use mathlib.Core.Path.{◌≡◌, sym, ◌∙◌}
use mathlib.Core.Bool.{true, false}
use mathlib.Core.List.{List, [], ◌∷◌, ◌++◌}
use native.Mathlib.Omega.{arith}
use lib.ListN.{length, take, drop, get_or}
use lib.Seq.{take-take, length-take-le}
use borrow.Author.Tests.{eq-eqb, ne_eqb, le-leb, lt-leb, lt-ltb, le-ltb}
use Rattle.classes.proofs.ListLaws.{drop-take}
use Rattle.events.specs.State.{State, with_opn, with_sec, refuse_of, go}
use Rattle.events.specs.Events.{enter_of, whole_at}
use Rattle.events.specs.View.{view}
use Rattle.events.specs.declared.St.{St}
use Rattle.events.specs.declared.Node.{Node}
use Rattle.events.proofs.GoLaws.{go_on, go-stop}
use Rattle.events.proofs.EventLaws.{view-words}
use Rattle.events.proofs.OpenLaws.{at_depth}
use Rattle.moves.specs.Moves.{sections_of}
use Rattle.walk.specs.Leaf.{node, kept_of, begin_section, end_sections, section_at, section_of}

-- ---- the section that begins
module _ (level i kept : ℕ) (st : St) (ev sk l v : List ℕ) where
  pub begin-deep : 32 ≤ kept → refuse_of 7 (view st ev sk l v) ≡ begin_section level i kept (view st ev sk l v)
  unfolding begin_section
  begin-deep h = rw (le-leb 32 kept h)

  pub begin-on : kept < 32 → (a : State) → a ≡ with_sec (take kept (take st.sections v) ++ (level ∷ [])) (view st ev sk l v) → (x : Node) → x ≡ node 14 i i i 0 0 0
      → enter_of x a ≡ begin_section level i kept (view st ev sk l v)
  unfolding begin_section
  begin-on h a q x p = rw (lt-leb 32 kept h, p, q)

-- ---- those that end
module _ (kept pos word : ℕ) (st : St) (ev sk l v : List ℕ) (d : st.depth ≤ length sk) (h : st.sections ≤ length v) where
  pub end-deep : st.depth < st.sections - kept → refuse_of 7 (view st ev sk l v) ≡ end_sections kept pos word (view st ev sk l v)
  unfolding end_sections
  end-deep g =
      let p = length-take-le st.depth sk d in
      let q = length-take-le st.sections v h in
      rw (lt-ltb (length (take st.depth sk)) (length (take st.sections v) - kept) (omega arith))

  module _ (g : st.sections - kept ≤ st.depth) (left : ℕ) (e : left ≡ st.depth - (st.sections - kept)) (a : St) (ev' : List ℕ)
      (s : view a ev' sk l v ≡ sections_of pos word (take (st.depth - left) (drop left sk)) (view st ev sk l v)) where
    ending : end_sections kept pos word (view st ev sk l v) ≡ go (view a ev' sk l v) (with_opn (take left (take st.depth sk)))
    unfolding end_sections
    ending =
        let p = length-take-le st.depth sk d in
        let q = length-take-le st.sections v h in
        let z : length (take st.depth sk) - (length (take st.sections v) - kept) ≡ left = omega arith in
        rw (le-ltb (length (take st.depth sk)) (length (take st.sections v) - kept) (omega arith), z, drop-take left st.depth sk, ← s)

    pub end-stop : (a.number ≡ 0 → ⊥) → view a ev' sk l v ≡ end_sections kept pos word (view st ev sk l v)
    end-stop z = sym (ending ∙ go-stop (view a ev' sk l v) _ z)

    pub end_on : a.number ≡ 0 → view (at_depth left a) ev' sk l v ≡ end_sections kept pos word (view st ev sk l v)
    end_on z = rw (← take-take left st.depth sk (omega arith)) (sym (ending ∙ go_on (view a ev' sk l v) _ z))

-- ---- both
module _ (level i pos word kept : ℕ) (s a : State) (p : kept ≡ kept_of s.sec level (length s.sec)) (q : a ≡ end_sections kept pos word s) where
  at-step : section_at level i pos word s ≡ go a (begin_section level i kept)
  unfolding section_at
  at-step = rw (← p, ← q)

  pub at-stop : (a.number ≡ 0 → ⊥) → a ≡ section_at level i pos word s
  at-stop z = sym (at-step ∙ go-stop a _ z)

  pub at_on : a.number ≡ 0 → begin_section level i kept a ≡ section_at level i pos word s
  at_on z = sym (at-step ∙ go_on a _ z)

-- ---- where they end
module _ (level i : ℕ) (st : St) (ev sk l v : List ℕ) where
  pub section-plain : st.words ≤ length ev → st.attr ≡ 0 → section_at level i i st.words (view st ev sk l v) ≡ section_of level i (view st ev sk l v)
  unfolding section_of
  section-plain h z = rw (eq-eqb st.attr 0 z, view-words st ev h sk l v)

  pub section-part : (st.attr ≡ 0 → ⊥) → whole_at (take st.words ev) (st.attr - 1) ≡ false → refuse_of 7 (view st ev sk l v) ≡ section_of level i (view st ev sk l v)
  unfolding section_of
  section-part z w = rw (ne_eqb st.attr 0 z, w)

  pub section-attr : (st.attr ≡ 0 → ⊥) → 0 < st.attr → whole_at (take st.words ev) (st.attr - 1) ≡ true → st.attr - 1 + 8 ≤ st.words
      → (pos : ℕ) → pos ≡ get_or (take st.words ev) (st.attr - 1 + 2) 0 → section_at level i pos (st.attr - 1) (view st ev sk l v) ≡ section_of level i (view st ev sk l v)
  unfolding section_of
  section-attr z g w h pos p =
      let e : st.attr - 1 + 2 ≡ st.attr + 1 = omega arith in
      rw (ne_eqb st.attr 0 z, w, p, e)
