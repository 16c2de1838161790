-- The term of a description item, one law a return. Assumes nothing.
use Prim.Native.Nat.{ℕ, ◌+◌, ◌-◌, ◌≤◌, ◌<◌}
use mathlib.Core.Path.{◌≡◌, ap, ◌∙◌}
use mathlib.Core.Bool.{true, false}
use mathlib.Core.List.{List}
use native.Mathlib.Omega.{arith}
use lib.Dec.{eqb}
use lib.ListN.{length, take, get_or, set}
use borrow.Author.Tests.{eq-eqb, ne_eqb, lt-ltb, le-ltb, le-leb, lt-leb}
use Rattle.classes.specs.Choice.{pick}
use Rattle.events.specs.State.{State, with_opn, refuse_of}
use Rattle.events.specs.Events.{width, patch_of, edit_of, whole_at}
use Rattle.events.specs.View.{view}
use Rattle.events.specs.declared.St.{St}
use Rattle.events.specs.declared.Event.{Event}
use Rattle.events.proofs.EventLaws.{view-words}
use Rattle.moves.specs.Moves.{is_at, find_of, other_of, shift_of}
use Rattle.walk.specs.Leaf.{mark}
use Rattle.walk.specs.Tree.{stale, clear_term, detail_start, place_detail, move_term, term_of, settle_term}

-- ---- the steps
pub cleared : (i x : ℕ) (s a b c : State) (m n : Event) → a ≡ patch_of (x + 1) 17 s → m ≡ stale → b ≡ edit_of (i + width) m a → n ≡ stale → c ≡ edit_of (i - width) n b
    → c ≡ clear_term i x s
unfolding clear_term
cleared i x s a b c m n p em q en r =
    let q' : b ≡ edit_of (i + width) stale (patch_of (x + 1) 17 s) = q ∙ ap (λ (y : Event). edit_of (i + width) y a) em ∙ ap (λ (y : State). edit_of (i + width) stale y) p in
    r ∙ ap (λ (y : Event). edit_of (i - width) y b) en ∙ ap (λ (y : State). edit_of (i - width) stale y) q'

module _ (st : St) (ev : List ℕ) (h : st.words ≤ length ev) (f : ℕ) (k l v : List ℕ) where
  pub start-at : f + width ≤ st.words → get_or (take st.words ev) (f + 2) 0 ≡ detail_start f (view st ev k l v)
  unfolding detail_start
  start-at g =
      let q = view-words st ev h k l v in
      rw (le-leb (f + width) (length (take st.words ev)) (omega arith))

  pub start-end : whole_at (take st.words ev) f ≡ false → get_or (take st.words ev) (st.words - width + 3) 0 ≡ detail_start f (view st ev k l v)
  unfolding detail_start
  start-end e = rw (e, view-words st ev h k l v)

pub placed : (d i f pos : ℕ) (s a b : State) (m : Event) → pos ≡ detail_start f s → a ≡ shift_of i (f - (i + width)) s → m ≡ mark 1 10 pos pos 0 → b ≡ edit_of (f - width) m a
    → with_opn (set b.opn d (f - width)) b ≡ place_detail d i f s
unfolding place_detail
placed d i f pos s a b m p q em r =
    let e : b ≡ edit_of (f - width) (mark 1 10 (detail_start f s) (detail_start f s) 0) (shift_of i (f - (i + width)) s) =
    r ∙ ap (λ (y : Event). edit_of (f - width) y a) (em ∙ ap (λ (n : ℕ). mark 1 10 n n 0) p) ∙ ap (λ (y : State). edit_of (f - width) (mark 1 10 (detail_start f s) (detail_start f s) 0) y) q in
    ap (λ (y : State). with_opn (set y.opn d (f - width)) y) e

pub moved : (d i x f : ℕ) (s a b : State) → a ≡ clear_term i x s → f ≡ other_of 4 1 (x + width) a → b ≡ place_detail d i f a → b ≡ move_term d i x s
unfolding move_term
moved d i x f s a b p q r = r ∙ ap (λ (n : ℕ). place_detail d i n a) q ∙ ap (λ (y : State). place_detail d i (other_of 4 1 (x + width) y) y) p

-- ---- whether there is a term
module _ (d i : ℕ) (s : State) where
  pub term-front : i < 8 → refuse_of 7 s ≡ term_of d i s
  unfolding term_of
  term-front g = rw (lt-ltb i 8 g)

  module _ (g : 8 ≤ i) where
    pub term-part : whole_at s.evs i ≡ false → refuse_of 7 s ≡ term_of d i s
    unfolding term_of
    term-part e = rw (le-ltb i 8 g, e)

    module _ (e1 : whole_at s.evs i ≡ true) where
      pub term-alone : whole_at s.evs (i + width) ≡ false → refuse_of 7 s ≡ term_of d i s
      unfolding term_of
      term-alone e = rw (le-ltb i 8 g, e1, e)

      module _ (e2 : whole_at s.evs (i + width) ≡ true) where
        pub term-none : is_at s.evs (i + width) 1 15 ≡ false → s ≡ term_of d i s
        unfolding term_of
        term-none e = rw (le-ltb i 8 g, e1, e2, e)

        module _ (e3 : is_at s.evs (i + width) 1 15 ≡ true) (x : ℕ) (p : x ≡ find_of 2 15 (i + width + width) s) where
          pub term-endless : whole_at s.evs x ≡ false → refuse_of 7 s ≡ term_of d i s
          unfolding term_of
          term-endless e = rw (le-ltb i 8 g, e1, e2, e3, ← p, e)

          pub term_moved : whole_at s.evs x ≡ true → move_term d i x s ≡ term_of d i s
          unfolding term_of
          term_moved e = rw (le-ltb i 8 g, e1, e2, e3, ← p, e)

-- ---- at the item's end
module _ (n d : ℕ) (s : State) where
  pub settle_other : (n ≡ 4 → ⊥) → s ≡ pick (eqb n 4) (settle_term d s) s
  settle_other ne = rw (ne_eqb n 4 ne)

  module _ (e : n ≡ 4) where
    pub settle-outside : length s.opn ≤ d → refuse_of 7 s ≡ pick (eqb n 4) (settle_term d s) s
    unfolding settle_term
    settle-outside h = rw (eq-eqb n 4 e, le-leb (length s.opn) d h)

    pub settle-item : (i : ℕ) → d < length s.opn → i ≡ get_or s.opn d 0 → term_of d i s ≡ pick (eqb n 4) (settle_term d s) s
    unfolding settle_term
    settle-item i h p = rw (eq-eqb n 4 e, lt-leb (length s.opn) d h, p)
