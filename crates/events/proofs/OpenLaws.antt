-- The stack of open events: an Enter pushed, an Exit popped. Assumes nothing.
use Prim.Native.Nat.{ℕ, suc, ◌+◌, ◌-◌, ◌≤◌, ◌<◌}
use mathlib.Core.Path.{◌≡◌, sym, ◌∙◌}
use mathlib.Core.Bool.{true, false}
use mathlib.Core.List.{List, [], ◌∷◌, ◌++◌}
use native.Mathlib.Omega.{arith}
use lib.ListN.{length, take, get_or, set}
use lib.Seq.{take-take, length-take-le, take-suc-set, take-set-lt, get_or-take}
use borrow.Author.Tests.{eq-eqb, ne_eqb, le-leb, lt-leb}
use Rattle.events.specs.State.{with_opn, with_sec, refuse_of, go}
use Rattle.events.specs.Events.{width, push_of, enter_event, exit_event, enter_of, whole_at, close_of, exit_of}
use Rattle.events.specs.View.{view}
use Rattle.events.specs.declared.St.{St}
use Rattle.events.specs.declared.Node.{Node}
use Rattle.events.proofs.GoLaws.{go_on, go-stop}
use Rattle.events.proofs.EventLaws.{view-words}

abbrev pub at_depth : ℕ → St → St
at_depth n s = record { words = s.words; depth = n; lists = s.lists; sections = s.sections; attr = s.attr; blank = s.blank; loose = s.loose; spare = s.spare; looks = s.looks; at = s.at; number = s.number }

view-depth : (st : St) (e k l v : List ℕ) → st.depth ≤ length k → length (view st e k l v).opn ≡ st.depth
view-depth st e k l v h = length-take-le st.depth k h

pub open-view : (st : St) (e k : List ℕ) (d o : ℕ) (l v : List ℕ) → d < st.depth → view st e (set k d o) l v ≡ with_opn (set (take st.depth k) d o) (view st e k l v)
open-view st e k d o l v h = rw (take-set-lt st.depth k d o h)

-- ---- sections
abbrev pub at_sections : ℕ → St → St
at_sections n s = record { words = s.words; depth = s.depth; lists = s.lists; sections = n; attr = s.attr; blank = s.blank; loose = s.loose; spare = s.spare; looks = s.looks; at = s.at; number = s.number }

pub level-view : (st : St) (n level : ℕ) (e k l v : List ℕ) → n ≤ st.sections → n < length v
    → view (at_sections (n + 1) st) e k l (set v n level) ≡ with_sec (take n (take st.sections v) ++ (level ∷ [])) (view st e k l v)
level-view st n level e k l v h g =
    let i : n + 1 ≡ suc n = omega arith in
    let more : take (n + 1) (set v n level) ≡ take n (take st.sections v) ++ (level ∷ []) = rw (i, take-take n st.sections v h) (take-suc-set v n level g) in
    rw more

-- ---- Enter
module _ (st : St) (ev sk : List ℕ) (d : st.depth ≤ length sk) (x : Node) (l v : List ℕ) where
  pub enter-full : 128 ≤ st.depth → refuse_of 7 (view st ev sk l v) ≡ enter_of x (view st ev sk l v)
  unfolding enter_of
  enter-full h = let q = view-depth st ev sk l v d in rw (le-leb 128 (length (take st.depth sk)) (omega arith))

  opening : st.depth < 128 → enter_of x (view st ev sk l v) ≡ go (push_of (enter_event x) (view st ev sk l v)) (with_opn (take st.depth sk ++ (length (take st.words ev) ∷ [])))
  unfolding enter_of
  opening h = let q = view-depth st ev sk l v d in rw (lt-leb 128 (length (take st.depth sk)) (omega arith))

  module _ (h : st.depth < 128) (a : St) (ev' : List ℕ) (p : view a ev' sk l v ≡ push_of (enter_event x) (view st ev sk l v)) where
    pub enter-stop : (a.number ≡ 0 → ⊥) → view a ev' sk l v ≡ enter_of x (view st ev sk l v)
    enter-stop z = sym (opening h ∙ rw (← p) (go-stop (view a ev' sk l v) _ z))

    pub enter-on : st.words ≤ length ev → st.depth < length sk → a.number ≡ 0
        → view (at_depth (st.depth + 1) a) ev' (set sk st.depth st.words) l v ≡ enter_of x (view st ev sk l v)
    enter-on w g z =
        let q = view-words st ev w sk l v in
        let e : st.depth + 1 ≡ suc st.depth = omega arith in
        let more : take (st.depth + 1) (set sk st.depth st.words) ≡ take st.depth sk ++ (length (take st.words ev) ∷ []) = rw (q, e) (take-suc-set sk st.depth st.words g) in
        rw more (sym (opening h ∙ rw (← p) (go_on (view a ev' sk l v) _ z)))

-- ---- Exit
module _ (st : St) (ev sk : List ℕ) (i j : ℕ) (l v : List ℕ) where
  pub exit-empty : st.depth ≡ 0 → refuse_of 7 (view st ev sk l v) ≡ exit_of i j (view st ev sk l v)
  unfolding exit_of
  exit-empty e = rw e

  module _ (w : st.words ≤ length ev) (d : st.depth ≤ length sk) (ne : st.depth ≡ 0 → ⊥) where
    closing : exit_of i j (view st ev sk l v) ≡ close_of i j (get_or sk (st.depth - 1) 0) (view st ev sk l v)
    unfolding exit_of
    closing =
        let q = view-depth st ev sk l v d in
        let t : get_or (take st.depth sk) (st.depth - 1) 0 ≡ get_or sk (st.depth - 1) 0 = get_or-take st.depth sk (st.depth - 1) 0 (omega arith) in
        rw (ne_eqb (length (take st.depth sk)) 0 (λ z. ne (sym q ∙ z)), q, t)

    pub exit-part : whole_at (take st.words ev) (get_or sk (st.depth - 1) 0) ≡ false → refuse_of 7 (view st ev sk l v) ≡ exit_of i j (view st ev sk l v)
    unfolding close_of
    exit-part e = sym (closing ∙ rw e)

    module _ (o : ℕ) (oe : o ≡ get_or sk (st.depth - 1) 0) (f : o + width ≤ st.words) where
      whole_here : whole_at (take st.words ev) o ≡ true
      whole_here = let q = view-words st ev w sk l v in le-leb (o + width) (length (take st.words ev)) (omega arith)

      role : get_or (take st.words ev) o 0 ≡ get_or ev o 0
      role = get_or-take st.words ev o 0 (omega arith)

      pub exit-other : (get_or ev o 0 ≡ 1 → ⊥) → refuse_of 7 (view st ev sk l v) ≡ exit_of i j (view st ev sk l v)
      unfolding close_of
      exit-other n = sym (closing ∙ rw (← oe, whole_here, role, ne_eqb (get_or ev o 0) 1 n))

      module _ (r : get_or ev o 0 ≡ 1) (a : St) (ev' : List ℕ) (p : view a ev' sk l v ≡ push_of (exit_event (take st.words ev) o i j) (view st ev sk l v)) where
        pushing : exit_of i j (view st ev sk l v) ≡ go (view a ev' sk l v) (with_opn (take (length (take st.depth sk) - 1) (take st.depth sk)))
        unfolding close_of
        pushing = closing ∙ rw (← oe, whole_here, role, eq-eqb (get_or ev o 0) 1 r, ← p)

        pub exit-stop : (a.number ≡ 0 → ⊥) → view a ev' sk l v ≡ exit_of i j (view st ev sk l v)
        exit-stop z = sym (pushing ∙ go-stop (view a ev' sk l v) _ z)

        pub exit-on : a.number ≡ 0 → view (at_depth (st.depth - 1) a) ev' sk l v ≡ exit_of i j (view st ev sk l v)
        exit-on z =
            let q = view-depth st ev sk l v d in
            let less : take (length (take st.depth sk) - 1) (take st.depth sk) ≡ take (st.depth - 1) sk = rw q (take-take (st.depth - 1) st.depth sk (omega arith)) in
            rw (← less) (sym (pushing ∙ go_on (view a ev' sk l v) _ z))
