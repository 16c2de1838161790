-- Event words written, edited and dropped, as the view sees it. Assumes nothing.
use Prim.Native.Nat.{ℕ, suc, ◌+◌, ◌-◌, ◌≤◌, ◌<◌}
use mathlib.Core.Path.{◌≡◌, refl, sym, ap, ◌∙◌}
use mathlib.Core.Bool.{Bool, true, false}
use mathlib.Core.List.{List, [], ◌∷◌, ◌++◌}
use native.Mathlib.Omega.{arith}
use lib.Dec.{leb}
use lib.ListN.{length, take, set, length-set, length-append}
use lib.Seq.{take-take, length-take-le, take_at, take-set-lt, sets, sets-eq, length-sets}
use borrow.Author.Tests.{le-leb, lt-leb, leb-true, leb-false}
use Rattle.events.specs.State.{State, with_evs, refuse_of}
use Rattle.events.specs.Events.{width, words_of, push_of, patch_of, edit_of, cut_of, whole_at}
use Rattle.events.specs.View.{view}
use Rattle.events.specs.declared.St.{St}
use Rattle.events.specs.declared.Event.{Event}

-- the state with n event words
abbrev pub at_words : ℕ → St → St
at_words n s = record { words = n; depth = s.depth; lists = s.lists; sections = s.sections; attr = s.attr; blank = s.blank; loose = s.loose; spare = s.spare; looks = s.looks; at = s.at; number = s.number }

abbrev pub at_number : ℕ → St → St
at_number n s = record { words = s.words; depth = s.depth; lists = s.lists; sections = s.sections; attr = s.attr; blank = s.blank; loose = s.loose; spare = s.spare; looks = s.looks; at = s.at; number = n }

pub put-words : (l : List ℕ) (i : ℕ) (x : Event)
    → set (set (set (set (set (set (set (set l i x.role) (i + 1) x.node) (i + 2) x.start) (i + 3) x.end) (i + 4) x.a) (i + 5) x.b) (i + 6) x.c) (i + 7) x.d ≡ sets l i (words_of x)
put-words l i x =
    let e1 : i + 1 ≡ suc i = omega arith in
    let e2 : i + 2 ≡ suc (suc i) = omega arith in
    let e3 : i + 3 ≡ suc (suc (suc i)) = omega arith in
    let e4 : i + 4 ≡ suc (suc (suc (suc i))) = omega arith in
    let e5 : i + 5 ≡ suc (suc (suc (suc (suc i)))) = omega arith in
    let e6 : i + 6 ≡ suc (suc (suc (suc (suc (suc i))))) = omega arith in
    let e7 : i + 7 ≡ suc (suc (suc (suc (suc (suc (suc i)))))) = omega arith in
    rw (e1, e2, e3, e4, e5, e6, e7)

-- the words after n words, the event behind them written
push-words : (l : List ℕ) (w : ℕ) (x : Event) → w + width ≤ length l → take (w + width) (sets l w (words_of x)) ≡ take w l ++ words_of x
push-words l w x h =
    let n : length (take w l ++ words_of x) ≡ w + width = length-append (take w l) (words_of x) ∙ ap (λ (k : ℕ). k + 8) (length-take-le w l (omega arith)) in
    ap (λ (r : List ℕ). take (w + width) r) (sets-eq (words_of x) l w h) ∙ take_at (take w l ++ words_of x) _ (w + width) n

push-room : (x : Event) (s : State) → length s.evs + width ≤ s.cap → push_of x s ≡ with_evs (s.evs ++ words_of x) s
unfolding push_of
push-room x s h = rw (le-leb (length s.evs + width) s.cap h)

push-full : (x : Event) (s : State) → s.cap < length s.evs + width → push_of x s ≡ refuse_of 6 s
unfolding push_of
push-full x s h = rw (lt-leb (length s.evs + width) s.cap h)

module _ (st : St) (ev : List ℕ) (h : st.words ≤ length ev) (k l v : List ℕ) where
  pub view-words : length (view st ev k l v).evs ≡ st.words
  view-words = length-take-le st.words ev h

  pub push-full-view : (x : Event) → length ev - st.words < 8 → refuse_of 6 (view st ev k l v) ≡ push_of x (view st ev k l v)
  push-full-view x g = let q = view-words in sym (push-full x (view st ev k l v) (omega arith))

  pub push-room-view : (x : Event) (ev' : List ℕ) → 8 ≤ length ev - st.words → ev' ≡ sets ev st.words (words_of x)
      → view (at_words (st.words + 8) st) ev' k l v ≡ push_of x (view st ev k l v)
  push-room-view x ev' g p =
      let q = view-words in
      rw (p, length-sets ev st.words (words_of x), push-words ev st.words x (omega arith))
      (sym (push-room x (view st ev k l v) (omega arith)))

pub patch-view : (st : St) (ev : List ℕ) (i n : ℕ) → i < st.words → (k l v : List ℕ) → view st (set ev i n) k l v ≡ patch_of i n (view st ev k l v)
unfolding patch_of
patch-view st ev i n h k l v = rw (take-set-lt st.words ev i n h, length-set)

pub take-sets : (w i : ℕ) (l vs : List ℕ) → i + length vs ≤ w → take w (sets l i vs) ≡ sets (take w l) i vs
take-sets w i l [] h = refl
take-sets w i l (a ∷ vs) h =
    let k : i + suc (length vs) ≤ w = h in
    take-sets w (suc i) (set l i a) vs (omega arith) ∙ ap (λ (x : List ℕ). sets x (suc i) vs) (take-set-lt w l i a (omega arith))

pub edit-view : (st : St) (ev ev' : List ℕ) (i : ℕ) (x : Event) → i + width ≤ st.words → ev' ≡ sets ev i (words_of x)
    → (k l v : List ℕ) → view st ev' k l v ≡ edit_of i x (view st ev k l v)
unfolding edit_of
edit-view st ev ev' i x h p k l v = rw (p, length-sets ev i (words_of x), take-sets st.words i ev (words_of x) h)

pub cut-view : (st : St) (n : ℕ) → n ≤ st.words → (e k l v : List ℕ) → view (at_words n st) e k l v ≡ cut_of n (view st e k l v)
unfolding cut_of
cut-view st n h e k l v = rw (take-take n st.words e h)

-- a whole event at word o
module _ (st : St) (o : ℕ) where
  pub not-whole : st.words < o + width → (e k l v : List ℕ) → st.words ≤ length e → false ≡ whole_at (view st e k l v).evs o
  not-whole h e k l v g = let q = view-words st e g k l v in sym (lt-leb (o + width) (length (take st.words e)) (omega arith))

  pub is_whole : 8 ≤ st.words → (e k l v : List ℕ) → st.words ≤ length e → leb o (st.words - 8) ≡ whole_at (view st e k l v).evs o
  is_whole h e k l v g = by-test (leb o (st.words - 8)) refl (view-words st e g k l v)
    where
      by-test : (b : Bool) → leb o (st.words - 8) ≡ b → length (take st.words e) ≡ st.words → b ≡ whole_at (view st e k l v).evs o
      by-test true p q = let z = leb-true o (st.words - 8) p in sym (le-leb (o + width) (length (take st.words e)) (omega arith))
      by-test false p q = let z = leb-false o (st.words - 8) p in sym (lt-leb (o + width) (length (take st.words e)) (omega arith))
