-- Events shifted, found and lifted. Assumes nothing.
use Prim.Native.Nat.{ℕ, suc, ◌+◌, ◌-◌, ◌/◌, ◌≤◌, ◌<◌}
use mathlib.Core.Path.{◌≡◌, sym, ap, ◌∙◌}
use mathlib.Core.Bool.{Bool, true, false, not}
use mathlib.Core.List.{List, [], ◌∷◌, ◌++◌, append_assoc}
use native.Mathlib.Omega.{arith}
use native.Mathlib.Numerals.{add-one}
use lib.ListN.{length, take, drop, get_or, set, length-drop}
use lib.Seq.{take-take, length-take-le, take_at, set_at, take-suc, drop-cons, get_or-take, get_or-drop, take-append-add, paste, paste-zero, paste-suc, drop-paste, length-paste, length_paste_head}
use Rattle.classes.proofs.ListLaws.{drop-take}
use Rattle.classes.specs.Choice.{pick}
use Rattle.events.specs.Events.{width}
use Rattle.events.specs.View.{view}
use Rattle.events.specs.declared.St.{St}
use Rattle.events.proofs.EventLaws.{view-words}
use Rattle.moves.specs.Moves.{is_at, first_from, found, other, find_of, other_of, shift_of}

-- ---- shifting
abbrev pub shifted : List ℕ → ℕ → ℕ → List ℕ
shifted d to n = paste d to (drop (to + width) d) n

paste-read : (d : List ℕ) (at : ℕ) (s : List ℕ) (n i : ℕ) → at ≤ length d → n ≤ length s → at + n ≤ i → get_or (paste d at s n) i 0 ≡ get_or d i 0
paste-read d at s n i h g le =
    let e : at + n + (i - (at + n)) ≡ i = omega arith in
    ap (λ (k : ℕ). get_or (paste d at s n) k 0) (sym e)
    ∙ sym (get_or-drop (at + n) (paste d at s n) (i - (at + n)) 0)
    ∙ ap (λ (l : List ℕ). get_or l (i - (at + n)) 0) (drop-paste d at s n h g)
    ∙ get_or-drop (at + n) d (i - (at + n)) 0
    ∙ ap (λ (k : ℕ). get_or d k 0) e

pub shift-turn : (d : List ℕ) (to i : ℕ) → to + width + i < length d
    → set (shifted d to i) (to + i) (get_or (shifted d to i) (to + width + i) 0) ≡ shifted d to (i + 1)
shift-turn d to i h =
    let n : length (drop (to + width) d) ≡ length d - (to + width) = length-drop (to + width) d in
    ap (λ (v : ℕ). set (shifted d to i) (to + i) v) (paste-read d to (drop (to + width) d) i (to + width + i) (omega arith) (omega arith) (omega arith) ∙ sym (get_or-drop (to + width) d i 0))
    ∙ paste-suc d to (drop (to + width) d) i 0 (omega arith) (omega arith)
    ∙ ap (λ (k : ℕ). shifted d to k) (sym (add-one i))

pub shift-length : (d : List ℕ) (to n : ℕ) → to + width + n ≤ length d → length (shifted d to n) ≡ length d
shift-length d to n h =
    let k : length (drop (to + width) d) ≡ length d - (to + width) = length-drop (to + width) d in
    length-paste d to (drop (to + width) d) n (omega arith) (omega arith)

pub take-shifted : (d : List ℕ) (w to n : ℕ) → to + width + n ≤ w → w ≤ length d → take w (shifted d to n) ≡ shifted (take w d) to n
take-shifted d w to n h g =
    let k : length (drop (to + width) d) ≡ length d - (to + width) = length-drop (to + width) d in
    let p : List ℕ = take to d ++ take n (drop (to + width) d) in
    let lp : length p ≡ to + n = length_paste_head d to (drop (to + width) d) n (omega arith) (omega arith) in
    let e : w ≡ length p + (w - (to + n)) = omega arith in
    let q1 : take to (take w d) ≡ take to d = take-take to w d (omega arith) in
    let q2 : take n (drop (to + width) (take w d)) ≡ take n (drop (to + width) d) =
    ap (λ (l : List ℕ). take n l) (drop-take (to + width) w d) ∙ take-take n (w - (to + width)) (drop (to + width) d) (omega arith) in
    let q3 : drop (to + n) (take w d) ≡ take (w - (to + n)) (drop (to + n) d) = drop-take (to + n) w d in
    ap (λ (m : ℕ). take m (p ++ drop (to + n) d)) e
    ∙ take-append-add p (drop (to + n) d) (w - (to + n))
    ∙ sym (ap (λ (l : List ℕ). l ++ take n (drop (to + width) (take w d)) ++ drop (to + n) (take w d)) q1
    ∙ ap (λ (l : List ℕ). take to d ++ l ++ drop (to + n) (take w d)) q2
    ∙ ap (λ (l : List ℕ). p ++ l) q3)

pub shift-view : (st : St) (ev ev' : List ℕ) (to n : ℕ) → to + width + n ≤ st.words → st.words ≤ length ev → ev' ≡ shifted ev to n → (k l v : List ℕ)
    → view st ev' k l v ≡ shift_of to n (view st ev k l v)
unfolding shift_of
shift-view st ev ev' to n h g p k l v = rw (p, shift-length ev to n (omega arith), take-shifted ev st.words to n h g)

-- ---- finding
is-take : (w : ℕ) (ev : List ℕ) (j role node : ℕ) → j + 1 < w → is_at (take w ev) j role node ≡ is_at ev j role node
is-take w ev j role node h = rw (get_or-take w ev j 0 (omega arith), get_or-take w ev (j + 1) 0 h)

-- a test that reads no more than an event's role and node
abbrev pub Near : (List ℕ → ℕ → Bool) → Type 0
Near f = (w : ℕ) (ev : List ℕ) (j : ℕ) → j + 1 < w → f (take w ev) j ≡ f ev j

pub found-near : (role node : ℕ) → Near (found role node)
found-near role node w ev j h = is-take w ev j role node h

pub other-near : (role node : ℕ) → Near (other role node)
other-near role node w ev j h = ap not (is-take w ev j role node h)

module _ (f : List ℕ → ℕ → Bool) (near : Near f) (w : ℕ) (ev : List ℕ) (j : ℕ) where
  first_step : 8 ≤ w - j → first_from f j ((w - j) / 8) (take w ev) ≡ pick (f ev j) j (first_from f (j + 8) ((w - (j + 8)) / 8) (take w ev))
  unfolding first_from
  first_step h =
      let e : (w - j) / 8 ≡ suc ((w - (j + 8)) / 8) = omega arith in
      rw e (ap (λ (b : Bool). pick b j (first_from f (j + 8) ((w - (j + 8)) / 8) (take w ev))) (near w ev j (omega arith)))

  pub first-hit : 8 ≤ w - j → f ev j ≡ true → first_from f j ((w - j) / 8) (take w ev) ≡ j
  first-hit h p = first_step h ∙ rw p

  pub first_on : 8 ≤ w - j → f ev j ≡ false → first_from f j ((w - j) / 8) (take w ev) ≡ first_from f (j + 8) ((w - (j + 8)) / 8) (take w ev)
  first_on h p = first_step h ∙ rw p

  pub first-end : w - j < 8 → first_from f j ((w - j) / 8) (take w ev) ≡ j
  unfolding first_from
  first-end h = let e : (w - j) / 8 ≡ 0 = omega arith in rw e

pub find-view : (st : St) (ev : List ℕ) (role node i : ℕ) → st.words ≤ length ev → (k l v : List ℕ)
    → first_from (found role node) i ((st.words - i) / 8) (take st.words ev) ≡ find_of role node i (view st ev k l v)
unfolding find_of
find-view st ev role node i h k l v = rw (view-words st ev h k l v)

pub other-view : (st : St) (ev : List ℕ) (role node i : ℕ) → st.words ≤ length ev → (k l v : List ℕ)
    → first_from (other role node) i ((st.words - i) / 8) (take st.words ev) ≡ other_of role node i (view st ev k l v)
unfolding other_of
other-view st ev role node i h k l v = rw (view-words st ev h k l v)

-- ---- lifting: the words from a to w moved s to the back, from the last on
abbrev pub lifted : List ℕ → ℕ → ℕ → ℕ → List ℕ
lifted d w s j = paste d (j + s) (drop j d) (w - j)

pub lift-none : (d : List ℕ) (w s : ℕ) → d ≡ lifted d w s w
lift-none d w s = let e : w - w ≡ 0 = omega arith in paste-zero d (w + s) (drop w d) ∙ ap (λ (n : ℕ). paste d (w + s) (drop w d) n) (sym e)

pub front_read : (d : List ℕ) (at : ℕ) (s : List ℕ) (n i : ℕ) → at ≤ length d → i < at → get_or (paste d at s n) i 0 ≡ get_or d i 0
front_read d at s n i h l =
    let q : length (take at d) ≡ at = length-take-le at d h in
    let t : take at (paste d at s n) ≡ take at d = ap (λ (r : List ℕ). take at r) (append_assoc (take at d) (take n s) (drop (at + n) d)) ∙ take_at (take at d) _ at q in
    sym (get_or-take at (paste d at s n) i 0 l) ∙ ap (λ (r : List ℕ). get_or r i 0) t ∙ get_or-take at d i 0 l

set-mid : (t m r : List ℕ) (y v n : ℕ) → length t ≡ n → set (t ++ (y ∷ []) ++ m ++ r) n v ≡ t ++ (v ∷ m) ++ r
set-mid t m r y v n e =
    ap (λ (l : List ℕ). set l n v) (append_assoc (t ++ (y ∷ [])) m r ∙ append_assoc t (y ∷ []) (m ++ r))
    ∙ set_at t y (m ++ r) v n e
    ∙ sym (append_assoc t (v ∷ m) r)

pub lift-turn : (d : List ℕ) (w s i : ℕ) → i < w → w + s ≤ length d
    → set (lifted d w s (i + 1)) (i + s) (get_or (lifted d w s (i + 1)) i 0) ≡ lifted d w s i
lift-turn d w s i h g =
    let e1 : i + 1 + s ≡ suc (i + s) = omega arith in
    let e2 : suc (i + s) + (w - (i + 1)) ≡ i + s + (w - i) = omega arith in
    let e3 : w - i ≡ suc (w - (i + 1)) = omega arith in
    let e4 : i + 1 ≡ suc i = omega arith in
    let v : get_or (lifted d w s (i + 1)) i 0 ≡ get_or d i 0 = front_read d (i + 1 + s) (drop (i + 1) d) (w - (i + 1)) i (omega arith) (omega arith) in
    let lhs : lifted d w s (i + 1) ≡ take (i + s) d ++ (get_or d (i + s) 0 ∷ []) ++ take (w - (i + 1)) (drop (suc i) d) ++ drop (i + s + (w - i)) d =
    ap (λ (k : ℕ). take k d ++ take (w - (i + 1)) (drop (i + 1) d) ++ drop (k + (w - (i + 1))) d) e1
    ∙ ap (λ (k : ℕ). take (suc (i + s)) d ++ take (w - (i + 1)) (drop (i + 1) d) ++ drop k d) e2
    ∙ ap (λ (k : ℕ). take (suc (i + s)) d ++ take (w - (i + 1)) (drop k d) ++ drop (i + s + (w - i)) d) e4
    ∙ ap (λ (l : List ℕ). l ++ take (w - (i + 1)) (drop (suc i) d) ++ drop (i + s + (w - i)) d) (take-suc d (i + s) 0 (omega arith)) in
    let rhs : take (w - i) (drop i d) ≡ get_or d i 0 ∷ take (w - (i + 1)) (drop (suc i) d) =
    ap (λ (l : List ℕ). take (w - i) l) (drop-cons d i 0 (omega arith)) ∙ ap (λ (k : ℕ). take k (get_or d i 0 ∷ drop (suc i) d)) e3 in
    ap (λ (x : ℕ). set (lifted d w s (i + 1)) (i + s) x) v
    ∙ ap (λ (l : List ℕ). set l (i + s) (get_or d i 0)) lhs
    ∙ set-mid (take (i + s) d) _ _ (get_or d (i + s) 0) (get_or d i 0) (i + s) (length-take-le (i + s) d (omega arith))
    ∙ ap (λ (l : List ℕ). take (i + s) d ++ l ++ drop (i + s + (w - i)) d) (sym rhs)
