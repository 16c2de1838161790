-- The Exits of sections put in before a run of attributes. Assumes nothing.
use Prim.Native.Nat.{ℕ, zero, suc, ◌+◌, ◌-◌, ◌*◌, ◌/◌, ◌≤◌, ◌<◌}
use mathlib.Core.Path.{◌≡◌, refl, sym, ap, ◌∙◌}
use mathlib.Core.Bool.{true, false}
use mathlib.Core.List.{List, [], ◌++◌, append_assoc}
use native.Mathlib.Omega.{arith}
use lib.ListN.{length, take, drop, get_or, length-append, length-drop}
use lib.Seq.{length-take-le, take-take, take_at, drop_at, drop-drop, take-append-le, get_or-take, sets, sets-eq, paste-zero}
use borrow.Author.Tests.{le-leb, lt-leb}
use Rattle.classes.proofs.ListLaws.{drop-take}
use Rattle.events.specs.State.{refuse_of}
use Rattle.events.specs.Events.{words_of, exit_event}
use Rattle.events.specs.View.{view}
use Rattle.events.specs.declared.St.{St}
use Rattle.events.proofs.EventLaws.{view-words, at_words}
use Rattle.moves.specs.Moves.{exits_of, all_before, sections_of}
use Rattle.moves.proofs.MoveLaws.{lifted, front_read}

pub before_on : (os : List ℕ) (a i n : ℕ) → i < n → get_or os i 0 + 8 ≤ a → all_before os a i (n - i) ≡ all_before os a (i + 1) (n - (i + 1))
unfolding all_before
before_on os a i n h g = let e : n - i ≡ suc (n - (i + 1)) = omega arith in rw (e, le-leb _ _ g)

pub before-no : (os : List ℕ) (a i n : ℕ) → i < n → a < get_or os i 0 + 8 → all_before os a i (n - i) ≡ false
unfolding all_before
before-no os a i n h g = let e : n - i ≡ suc (n - (i + 1)) = omega arith in rw (e, lt-leb _ _ g)

pub before-end : (os : List ℕ) (a i n : ℕ) → n ≤ i → all_before os a i (n - i) ≡ true
unfolding all_before
before-end os a i n h = let e : n - i ≡ 0 = omega arith in rw e

pub before-start : (os : List ℕ) (a n : ℕ) → all_before os a 0 (n - 0) ≡ all_before os a 0 n
before-start os a n = let e : n - 0 ≡ n = omega arith in rw e refl

-- words c put over d from a on
abbrev pub gapped : List ℕ → ℕ → ℕ → List ℕ → List ℕ
gapped d a n c = take a d ++ c ++ drop (a + 8 * n) d

gap-head : (d c : List ℕ) (a n : ℕ) → a ≤ length d → length c ≡ 8 * n → length (take a d ++ c) ≡ a + 8 * n
gap-head d c a n h l = length-append (take a d) c ∙ (let p = length-take-le a d h in omega arith)

gap-turn : (d c ws : List ℕ) (a n : ℕ) → length c ≡ 8 * n → length ws ≡ 8 → a + 8 * (n + 1) ≤ length d
    → sets (gapped d a n c) (a + 8 * n) ws ≡ gapped d a (n + 1) (c ++ ws)
gap-turn d c ws a n lc lw h =
    let p : List ℕ = take a d ++ c in
    let lp : length p ≡ a + 8 * n = gap-head d c a n (omega arith) lc in
    let r : List ℕ = drop (a + 8 * n) d in
    let lr : length r ≡ length d - (a + 8 * n) = length-drop (a + 8 * n) d in
    let e : a + 8 * n + 8 ≡ a + 8 * (n + 1) = omega arith in
    let lf : length (p ++ r) ≡ length p + length r = length-append p r in
    let q1 : take (a + 8 * n) (p ++ r) ≡ p = take_at p r (a + 8 * n) lp in
    let q2 : drop (a + 8 * n + 8) (p ++ r) ≡ drop (a + 8 * (n + 1)) d =
    sym (drop-drop 8 (a + 8 * n) (p ++ r)) ∙ ap (λ (l : List ℕ). drop 8 l) (drop_at p r (a + 8 * n) lp) ∙ drop-drop 8 (a + 8 * n) d ∙ ap (λ (k : ℕ). drop k d) e in
    sets-eq ws (p ++ r) (a + 8 * n) (omega arith)
    ∙ ap (λ (k : ℕ). take (a + 8 * n) (p ++ r) ++ ws ++ drop (a + 8 * n + k) (p ++ r)) lw
    ∙ ap (λ (l : List ℕ). l ++ ws ++ drop (a + 8 * n + 8) (p ++ r)) q1
    ∙ ap (λ (l : List ℕ). p ++ ws ++ l) q2
    ∙ ap (λ (l : List ℕ). l ++ drop (a + 8 * (n + 1)) d) (append_assoc (take a d) c ws)

gap-read : (d c : List ℕ) (a n j : ℕ) → a ≤ length d → j < a → get_or (gapped d a n c) j 0 ≡ get_or d j 0
gap-read d c a n j h g =
    let q : length (take a d) ≡ a = length-take-le a d h in
    let t : take a (gapped d a n c) ≡ take a d = ap (λ (r : List ℕ). take a r) (append_assoc (take a d) c (drop (a + 8 * n) d)) ∙ take_at (take a d) _ a q in
    sym (get_or-take a (gapped d a n c) j 0 g) ∙ ap (λ (r : List ℕ). get_or r j 0) t ∙ get_or-take a d j 0 g

pub length-exits : (pos : ℕ) (evs os : List ℕ) (n : ℕ) → length (exits_of pos evs os n) ≡ 8 * n
unfolding exits_of
length-exits pos evs os zero = refl
length-exits pos evs os (suc n) = length-append (exits_of pos evs os n) (words_of (exit_event evs (get_or os (length os - suc n) 0) pos pos)) ∙ (let h = length-exits pos evs os n in omega arith)

-- the Exit reads words before a only
exit-same : (pos : ℕ) (x y : List ℕ) (a o : ℕ) → ((j : ℕ) → j < a → get_or x j 0 ≡ get_or y j 0) → o + 8 ≤ a → words_of (exit_event x o pos pos) ≡ words_of (exit_event y o pos pos)
exit-same pos x y a o s h = rw (s (o + 1) (omega arith), s (o + 4) (omega arith), s (o + 5) (omega arith), s (o + 6) (omega arith), s (o + 7) (omega arith))

exits-same : (pos : ℕ) (x y os : List ℕ) (a n : ℕ) → ((j : ℕ) → j < a → get_or x j 0 ≡ get_or y j 0) → ((j : ℕ) → j < length os → get_or os j 0 + 8 ≤ a) → n ≤ length os
    → exits_of pos x os n ≡ exits_of pos y os n
unfolding exits_of
exits-same pos x y os a zero s b h = refl
exits-same pos x y os a (suc n) s b h =
    ap (λ (l : List ℕ). l ++ words_of (exit_event x (get_or os (length os - suc n) 0) pos pos)) (exits-same pos x y os a n s b (omega arith))
    ∙ ap (λ (l : List ℕ). exits_of pos y os n ++ l) (exit-same pos x y a (get_or os (length os - suc n) 0) s (b (length os - suc n) (omega arith)))

pub exits-none : (d os : List ℕ) (pos a : ℕ) → d ≡ gapped d a 0 (exits_of pos d os 0)
unfolding exits_of
exits-none d os pos a = paste-zero d a []

pub exits-turn : (d os : List ℕ) (pos a i : ℕ) (l : List ℕ) → i < length os → a + 8 * length os ≤ length d → ((j : ℕ) → j < length os → get_or os j 0 + 8 ≤ a)
    → l ≡ gapped d a i (exits_of pos d os i)
    → sets l (a + 8 * i) (words_of (exit_event l (get_or os (length os - (i + 1)) 0) pos pos)) ≡ gapped d a (i + 1) (exits_of pos d os (i + 1))
unfolding exits_of
exits-turn d os pos a i l h g b p =
    let c : List ℕ = exits_of pos d os i in
    let o : ℕ = get_or os (length os - (i + 1)) 0 in
    let s : i + 1 ≡ suc i = omega arith in
    ap (λ (x : List ℕ). sets x (a + 8 * i) (words_of (exit_event x o pos pos))) p
    ∙ ap (λ (ws : List ℕ). sets (gapped d a i c) (a + 8 * i) ws) (exit-same pos (gapped d a i c) d a o (λ j q. gap-read d c a i j (omega arith) q) (b (length os - (i + 1)) (omega arith)))
    ∙ gap-turn d c (words_of (exit_event d o pos pos)) a i (length-exits pos d os i) refl (omega arith)
    ∙ rw s

gap-words : (d c : List ℕ) (w a n : ℕ) → length c ≡ 8 * n → a ≤ w → w + 8 * n ≤ length d
    → take (w + 8 * n) (gapped (lifted d w (8 * n) a) a n c) ≡ take a (take w d) ++ c ++ drop a (take w d)
gap-words d c w a n lc h g =
    let s : ℕ = 8 * n in
    let l1 : length (take (a + s) d) ≡ a + s = length-take-le (a + s) d (omega arith) in
    let m : List ℕ = take (w - a) (drop a d) in
    let ld : length (drop a d) ≡ length d - a = length-drop a d in
    let lm : length m ≡ w - a = length-take-le (w - a) (drop a d) (omega arith) in
    let r : List ℕ = drop (a + s + (w - a)) d in
    let u : lifted d w s a ≡ take (a + s) d ++ (m ++ r) = append_assoc (take (a + s) d) m r in
    let q1 : take a (lifted d w s a) ≡ take a d = ap (λ (l : List ℕ). take a l) u ∙ take-append-le a (take (a + s) d) (m ++ r) (omega arith) ∙ take-take a (a + s) d (omega arith) in
    let q2 : drop (a + s) (lifted d w s a) ≡ m ++ r = ap (λ (l : List ℕ). drop (a + s) l) u ∙ drop_at (take (a + s) d) (m ++ r) (a + s) l1 in
    let p : List ℕ = take a d ++ c in
    let lp : length p ≡ a + s = gap-head d c a n (omega arith) lc in
    let lpm : length (p ++ m) ≡ w + s = length-append p m ∙ omega arith in
    ap (λ (l : List ℕ). take (w + s) (l ++ c ++ drop (a + s) (lifted d w s a))) q1
    ∙ ap (λ (l : List ℕ). take (w + s) (p ++ l)) q2
    ∙ ap (λ (l : List ℕ). take (w + s) l) (sym (append_assoc p m r))
    ∙ take_at (p ++ m) r (w + s) lpm
    ∙ ap (λ (l : List ℕ). p ++ l) (sym (drop-take a w d))
    ∙ ap (λ (l : List ℕ). l ++ c ++ drop a (take w d)) (sym (take-take a w d h))

module _ (st : St) (ev os : List ℕ) (pos a : ℕ) (h : st.words ≤ length ev) (k l v : List ℕ) where
  pub sections-bad : all_before os a 0 (length os) ≡ false → refuse_of 7 (view st ev k l v) ≡ sections_of pos a os (view st ev k l v)
  unfolding sections_of
  sections-bad b = rw b

  pub sections-full : all_before os a 0 (length os) ≡ true → (length ev - st.words) / 8 < length os
      → refuse_of 6 (view st ev k l v) ≡ sections_of pos a os (view st ev k l v)
  unfolding sections_of
  sections-full b g =
      let q = view-words st ev h k l v in
      let f : length ev < length (take st.words ev) + 8 * length os = omega arith in
      rw (b, lt-leb (length (take st.words ev) + 8 * length os) (length ev) f)

  pub sections-on : all_before os a 0 (length os) ≡ true → length os ≤ (length ev - st.words) / 8 → a ≤ st.words → ((j : ℕ) → j < length os → get_or os j 0 + 8 ≤ a)
      → (mid ev' : List ℕ) → mid ≡ lifted ev st.words (8 * length os) a → ev' ≡ gapped mid a (length os) (exits_of pos mid os (length os)) → length ev' ≡ length ev
      → view (at_words (st.words + 8 * length os) st) ev' k l v ≡ sections_of pos a os (view st ev k l v)
  unfolding sections_of
  sections-on b g le bel mid ev' p q e =
      let w : ℕ = st.words in
      let n : ℕ = length os in
      let z : length (take w ev) ≡ w = view-words st ev h k l v in
      let f : length (take w ev) + 8 * n ≤ length ev = omega arith in
      let same : exits_of pos mid os n ≡ exits_of pos (take w ev) os n =
      exits-same pos mid (take w ev) os a n (λ j u. ap (λ (x : List ℕ). get_or x j 0) p ∙ front_read ev (a + 8 * n) (drop a ev) (w - a) j (omega arith) (omega arith) ∙ sym (get_or-take w ev j 0 (omega arith))) bel (omega arith) in
      let words : take (w + 8 * n) ev' ≡ take a (take w ev) ++ exits_of pos (take w ev) os n ++ drop a (take w ev) =
      ap (λ (x : List ℕ). take (w + 8 * n) x) (q ∙ ap (λ (x : List ℕ). gapped mid a n x) same ∙ ap (λ (x : List ℕ). gapped x a n (exits_of pos (take w ev) os n)) p)
      ∙ gap-words ev (exits_of pos (take w ev) os n) w a n (length-exits pos (take w ev) os n) le (omega arith) in
      rw (e, words) (sym (rw (b, le-leb (length (take w ev) + 8 * n) (length ev) f)))
