-- What is given goes into the lent words: one law for each answer of each step. Assumes nothing.
use Prim.Native.Nat.{ℕ, ◌+◌, ◌-◌, ◌*◌, ◌≤◌, ◌<◌}
use mathlib.Core.Path.{◌≡◌, refl, sym, ap, ◌∙◌}
use mathlib.Core.Bool.{Bool, true, false}
use mathlib.Core.List.{List, [], ◌∷◌, ◌++◌, map}
use native.Mathlib.Omega.{arith}
use lib.Dec.{eqb}
use mathlib.Core.Logic.{◌⊎◌, inl, inr}
use mathlib.Core.List.{append_assoc}
use lib.ListN.{length, take, drop, set, replicate, length-append}
use lib.Seq.{sets, sets-eq, take_at, take-set-lt, length-take-le, drop-drop}
use borrow.Rule.Slice.PartMut.{put_mid}
use borrow.Author.Tests.{eqb-true, eqb-false, eq-eqb, ne_eqb, le-leb, lt-leb, lt-ltb, le-ltb}
use Rattle.classes.specs.Choice.{pick, either}
use Rattle.sets.specs.Given.{Kind, kind_num, AClass, AnId, APair, AComment, Given, Element, Piece, Told, told, left_by}
use Rattle.sets.specs.Opened.{Held, held, full, hold_in, hold_all, pieces_in, element_width, piece_width}
use Rattle.sets.specs.Layout.{Listed, words_of}
use Rattle.sets.specs.View.{is_owned}

-- ---- words written behind others
pub grown : (l vs : List ℕ) (w n : ℕ) → w + length vs ≤ length l → n ≡ w + length vs → take n (sets l w vs) ≡ take w l ++ vs
grown l vs w n h e =
    let k : length (take w l ++ vs) ≡ n = length-append (take w l) vs ∙ omega (arith, length-take-le w l (omega arith), e) in
    ap (λ (r : List ℕ). take n r) (sets-eq vs l w h) ∙ take_at (take w l ++ vs) _ n k

-- the words of a part written over
pub written : (xs ys : List ℕ) (a k : ℕ) → a + length ys ≤ length xs → length ys ≡ k → put_mid a k xs ys ≡ sets xs a ys
written xs ys a k h e =
    let d : drop k (drop a xs) ≡ drop (a + length ys) xs = drop-drop k a xs ∙ rw e in
    rw d (sym (append_assoc (take a xs) ys _) ∙ sym (sets-eq ys xs a h))

-- ---- one more element, one more piece: n elements and m pieces are written
module _ (es ps : List ℕ) (n m : ℕ) (fe : n * 5 ≤ length es) (fp : m * 2 ≤ length ps) (at : ℕ) where
  abbrev now : Held
  now = held (take (n * 5) es) (take (m * 2) ps)

  elements-length : length now.elements ≡ n * 5
  elements-length = length-take-le (n * 5) es fe

  pieces-length : length now.pieces ≡ m * 2
  pieces-length = length-take-le (m * 2) ps fp

  pieces-count : pieces_in now ≡ m
  pieces-count = omega (arith, pieces-length)

  pub element-full : (k : Kind) (a e : ℕ) → length es - n * 5 < 5 → full at now ≡ hold_in (length es) (length ps) at (Element k a e) now
  element-full k a e h = rw (lt-leb (length now.elements + 5) (length es) (omega (arith, elements-length, h, fe)))

  pub piece-full : (a e : ℕ) → length ps - m * 2 < 2 → full at now ≡ hold_in (length es) (length ps) at (Piece a e) now
  piece-full a e h = rw (lt-leb (length now.pieces + 2) (length ps) (omega (arith, pieces-length, h, fp)))

  pub element-room : (k : Kind) (a e : ℕ) (es' : List ℕ) (x : ℕ) → 5 ≤ length es - n * 5 → kind_num k ≡ x → es' ≡ sets es (n * 5) (words_of (record { kind = x; from = a; to = e; first = m; past = m } ∷ []))
      → held (take ((n + 1) * 5) es') (take (m * 2) ps) ≡ hold_in (length es) (length ps) at (Element k a e) now
  unfolding words_of
  element-room k a e es' x h q p =
      let g = grown es (kind_num k ∷ a ∷ e ∷ m ∷ m ∷ []) (n * 5) ((n + 1) * 5) (omega (arith, h)) (omega arith) in
      rw (le-leb (length now.elements + 5) (length es) (omega (arith, elements-length, h)), pieces-count, p, ← q, g)

  pub piece-room : (a e : ℕ) (es' ps' : List ℕ) → 1 ≤ n → 2 ≤ length ps - m * 2 → es' ≡ set es (n * 5 - 1) (m + 1) → ps' ≡ sets ps (m * 2) (a ∷ e ∷ [])
      → held (take (n * 5) es') (take ((m + 1) * 2) ps') ≡ hold_in (length es) (length ps) at (Piece a e) now
  piece-room a e es' ps' o h p q =
      let g = grown ps (a ∷ e ∷ []) (m * 2) ((m + 1) * 2) (omega (arith, h)) (omega arith) in
      let t = take-set-lt (n * 5) es (n * 5 - 1) (m + 1) (omega (arith, o)) in
      rw (le-leb (length now.pieces + 2) (length ps) (omega (arith, pieces-length, h)), pieces-count, elements-length, p, q, g, t)

pub hold-same : (ne np ne' np' at : ℕ) (g : Given) (h : Held) → ne' ≡ ne → np' ≡ np → hold_in ne' np' at g h ≡ hold_in ne np at g h
hold-same ne np ne' np' at g h p q = rw (p, q) refl

-- ---- all that a step gives, where nothing was refused before
module _ (ne np : ℕ) (h : Held) (z : h.number ≡ 0) where
  pub hold-one : (t : Told) → hold_in ne np t.place t.what h ≡ hold_all ne np (t ∷ []) h
  unfolding hold_all
  hold-one t = rw (eq-eqb h.number 0 z)

  pub hold-two : (t u : Told) (a b : Held) → a ≡ hold_in ne np t.place t.what h → (a.number ≡ 0 → b ≡ hold_in ne np u.place u.what a) → ((a.number ≡ 0 → ⊥) → b ≡ a)
      → b ≡ hold_all ne np (t ∷ u ∷ []) h
  unfolding hold_all
  hold-two t u a b p q r = rw (eq-eqb h.number 0 z, ← p) (by-test (eqb a.number 0) refl)
    where
      by-test : (x : Bool) → eqb a.number 0 ≡ x → b ≡ pick x (hold_in ne np u.place u.what a) a
      by-test true e = q (eqb-true a.number 0 e)
      by-test false e = r (eqb-false a.number 0 e)

-- ---- what each state leaves behind
module _ (s a p : ℕ) where
  pub left-comment-first : s ≡ 2 → left_by s a p ≡ Element AComment p p ∷ []
  unfolding left_by
  left-comment-first q = rw q

  pub left-newline : s ≡ 4 → left_by s a p ≡ Piece a (a + 1) ∷ []
  unfolding left_by
  left-newline q = rw q

  pub left-class : s ≡ 6 → left_by s a p ≡ Element AClass p p ∷ Piece a p ∷ []
  unfolding left_by
  left-class q = rw q

  pub left-id : s ≡ 8 → left_by s a p ≡ Element AnId p p ∷ Piece a p ∷ []
  unfolding left_by
  left-id q = rw q

  pub left_key : s ≡ 9 → left_by s a p ≡ Element APair a p ∷ []
  unfolding left_by
  left_key q = rw q

  pub left-value : (s ≡ 3) ⊎ ((s ≡ 11) ⊎ (s ≡ 15)) → left_by s a p ≡ Piece a p ∷ []
  unfolding left_by
  left-value (inl q) = rw q
  left-value (inr (inl q)) = rw q
  left-value (inr (inr q)) = rw q

  pub owned-value : (s ≡ 3) ⊎ ((s ≡ 11) ⊎ (s ≡ 15)) → is_owned s ≡ true
  unfolding is_owned
  owned-value (inl q) = rw q
  owned-value (inr (inl q)) = rw q
  owned-value (inr (inr q)) = rw q

  pub left-quoted : s ≡ 12 → 2 ≤ p - a → left_by s a p ≡ Piece (a + 1) p ∷ []
  unfolding left_by
  left-quoted q h = rw (q, lt-ltb (a + 1) p (omega (arith, h)))

  pub left-empty : s ≡ 12 → p - a < 2 → left_by s a p ≡ []
  unfolding left_by
  left-empty q h = rw (q, le-ltb (a + 1) p (omega (arith, h)))

  abbrev Silent : Type 0
  Silent =
      ((((((Unit {0} × (s ≡ 2 → ⊥)) × ((s ≡ 3) ⊎ ((s ≡ 11) ⊎ (s ≡ 15)) → ⊥)) × (s ≡ 4 → ⊥)) × (s ≡ 6 → ⊥)) × (s ≡ 8 → ⊥)) × (s ≡ 9 → ⊥)) × (s ≡ 12 → ⊥)

  pub left-none : Silent → left_by s a p ≡ []
  unfolding left_by
  left-none (((((((u, c2), c3), c4), c6), c8), c9), c12) =
      rw (ne_eqb s 2 c2, ne_eqb s 3 (λ e. c3 (inl e)), ne_eqb s 4 c4, ne_eqb s 6 c6, ne_eqb s 8 c8, ne_eqb s 9 c9, ne_eqb s 11 (λ e. c3 (inr (inl e))), ne_eqb s 12 c12, ne_eqb s 15 (λ e. c3 (inr (inr e))))

-- ---- so a step's answer is what its state leaves behind
module _ (ne np : ℕ) (h v : Held) (s a p : ℕ) where
  pub left-nothing : left_by s a p ≡ [] → h ≡ hold_all ne np (map (told p) (left_by s a p)) h
  unfolding hold_all
  left-nothing q = rw q

  pub left_one : (g : Given) → h.number ≡ 0 → left_by s a p ≡ g ∷ [] → v ≡ hold_in ne np p g h → v ≡ hold_all ne np (map (told p) (left_by s a p)) h
  left_one g z q r = r ∙ hold-one ne np h z (told p g) ∙ ap (λ (gs : List Given). hold_all ne np (map (told p) gs) h) (sym q)

  pub left-two : (gs : List Given) → left_by s a p ≡ gs → v ≡ hold_all ne np (map (told p) gs) h → v ≡ hold_all ne np (map (told p) (left_by s a p)) h
  left-two gs q r = r ∙ ap (λ (x : List Given). hold_all ne np (map (told p) x) h) (sym q)

pub owned : (s k : ℕ) → s ≡ k → is_owned k ≡ true → is_owned s ≡ true
owned s k p q = rw p q
