-- Two sorted parts merged: the loop, and that what it makes has the same places, in order. Assumes nothing.
use Prim.Native.Nat.{ℕ, zero, suc, ◌+◌, ◌-◌, ◌≤◌, ◌<◌}
use mathlib.Core.Path.{◌≡◌, refl, sym, ap, ◌∙◌}
use mathlib.Core.Bool.{Bool, true, false, not, true≢false}
use mathlib.Core.List.{List, [], ◌∷◌, ◌++◌, append-nil, reverse}
use native.Mathlib.Omega.{arith}
use native.Mathlib.Nat.{add-zero}
use lib.ListN.{length, get_or, take, drop, set, length-set, length-drop, drop_of_length-le, take-append-drop}
use lib.Seq.{take_all, take-suc, take-suc-set, take_at, drop_at, length-take-le, drop-drop, get_or-drop}
use Rattle.std.specs.Cmp.{IsStrictWeakOrder}
use Rattle.std.specs.List.Sorted.{IsPermutation, IsSortedBy}
use Rattle.std.proofs.lemmas.List.{get_or_default, get_or_append_left, get_or-append_right, get_or-reverse, length-append, length-reverse}
use Rattle.std.proofs.lemmas.List.Sorted.{IsPermutation-refl, IsPermutation-cons, IsPermutation-middle, IsPermutation-append, IsPermutation-reverse, IsPermutation-trans, length_permutation}
use Rattle.classes.specs.Choice.{pick}
use Rattle.classes.proofs.ListLaws.{drop-next}
use Rattle.ranks.specs.Sorting.{left_first, into, merge, Arranged}

-- ---- words written one after another: the first i are as they shall be
pub record Written (goal now : List ℕ) (i : ℕ) : Type 0 where
  pub size : length now ≡ length goal
  pub words : take i now ≡ take i goal

pub written_start : (goal now : List ℕ) → length now ≡ length goal → Written goal now 0
written_start goal now e = record { size = e; words = refl }

pub written-turn : (goal now : List ℕ) (i v : ℕ) → i < length now → v ≡ get_or goal i 0 → Written goal now i → Written goal (set now i v) (i + 1)
written-turn goal now i v h e w =
    let z = w.size in
    let g : i < length goal = omega arith in
    let s : i + 1 ≡ suc i = omega arith in
    record { size = length-set now i v ∙ z; words = rw (s, take-suc-set now i v h, take-suc goal i 0 g, w.words, e) }

pub written-end : (goal now : List ℕ) (i : ℕ) → length now ≤ i → Written goal now i → now ≡ goal
written-end goal now i h w =
    let z = w.size in
    sym (take_all i now h) ∙ w.words ∙ take_all i goal (omega arith)

module _ (less : ℕ → ℕ → Bool) where
  -- ---- a turn: the next is the first of l, or of r
  merge-left : (x : ℕ) (l r : List ℕ) → left_first less (x ∷ l) r ≡ true → merge less (x ∷ l) r ≡ x ∷ merge less l r
  unfolding merge into left_first
  merge-left x l [] e = refl
  merge-left x l (y ∷ r) e = by-test (less y x) refl e
    where
      by-test : (t : Bool) → less y x ≡ t → not t ≡ true → pick (less y x) (y ∷ into less (merge less l) x r) (x ∷ merge less l (y ∷ r)) ≡ x ∷ merge less l (y ∷ r)
      by-test true f e = absurd (true≢false (sym e))
      by-test false f e = rw f

  merge-right : (l : List ℕ) (y : ℕ) (r : List ℕ) → left_first less l (y ∷ r) ≡ false → merge less l (y ∷ r) ≡ y ∷ merge less l r
  unfolding merge into left_first
  merge-right [] y r e = refl
  merge-right (x ∷ l) y r e = by-test (less y x) refl e
    where
      by-test : (t : Bool) → less y x ≡ t → not t ≡ false → pick (less y x) (y ∷ into less (merge less l) x r) (x ∷ merge less l (y ∷ r)) ≡ y ∷ into less (merge less l) x r
      by-test true f e = rw f
      by-test false f e = absurd (true≢false e)

  left-none : (r : List ℕ) → left_first less [] r ≡ false
  unfolding left_first
  left-none r = refl

  right-none : (x : ℕ) (l : List ℕ) → left_first less (x ∷ l) [] ≡ true
  unfolding left_first
  right-none x l = refl

  module _ (l r : List ℕ) (i j : ℕ) where
    pub first-none : length l ≤ i → false ≡ left_first less (drop i l) (drop j r)
    first-none h = rw (drop_of_length-le l h) (sym (left-none (drop j r)))

    pub first-all : i < length l → length r ≤ j → true ≡ left_first less (drop i l) (drop j r)
    first-all h k = rw (drop-next l i, drop_of_length-le r k) (sym (right-none (get_or l i 0) (drop (i + 1) l)))

    pub first_by : i < length l → j < length r → (t : Bool) → t ≡ less (get_or r j 0) (get_or l i 0) → not t ≡ left_first less (drop i l) (drop j r)
    unfolding left_first
    first_by h k t e = rw (drop-next l i, drop-next r j) (ap not e)

    -- the last of l is left, and the first of r stands before it
    pub first-known : less (get_or r 0 0) (get_or l (length l - 1) 0) ≡ true → i + 1 ≡ length l → j ≡ 0 → j < length r → false ≡ left_first less (drop i l) (drop j r)
    first-known p e f k =
        let a : length l - 1 ≡ i = omega (arith, e) in
        let q : less (get_or r j 0) (get_or l i 0) ≡ true = rw (f, ← a) p in
        first_by (omega (arith, e)) k true (sym q)

  -- ---- the loop: i of l and j of r are taken
  merge-length : (l r : List ℕ) → length (merge less l r) ≡ length l + length r
  unfolding merge into
  merge-length [] r = omega arith
  merge-length (x ∷ l) r = into-length (merge-length l) r
    where
      into-length : ((r : List ℕ) → length (merge less l r) ≡ length l + length r) → (r : List ℕ) → length (into less (merge less l) x r) ≡ suc (length l) + length r
      into-length more [] = omega (arith, more [])
      into-length more (y ∷ r) = by-test (into-length more r) (less y x)
        where
          by-test : length (into less (merge less l) x r) ≡ suc (length l) + length r → (t : Bool)
              → length (pick t (y ∷ into less (merge less l) x r) (x ∷ merge less l (y ∷ r))) ≡ suc (length l) + suc (length r)
          by-test on true = omega (arith, on)
          by-test on false = omega (arith, more (y ∷ r))

  pub record Merged (l r now : List ℕ) (i j : ℕ) : Type 0 where
    pub left : i ≤ length l
    pub right : j ≤ length r
    pub done : Written (merge less l r) now (i + j)
    pub rest : drop (i + j) (merge less l r) ≡ merge less (drop i l) (drop j r)

  pub merged-start : (l r now : List ℕ) → length l + length r ≡ length now → Merged l r now 0 0
  merged-start l r now e = record { left = omega arith; right = omega arith; done = written_start (merge less l r) now (sym e ∙ sym (merge-length l r)); rest = refl }

  pub merged-end : (l r now : List ℕ) (i j : ℕ) → length now ≤ i + j → Merged l r now i j → now ≡ merge less l r
  merged-end l r now i j h m = written-end (merge less l r) now (i + j) h m.done

  -- the next word of what shall be there
  next-is : (goal l : List ℕ) (k x : ℕ) → drop k goal ≡ x ∷ l → (x ≡ get_or goal k 0) × (drop (k + 1) goal ≡ l)
  next-is goal l k x e =
      (sym (ap (λ (w : List ℕ). get_or w 0 0) e) ∙ get_or-drop k goal 0 0 ∙ ap (λ (n : ℕ). get_or goal n 0) (add-zero k), sym (drop-drop 1 k goal) ∙ ap (λ (w : List ℕ). drop 1 w) e)

  module _ (l r now : List ℕ) (i j : ℕ) (m : Merged l r now i j) (h : i + j < length now) where
    left-within : true ≡ left_first less (drop i l) (drop j r) → i < length l
    left-within e = by-test (drop i l) refl e
      where
        by-test : (d : List ℕ) → drop i l ≡ d → true ≡ left_first less d (drop j r) → i < length l
        by-test [] w e = absurd (true≢false (e ∙ left-none (drop j r)))
        by-test (x ∷ d) w e = omega (arith, ap length w, length-drop i l)

    pub right-within : false ≡ left_first less (drop i l) (drop j r) → j < length r
    right-within e = by-test (drop i l) (drop j r) refl refl e
      where
        size : length now ≡ length l + length r
        size = m.done.size ∙ merge-length l r

        by-test : (d f : List ℕ) → drop i l ≡ d → drop j r ≡ f → false ≡ left_first less d f → j < length r
        by-test [] f v w e = omega (arith, ap length v, length-drop i l, h, size, m.left)
        by-test (x ∷ d) [] v w e = absurd (true≢false (sym (e ∙ right-none x d)))
        by-test (x ∷ d) (y ∷ f) v w e = omega (arith, ap length w, length-drop j r)

    pub merged-left : true ≡ left_first less (drop i l) (drop j r) → Merged l r (set now (i + j) (get_or l i 0)) (i + 1) j
    merged-left e =
        let g = left-within e in
        let s : i + 1 + j ≡ i + j + 1 = omega arith in
        let n = next-is (merge less l r) (merge less (drop (i + 1) l) (drop j r)) (i + j) (get_or l i 0) (m.rest ∙ step g) in
        record { left = omega arith; right = m.right; done = rw s (written-turn (merge less l r) now (i + j) (get_or l i 0) h n.0 m.done); rest = rw s n.1 }
      where
        step : i < length l → merge less (drop i l) (drop j r) ≡ get_or l i 0 ∷ merge less (drop (i + 1) l) (drop j r)
        step g = ap (λ (d : List ℕ). merge less d (drop j r)) (drop-next l i g)
            ∙ merge-left (get_or l i 0) (drop (i + 1) l) (drop j r) (ap (λ (d : List ℕ). left_first less d (drop j r)) (sym (drop-next l i g)) ∙ sym e)

    pub merged-right : false ≡ left_first less (drop i l) (drop j r) → Merged l r (set now (i + j) (get_or r j 0)) i (j + 1)
    merged-right e =
        let g = right-within e in
        let s : i + (j + 1) ≡ i + j + 1 = omega arith in
        let n = next-is (merge less l r) (merge less (drop i l) (drop (j + 1) r)) (i + j) (get_or r j 0) (m.rest ∙ step g) in
        record { left = m.left; right = omega arith; done = rw s (written-turn (merge less l r) now (i + j) (get_or r j 0) h n.0 m.done); rest = rw s n.1 }
      where
        step : j < length r → merge less (drop i l) (drop j r) ≡ get_or r j 0 ∷ merge less (drop i l) (drop (j + 1) r)
        step g = ap (λ (d : List ℕ). merge less (drop i l) d) (drop-next r j g)
            ∙ merge-right (drop i l) (get_or r j 0) (drop (j + 1) r) (ap (λ (d : List ℕ). left_first less (drop i l) d) (sym (drop-next r j g)) ∙ sym e)

  -- ---- the same places
  merge-moves : (l r : List ℕ) → IsPermutation (l ++ r) (merge less l r)
  unfolding merge into
  merge-moves [] r = IsPermutation-refl r
  merge-moves (x ∷ l) r = into-moves (merge-moves l) r
    where
      into-moves : ((r : List ℕ) → IsPermutation (l ++ r) (merge less l r)) → (r : List ℕ) → IsPermutation (x ∷ (l ++ r)) (into less (merge less l) x r)
      into-moves more [] = IsPermutation-cons x (l ++ []) (merge less l []) (more [])
      into-moves more (y ∷ r) = by-test (into-moves more r) (less y x)
        where
          by-test : IsPermutation (x ∷ (l ++ r)) (into less (merge less l) x r) → (t : Bool)
              → IsPermutation (x ∷ (l ++ y ∷ r)) (pick t (y ∷ into less (merge less l) x r) (x ∷ merge less l (y ∷ r)))
          by-test on true =
              IsPermutation-trans (x ∷ (l ++ y ∷ r)) (y ∷ x ∷ (l ++ r)) (y ∷ into less (merge less l) x r)
              (IsPermutation-middle (x ∷ l) y r) (IsPermutation-cons y (x ∷ (l ++ r)) (into less (merge less l) x r) on)
          by-test on false = IsPermutation-cons x (l ++ y ∷ r) (merge less l (y ∷ r)) (more (y ∷ r))

  -- ---- in order: x before what is next, each before the next
  abbrev Above : ℕ → List ℕ → Type 0
  Above x [] = Unit {0}
  Above x (y ∷ l) = less y x ≡ false

  abbrev Rising : List ℕ → Type 0
  Rising [] = Unit {0}
  Rising (x ∷ l) = Above x l × Rising l

  rising_from : (l : List ℕ) → IsSortedBy less l → Rising l
  rising_from [] u = tt
  rising_from (x ∷ []) u = (tt, tt)
  rising_from (x ∷ y ∷ l) u = (u 0 0 (omega arith) (omega arith), rising_from (y ∷ l) (λ k d g h. next k d (u (suc k) d (omega arith) (omega (arith, h)))))
    where
      next : (k d : ℕ) → less (get_or (x ∷ y ∷ l) (suc k + 1) d) (get_or (y ∷ l) k d) ≡ false → less (get_or (y ∷ l) (k + 1) d) (get_or (y ∷ l) k d) ≡ false
      next k d e = let s : suc k + 1 ≡ suc (k + 1) = omega arith in rw s at e

  sorted_from : (l : List ℕ) → Rising l → IsSortedBy less l
  sorted_from [] u k d g h = absurd (omega (arith, h))
  sorted_from (x ∷ []) u k d g h = absurd (omega (arith, h))
  sorted_from (x ∷ y ∷ l) u zero d g h = u.0
  sorted_from (x ∷ y ∷ l) u (suc k) d g h =
      let s : suc k + 1 ≡ suc (k + 1) = omega arith in
      rw s (sorted_from (y ∷ l) u.1 k d (omega arith) (omega (arith, h)))

  module _ (o : IsStrictWeakOrder less) where
    above-both : (x : ℕ) (l r : List ℕ) → Above x l → Above x r → Above x (merge less l r)
    unfolding merge into
    above-both x [] r a b = b
    above-both x (z ∷ l) [] a b = a
    above-both x (z ∷ l) (y ∷ r) a b = by-test (less y z)
      where
        by-test : (t : Bool) → Above x (pick t (y ∷ into less (merge less l) z r) (z ∷ merge less l (y ∷ r)))
        by-test true = b
        by-test false = a

    merge-rising : (l r : List ℕ) → Rising l → Rising r → Rising (merge less l r)
    unfolding merge into
    merge-rising [] r u v = v
    merge-rising (x ∷ l) r u v = into-rising (merge-rising l) r u v
      where
        into-rising : ((r : List ℕ) → Rising l → Rising r → Rising (merge less l r)) → (r : List ℕ) → Rising (x ∷ l) → Rising r → Rising (merge less (x ∷ l) r)
        into-rising more [] u v = (above-both x l [] u.0 tt, more [] u.1 tt)
        into-rising more (y ∷ r) u v = by-test (into-rising more r) (less y x) refl
          where
            by-test : (Rising (x ∷ l) → Rising r → Rising (merge less (x ∷ l) r)) → (t : Bool) → less y x ≡ t → Rising (pick t (y ∷ merge less (x ∷ l) r) (x ∷ merge less l (y ∷ r)))
            by-test on true e = (above-both y (x ∷ l) r (o.one_way y x e) v.0, on u v.1)
            by-test on false e = (above-both x l (y ∷ r) u.0 e, more (y ∷ r) u.1 v)

  -- ---- two parts, of which all of one stand before all of the other
  rising-both : (f g : List ℕ) → Rising f → Rising g → (0 < length f → 0 < length g → less (get_or g 0 0) (get_or f (length f - 1) 0) ≡ false) → Rising (f ++ g)
  rising-both [] g u v w = v
  rising-both (x ∷ []) [] u v w = u
  rising-both (x ∷ []) (y ∷ g) u v w = (w (omega arith) (omega arith), v)
  rising-both (x ∷ z ∷ f) g u v w =
      let s : length (x ∷ z ∷ f) - 1 ≡ suc (length (z ∷ f) - 1) = omega arith in
      (u.0, rising-both (z ∷ f) g u.1 v (λ h k. rw s at (w (omega arith) k)))

-- ---- by halves: the front f of l arranged, then the back g of what is there then, a; b is the whole
module _ (less : ℕ → ℕ → Bool) (o : IsStrictWeakOrder less) (l f g a b : List ℕ) (m : ℕ) (h : m ≤ length l) (p : Arranged less (take m l) f) (e : a ≡ f ++ drop m l)
    (q : Arranged less (take (length a - m) (drop m a)) g) (u : b ≡ take m a ++ (g ++ drop (length a - m) (drop m a))) where
  front : length f ≡ m
  front = length_permutation (take m l) f p.moved ∙ length-take-le m l h

  few : length (drop m a) ≤ length a - m
  few = omega (arith, length-drop m a)

  back : take (length a - m) (drop m a) ≡ drop m l
  back = take_all (length a - m) (drop m a) few ∙ ap (λ (w : List ℕ). drop m w) e ∙ drop_at f (drop m l) m front

  whole : b ≡ f ++ g
  whole = u ∙ rw (drop_of_length-le (drop m a) few, append-nil g, e, take_at f (drop m l) m front)

  first-half : take m b ≡ f
  first-half = ap (λ (w : List ℕ). take m w) whole ∙ take_at f g m front

  second-half : take (length b - m) (drop m b) ≡ g
  second-half = take_all (length b - m) (drop m b) (omega (arith, length-drop m b)) ∙ ap (λ (w : List ℕ). drop m w) whole ∙ drop_at f g m front

  moved : IsPermutation l (f ++ g)
  moved = rw take-append-drop at (IsPermutation-append (take m l) f (drop m l) g p.moved (rw back at q.moved))

  -- the places where they meet
  meet : 0 < m → (t : Bool) → less (get_or b m 0) (get_or b (m - 1) 0) ≡ t → less (get_or g 0 0) (get_or f (length f - 1) 0) ≡ t
  meet k t v =
      let z : m - m ≡ 0 = omega arith in
      let r : get_or b m 0 ≡ get_or g 0 0 = ap (λ (w : List ℕ). get_or w m 0) whole ∙ get_or-append_right f g m m 0 front (omega arith) ∙ ap (λ (n : ℕ). get_or g n 0) z in
      let s : get_or b (m - 1) 0 ≡ get_or f (length f - 1) 0 =
      ap (λ (w : List ℕ). get_or w (m - 1) 0) whole ∙ get_or_append_left f g 0 (m - 1) (omega (arith, front)) ∙ ap (λ (n : ℕ). get_or f (n - 1) 0) (sym front) in
      rw (← r, ← s) v

  pub halves-length : length (take m b) + length (take (length b - m) (drop m b)) ≡ length l
  halves-length = rw (first-half, second-half) (sym (length-append f g) ∙ length_permutation l (f ++ g) moved)

  pub halves_meet : 0 < m → less (get_or b m 0) (get_or b (m - 1) 0) ≡ true → less (get_or (take (length b - m) (drop m b)) 0 0) (get_or (take m b) (length (take m b) - 1) 0) ≡ true
  halves_meet k v = rw (first-half, second-half) (meet k true v)

  pub halves-kept : 0 < m → less (get_or b m 0) (get_or b (m - 1) 0) ≡ false → Arranged less l b
  halves-kept k v = record {
    moved = rw whole moved;
    order = rw whole (sorted_from less (f ++ g) (rising-both less f g (rising_from less f p.order) (rising_from less g q.order) (λ i j. meet k false v)));
  }

  pub halves-merged : (d : List ℕ) → d ≡ merge less (take m b) (take (length b - m) (drop m b)) → Arranged less l d
  halves-merged d v =
      let w : d ≡ merge less f g = v ∙ rw (first-half, second-half) refl in
      record {
        moved = rw w (IsPermutation-trans l (f ++ g) (merge less f g) moved (merge-moves less f g));
        order = rw w (sorted_from less (merge less f g) (merge-rising less o f g (rising_from less f p.order) (rising_from less g q.order)));
      }

-- ---- places that rise, or fall, all the way
module _ (less : ℕ → ℕ → Bool) (ps : List ℕ) where
  pub risen : ((k : ℕ) → k + 1 < length ps → less (get_or ps (k + 1) 0) (get_or ps k 0) ≡ false) → Arranged less ps ps
  risen f = record { moved = IsPermutation-refl ps; order = λ k d g h. rw (get_or_default ps (k + 1) d 0 h, get_or_default ps k d 0 (omega (arith, h))) (f k h) }

  pub fallen : IsStrictWeakOrder less → ((k : ℕ) → k + 1 < length ps → less (get_or ps (k + 1) 0) (get_or ps k 0) ≡ true) → Arranged less ps (reverse ps)
  fallen o f = record { moved = IsPermutation-reverse ps; order = λ k d g h. step k d (omega (arith, h, length-reverse ps)) }
    where
      step : (k d : ℕ) → k + 1 < length ps → less (get_or (reverse ps) (k + 1) d) (get_or (reverse ps) k d) ≡ false
      step k d h =
          let i = length ps - 1 - (k + 1) in
          let s : length ps - 1 - k ≡ i + 1 = omega (arith, h) in
          rw (get_or-reverse ps (k + 1) d h, get_or-reverse ps k d (omega (arith, h)), s, get_or_default ps i d 0 (omega (arith, h)), get_or_default ps (i + 1) d 0 (omega (arith, h)))
          (o.one_way (get_or ps (i + 1) 0) (get_or ps i 0) (f i (omega (arith, h))))
