-- The equal runs of blocks in front and at the back, pair by pair. Assumes nothing.
use Prim.Native.Nat.{ℕ, zero, suc, ◌+◌, ◌-◌, ◌≤◌, ◌<◌, min}
use mathlib.Core.Path.{◌≡◌, refl, sym, ap, ap₂, ◌∙◌}
use mathlib.Core.Bool.{Bool, true, false}
use mathlib.Core.List.{List, [], ◌∷◌, reverse, reverse-append}
use native.Mathlib.Omega.{arith}
use lib.Dec.{eqb}
use lib.ListN.{length, take, drop, get_or, length-take, length-drop, length-reverse, length-map, drop_of_length-le}
use lib.Seq.{take-suc, take-length, drop-cons, get_or-drop}
use borrow.Author.Tests.{eq-eqb, ne_eqb, eqb-true, eqb-false}
use Rattle.classes.specs.Choice.{pick}
use Rattle.equals.specs.Same.{same}
use Rattle.trim.specs.Trim.{part_of}
use Rattle.tops.specs.Tops.{line_start, first_or, blocks_of}
use Rattle.tops.specs.Places.{starts_at, start_behind}
use Rattle.editions.specs.Editions.{front_of, back_of, place_behind, front_run, back_run}
use Rattle.editions.specs.View.{front_at, back_at, left_of}

abbrev Blocks : Type 0
Blocks = List (List ℕ)

-- ---- blocks and where they start
pub blocks-drop : (text ss : List ℕ) (k : ℕ) → blocks_of text (drop k ss) ≡ drop k (blocks_of text ss)
unfolding blocks_of
blocks-drop text ss zero = refl
blocks-drop text [] (suc k) = refl
blocks-drop text (s ∷ ss) (suc k) = blocks-drop text ss k

pub blocks-length : (text ss : List ℕ) → length (blocks_of text ss) ≡ length ss
unfolding blocks_of
blocks-length text [] = refl
blocks-length text (s ∷ ss) = ap suc (blocks-length text ss)

-- a block's bytes run from its start to the next one's
block_here : (text ss : List ℕ) (k : ℕ) → k < length ss → get_or (blocks_of text ss) k [] ≡ part_of text (place_behind text ss k) (place_behind text ss (suc k))
unfolding blocks_of
block_here text [] k h = absurd (omega (arith, h))
block_here text (s ∷ ss) zero h = refl
block_here text (s ∷ ss) (suc k) h = block_here text ss k (omega (arith, h))

-- ---- the front run
module _ (x y : List ℕ) (xs ys : Blocks) where
  pub front-on : same x y ≡ true → front_of (x ∷ xs) (y ∷ ys) ≡ suc (front_of xs ys)
  unfolding front_of
  front-on e = rw e (omega arith)

  pub front-stop : same x y ≡ false → front_of (x ∷ xs) (y ∷ ys) ≡ 0
  unfolding front_of
  front-stop e = rw e

pub front-le : (xs ys : Blocks) → (front_of xs ys ≤ length xs) × (front_of xs ys ≤ length ys)
unfolding front_of
front-le [] ys = (omega arith, omega arith)
front-le (x ∷ xs) [] = (omega arith, omega arith)
front-le (x ∷ xs) (y ∷ ys) = by-case (same x y) (front-le xs ys)
  where
    by-case : (b : Bool) → (front_of xs ys ≤ length xs) × (front_of xs ys ≤ length ys)
        → (pick b (1 + front_of xs ys) 0 ≤ suc (length xs)) × (pick b (1 + front_of xs ys) 0 ≤ suc (length ys))
    by-case true h = (omega (arith, h.0), omega (arith, h.1))
    by-case false h = (omega arith, omega arith)

-- the pair behind the run differs
front-differs : (xs ys : Blocks) (f : ℕ) → f ≡ front_of xs ys → f < length xs → f < length ys → same (get_or xs f []) (get_or ys f []) ≡ false
front-differs [] ys f e h g = absurd (omega (arith, h))
front-differs (x ∷ xs) [] f e h g = absurd (omega (arith, g))
front-differs (x ∷ xs) (y ∷ ys) zero e h g = by-case (same x y) refl
  where
    by-case : (b : Bool) → same x y ≡ b → same x y ≡ false
    by-case true c = absurd (omega (arith, e, front-on x y xs ys c))
    by-case false c = c
front-differs (x ∷ xs) (y ∷ ys) (suc f) e h g = by-case (same x y) refl (λ d. front-differs xs ys f d (omega (arith, h)) (omega (arith, g)))
  where
    by-case : (b : Bool) → same x y ≡ b → (f ≡ front_of xs ys → same (get_or xs f []) (get_or ys f []) ≡ false) → same (get_or xs f []) (get_or ys f []) ≡ false
    by-case true c k = k (omega (arith, e, front-on x y xs ys c))
    by-case false c k = absurd (omega (arith, e, front-stop x y xs ys c))

-- ---- the back run, of what is left without r blocks at the back
abbrev back_from : Blocks → Blocks → ℕ → ℕ
back_from xs ys r = front_of (reverse (take (length xs - r) xs)) (reverse (take (length ys - r) ys))

back_whole : (xs ys : Blocks) → back_from xs ys 0 ≡ back_of xs ys
unfolding back_of
back_whole xs ys =
    let z : (n : ℕ) → n - 0 ≡ n = λ n. omega arith in
    ap₂ (λ (m n : ℕ). front_of (reverse (take m xs)) (reverse (take n ys))) (z (length xs)) (z (length ys)) ∙ ap₂ (λ (u v : Blocks). front_of (reverse u) (reverse v)) (take-length xs) (take-length ys)

last_out : (xs : Blocks) (r : ℕ) → r < length xs → reverse (take (length xs - r) xs) ≡ get_or xs (length xs - 1 - r) [] ∷ reverse (take (length xs - (r + 1)) xs)
last_out xs r h =
    let j = length xs - 1 - r in
    let i : length xs - r ≡ suc j = omega (arith, h) in
    let k : j ≡ length xs - (r + 1) = omega (arith, h) in
    ap (λ (n : ℕ). reverse (take n xs)) i ∙ ap (λ (l : Blocks). reverse l) (take-suc xs j [] (omega (arith, h))) ∙ reverse-append (take j xs) (get_or xs j [] ∷ [])
    ∙ ap (λ (n : ℕ). get_or xs j [] ∷ reverse (take n xs)) k

left-length : (xs : Blocks) (r : ℕ) → length (reverse (take (length xs - r) xs)) ≡ length xs - r
left-length xs r = length-reverse (take (length xs - r) xs) ∙ length-take (length xs - r) xs ∙ omega arith

module _ (xs ys : Blocks) (r : ℕ) where
  back-le : (back_from xs ys r ≤ length xs - r) × (back_from xs ys r ≤ length ys - r)
  back-le =
      let h = front-le (reverse (take (length xs - r) xs)) (reverse (take (length ys - r) ys)) in
      (omega (arith, h.0, left-length xs r), omega (arith, h.1, left-length ys r))

  module _ (h : r < length xs) (g : r < length ys) where
    back-pair : back_from xs ys r
        ≡ front_of (get_or xs (length xs - 1 - r) [] ∷ reverse (take (length xs - (r + 1)) xs)) (get_or ys (length ys - 1 - r) [] ∷ reverse (take (length ys - (r + 1)) ys))
    back-pair = ap₂ front_of (last_out xs r h) (last_out ys r g)

    back_on : same (get_or xs (length xs - 1 - r) []) (get_or ys (length ys - 1 - r) []) ≡ true → back_from xs ys r ≡ suc (back_from xs ys (r + 1))
    back_on e = back-pair ∙ front-on _ _ _ _ e

    back-stop : same (get_or xs (length xs - 1 - r) []) (get_or ys (length ys - 1 - r) []) ≡ false → back_from xs ys r ≡ 0
    back-stop e = back-pair ∙ front-stop _ _ _ _ e

-- how many pairs may be equal: there are so many
module _ (o n : ℕ) where
  pub left_other : (o ≡ n → ⊥) → min o n ≡ left_of o n
  left_other d = rw (ne_eqb o n d)

  pub left-none : o ≡ n → o ≡ 0 → 0 ≡ left_of o n
  left-none e z = rw (eq-eqb o n e) (omega (arith, z))

  pub left-level : o ≡ n → o - 1 ≡ left_of o n
  left-level e = rw (eq-eqb o n e)

  pub left-few : (most r : ℕ) → most ≡ left_of o n → r < most → (r < o) × (r < n)
  left-few most r m h = by-case (eqb o n) refl m
    where
      by-case : (b : Bool) → eqb o n ≡ b → most ≡ pick b (o - 1) (min o n) → (r < o) × (r < n)
      by-case true e c = (omega (arith, h, c), omega (arith, h, c, eqb-true o n e))
      by-case false e c = (omega (arith, h, c), omega (arith, h, c))

-- no pair is left that may be equal: of as many blocks the first pair differs
back-out : (xs ys : Blocks) (r : ℕ) → (0 < length xs → 0 < length ys → same (get_or xs 0 []) (get_or ys 0 []) ≡ false) → left_of (length xs) (length ys) ≤ r → back_from xs ys r ≡ 0
back-out xs ys r d h = by-case (eqb (length xs) (length ys)) refl h
  where
    level : length xs ≡ length ys → length xs - 1 ≤ r → (b : Bool) → eqb (length xs) (r + 1) ≡ b → back_from xs ys r ≡ 0
    level c g true e =
        let n = eqb-true (length xs) (r + 1) e in
        let i : length xs - 1 - r ≡ 0 = omega (arith, n) in
        let j : length ys - 1 - r ≡ 0 = omega (arith, n, c) in
        let x : r < length xs = omega (arith, n) in
        let y : r < length ys = omega (arith, n, c) in
        back-stop xs ys r x y (ap₂ (λ (k l : ℕ). same (get_or xs k []) (get_or ys l [])) i j ∙ d (omega (arith, x)) (omega (arith, y)))
    level c g false e = omega (arith, g, eqb-false (length xs) (r + 1) e, (back-le xs ys r).0)

    by-case : (b : Bool) → eqb (length xs) (length ys) ≡ b → pick b (length xs - 1) (min (length xs) (length ys)) ≤ r → back_from xs ys r ≡ 0
    by-case true c g = level (eqb-true (length xs) (length ys) c) g (eqb (length xs) (r + 1)) refl
    by-case false c g = omega (arith, g, (back-le xs ys r).0, (back-le xs ys r).1)

-- ---- a text whose blocks begin at these places
module _ (text ps : List ℕ) where
  abbrev blocks : Blocks
  blocks = blocks_of text (starts_at text ps)

  all-length : length blocks ≡ length ps
  all-length = blocks-length text (starts_at text ps) ∙ length-map ps (line_start text)

  left-blocks : (k : ℕ) → length (drop k blocks) ≡ length ps - k
  left-blocks k = length-drop k blocks ∙ omega (arith, all-length)

  behind-all : (k : ℕ) → length ps ≤ k → length text ≡ start_behind text ps k
  behind-all k h =
      let e : drop k (starts_at text ps) ≡ [] = drop_of_length-le (starts_at text ps) {i = k} (omega (arith, h, length-map ps (line_start text))) in
      ap (first_or (length text)) (sym e)

  block_at : (k a p : ℕ) → k < length ps → a ≡ start_behind text ps k → p ≡ start_behind text ps (k + 1) → get_or blocks k [] ≡ part_of text a p
  block_at k a p h u v =
      let i : suc k ≡ k + 1 = omega arith in
      block_here text (starts_at text ps) k (omega (arith, h, length-map ps (line_start text))) ∙ ap₂ (part_of text) (sym u) (ap (start_behind text ps) i ∙ sym v)

  -- the first block from index k on, and the last one but r
  block-first : (k a p : ℕ) → k < length ps → a ≡ start_behind text ps k → p ≡ start_behind text ps (k + 1) → drop k blocks ≡ part_of text a p ∷ drop (k + 1) blocks
  block-first k a p h u v =
      let i : suc k ≡ k + 1 = omega arith in
      drop-cons blocks k [] (omega (arith, h, all-length)) ∙ ap₂ (λ (x : List ℕ) (n : ℕ). x ∷ drop n blocks) (block_at k a p h u v) i

  block_last : (k r a p : ℕ) → r < length ps - k → a ≡ start_behind text ps (length ps - 1 - r) → p ≡ start_behind text ps (length ps - r)
      → get_or (drop k blocks) (length (drop k blocks) - 1 - r) [] ≡ part_of text a p
  block_last k r a p h u v =
      let i : k + (length (drop k blocks) - 1 - r) ≡ length ps - 1 - r = omega (arith, h, left-blocks k) in
      let j : length ps - r ≡ length ps - 1 - r + 1 = omega (arith, h) in
      get_or-drop k blocks (length (drop k blocks) - 1 - r) [] ∙ ap (λ (n : ℕ). get_or blocks n []) i
      ∙ block_at (length ps - 1 - r) a p (omega (arith, h)) u (v ∙ ap (start_behind text ps) j)

-- ---- two such texts
module _ (older os newer ns : List ℕ) where
  abbrev xs : Blocks
  xs = blocks older os

  abbrev ys : Blocks
  ys = blocks newer ns

  -- ---- the loop over the front
  pub record Fronting (a b k : ℕ) : Type 0 where
    pub older-here : a ≡ start_behind older os k
    pub newer-here : b ≡ start_behind newer ns k
    pub run : k + front_of (drop k xs) (drop k ys) ≡ front_at older os newer ns

  pub front-start : (a b : ℕ) → a ≡ start_behind older os 0 → b ≡ start_behind newer ns 0 → Fronting a b 0
  unfolding front_run
  front-start a b u v = record { older-here = u; newer-here = v; run = omega arith }

  module _ (most a b k : ℕ) (m : most ≡ min (length os) (length ns)) (f : Fronting a b k) where
    pub front-done : most ≤ k → k ≡ front_at older os newer ns
    front-done h =
        let g = front-le (drop k xs) (drop k ys) in
        omega (arith, h, m, f.run, g.0, g.1, left-blocks older os k, left-blocks newer ns k)

    module _ (h : k < most) (p q : ℕ) (u : p ≡ start_behind older os (k + 1)) (v : q ≡ start_behind newer ns (k + 1)) where
      front-pair : front_of (drop k xs) (drop k ys) ≡ front_of (part_of older a p ∷ drop (k + 1) xs) (part_of newer b q ∷ drop (k + 1) ys)
      front-pair = ap₂ front_of (block-first older os k a p (omega (arith, h, m)) f.older-here u) (block-first newer ns k b q (omega (arith, h, m)) f.newer-here v)

      pub front-differ : same (part_of older a p) (part_of newer b q) ≡ false → k ≡ front_at older os newer ns
      front-differ e = omega (arith, f.run, front-pair ∙ front-stop _ _ _ _ e)

      pub front-again : same (part_of older a p) (part_of newer b q) ≡ true → Fronting p q (k + 1)
      front-again e = record { older-here = u; newer-here = v; run = omega (arith, f.run, front-pair ∙ front-on _ _ _ _ e) }

  -- ---- the loop over the back
  pub front_fits : (k : ℕ) → k ≡ front_at older os newer ns → (k ≤ length os) × (k ≤ length ns)
  unfolding front_run
  front_fits k e =
      let h = front-le xs ys in
      (omega (arith, e, h.0, all-length older os), omega (arith, e, h.1, all-length newer ns))

  module _ (k : ℕ) where
    abbrev us : Blocks
    us = drop k xs

    abbrev vs : Blocks
    vs = drop k ys

    pub record Backing (p q r : ℕ) : Type 0 where
      pub older-here : p ≡ start_behind older os (length os - r)
      pub newer-here : q ≡ start_behind newer ns (length ns - r)
      pub run : r + back_from us vs r ≡ back_at older os newer ns

    module _ (e : k ≡ front_at older os newer ns) where
      whole : back_from us vs 0 ≡ back_at older os newer ns
      unfolding back_run
      whole = back_whole us vs ∙ ap (λ (n : ℕ). back_of (drop n xs) (drop n ys)) e

      pub back_start : Backing (length older) (length newer) 0
      back_start = record {
        older-here = behind-all older os (length os - 0) (omega arith);
        newer-here = behind-all newer ns (length ns - 0) (omega arith);
        run = omega (arith, whole);
      }

      -- the two runs are no longer than what they are runs of
      pub runs_fit : (r : ℕ) → r ≡ back_at older os newer ns → (k + r ≤ length os) × (k + r ≤ length ns)
      runs_fit r d =
          let h = back-le us vs 0 in
          let g = front_fits k e in
          (omega (arith, d, whole, h.0, g.0, left-blocks older os k), omega (arith, d, whole, h.1, g.1, left-blocks newer ns k))

      -- the front run ended at the first pair
      first-differs : 0 < length us → 0 < length vs → same (get_or us 0 []) (get_or vs 0 []) ≡ false
      unfolding front_run
      first-differs h g =
          let z : k + 0 ≡ k = omega arith in
          ap₂ same (get_or-drop k xs 0 [] ∙ ap (λ (n : ℕ). get_or xs n []) z) (get_or-drop k ys 0 [] ∙ ap (λ (n : ℕ). get_or ys n []) z)
          ∙ front-differs xs ys k e (omega (arith, h, length-drop k xs)) (omega (arith, g, length-drop k ys))

      module _ (most p q r : ℕ) (m : most ≡ left_of (length os - k) (length ns - k)) (f : Backing p q r) where
        pub back_done : most ≤ r → r ≡ back_at older os newer ns
        back_done h =
            let i = ap₂ left_of (left-blocks older os k) (left-blocks newer ns k) in
            omega (arith, f.run, back-out us vs r first-differs (omega (arith, h, m, i)))

        module _ (h : r < most) (a b : ℕ) (u : a ≡ start_behind older os (length os - 1 - r)) (v : b ≡ start_behind newer ns (length ns - 1 - r)) where
          few : (r < length os - k) × (r < length ns - k)
          few = left-few (length os - k) (length ns - k) most r m h

          older-few : r < length us
          older-few = omega (arith, few.0, left-blocks older os k)

          newer-few : r < length vs
          newer-few = omega (arith, few.1, left-blocks newer ns k)

          pair : same (get_or us (length us - 1 - r) []) (get_or vs (length vs - 1 - r) []) ≡ same (part_of older a p) (part_of newer b q)
          pair = ap₂ same (block_last older os k r a p few.0 u f.older-here) (block_last newer ns k r b q few.1 v f.newer-here)

          pub back-differ : same (part_of older a p) (part_of newer b q) ≡ false → r ≡ back_at older os newer ns
          back-differ d = omega (arith, f.run, back-stop us vs r older-few newer-few (pair ∙ d))

          pub back-again : same (part_of older a p) (part_of newer b q) ≡ true → Backing a b (r + 1)
          back-again d =
              let i : (n : ℕ) → n - 1 - r ≡ n - (r + 1) = λ n. omega arith in
              record {
                older-here = u ∙ ap (start_behind older os) (i (length os));
                newer-here = v ∙ ap (start_behind newer ns) (i (length ns));
                run = omega (arith, f.run, back_on us vs r older-few newer-few (pair ∙ d));
              }
