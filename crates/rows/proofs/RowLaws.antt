-- Backtick runs, what a place found tells of the bytes before it, one law for each way of a turn of `next_cell`, and dashes. Assumes nothing.
use mathlib.Core.Path.{◌≡◌, refl, sym, ap, ◌∙◌}
use mathlib.Core.Bool.{Bool, true, false, not, cond, false≢true}
use mathlib.Core.List.{List, [], ◌∷◌}
use Rattle.std.specs.Prelude.{Some, None, Ok}
use Rattle.std.specs.Option.{unwrap_or}
use Rattle.std.specs.List.{position, position_or_len, prefix_len}
use Rattle.std.proofs.lemmas.List.Quantifiers.{position-Some}
use Rattle.std.proofs.lemmas.List.Sums.{prefix_len_passes}
use Rattle.std.proofs.lemmas.List.Folds.{length-prefix_len}
use Rattle.std.proofs.lemmas.Bool.Decides.{nat_tests}
use Prim.Native.Nat.{ℕ, zero, suc, ◌+◌, ◌-◌, ◌≤◌, ◌<◌}
use native.Mathlib.Nat.{add-zero}
use native.Mathlib.Omega.{arith}
use lib.Dec.{eqb, ltb}
use lib.ListN.{length, take, drop, get_or, length-drop, length-take, drop_of_length-le}
use lib.Seq.{get_or-drop, drop-drop, take_all}
use borrow.Author.Tests.{eq-eqb, ne_eqb, eqb-true, eqb-false, not-true}
use Rattle.classes.proofs.ListLaws.{drop-next}
use Rattle.classes.specs.Choice.{pick, both, either}
use Rattle.rows.specs.Rows.{ticks_of, after_run, hides_at, row_end, cell_from, is_sign, dashes_of, dash_end}

-- ---- backticks
module _ (xs : List ℕ) (k : ℕ) (h : k < length xs) where
  pub ticks-more : get_or xs k 0 ≡ 96 → ticks_of (drop k xs) ≡ suc (ticks_of (drop (k + 1) xs))
  unfolding ticks_of
  ticks-more e = rw (drop-next xs k, eq-eqb (get_or xs k 0) 96 e)

  pub ticks-stop : (get_or xs k 0 ≡ 96 → ⊥) → ticks_of (drop k xs) ≡ 0
  unfolding ticks_of
  ticks-stop n = rw (drop-next xs k, ne_eqb (get_or xs k 0) 96 n)

pub ticks-end : (xs : List ℕ) (k : ℕ) → length xs ≤ k → ticks_of (drop k xs) ≡ 0
unfolding ticks_of
ticks-end xs k h = rw (drop_of_length-le xs h)

-- ---- cells
skip : (k o i : ℕ) (ys : List ℕ) → cell_from k o i ys ≡ cell_from zero o (i + k) (drop k ys)
unfolding cell_from
skip zero o i ys = ap (λ j. cell_from zero o j ys) (sym (add-zero i))
skip (suc k) o i [] = refl
skip (suc k) o i (b ∷ bs) =
    let e : i + 1 + k ≡ i + suc k = omega arith in
    skip k o (i + 1) bs ∙ ap (λ j. cell_from zero o j (drop k bs)) e

pass : (xs : List ℕ) (k o i : ℕ) → cell_from k o i (drop i xs) ≡ cell_from zero o (i + k) (drop (i + k) xs)
pass xs k o i = skip k o i (drop i xs) ∙ ap (cell_from zero o (i + k)) (drop-drop k i xs)

module _ (xs : List ℕ) (o i : ℕ) (h : i < length xs) where
  run : get_or xs i 0 ≡ 96 → cell_from zero o i (drop i xs) ≡ cell_from (ticks_of (drop i xs)) (after_run o (ticks_of (drop i xs))) i (drop i xs)
  unfolding ticks_of cell_from
  run e = rw (drop-next xs i, eq-eqb (get_or xs i 0) 96 e)

  pub turn-run : (n m : ℕ) → get_or xs i 0 ≡ 96 → n ≡ ticks_of (drop i xs) → m ≡ after_run o n → cell_from zero o i (drop i xs) ≡ cell_from zero m (i + n) (drop (i + n) xs)
  turn-run n m e p q = run e ∙ rw (← p, ← q) (pass xs n m i)

  module _ (n : get_or xs i 0 ≡ 96 → ⊥) where
    pub turn_inside : (o ≡ 0 → ⊥) → cell_from zero o i (drop i xs) ≡ cell_from zero o (i + 1) (drop (i + 1) xs)
    unfolding cell_from
    turn_inside m = rw (drop-next xs i, ne_eqb (get_or xs i 0) 96 n, ne_eqb o 0 m)

    module _ (z : o ≡ 0) where
      pub turn-pipe : get_or xs i 0 ≡ 124 → cell_from zero o i (drop i xs) ≡ Ok i
      unfolding cell_from
      turn-pipe e = rw (drop-next xs i, ne_eqb (get_or xs i 0) 96 n, eq-eqb o 0 z, eq-eqb (get_or xs i 0) 124 e)

      module _ (m : get_or xs i 0 ≡ 124 → ⊥) where
        hidden : hides_at (drop i xs) ≡ true → cell_from zero o i (drop i xs) ≡ cell_from 2 o i (drop i xs)
        unfolding cell_from
        hidden e = rw (drop-next xs i, ne_eqb (get_or xs i 0) 96 n, eq-eqb o 0 z, ne_eqb (get_or xs i 0) 124 m, rw (drop-next xs i) at e)

        pub turn-hidden : hides_at (drop i xs) ≡ true → cell_from zero o i (drop i xs) ≡ cell_from zero o (i + 2) (drop (i + 2) xs)
        turn-hidden e = hidden e ∙ pass xs 2 o i

        pub turn-plain : hides_at (drop i xs) ≡ false → cell_from zero o i (drop i xs) ≡ cell_from zero o (i + 1) (drop (i + 1) xs)
        unfolding cell_from
        turn-plain e = rw (drop-next xs i, ne_eqb (get_or xs i 0) 96 n, eq-eqb o 0 z, ne_eqb (get_or xs i 0) 124 m, rw (drop-next xs i) at e)

-- plain bytes outside runs: each is passed over
false_left : (a b : Bool) → either a b ≡ false → a ≡ false
false_left true b p = p
false_left false b p = refl

false_right : (a b : Bool) → either a b ≡ false → b ≡ false
false_right true true p = p
false_right true false p = refl
false_right false b p = p

past-plain : (b i : ℕ) (bs : List ℕ) → is_sign b ≡ false → cell_from zero 0 i (b ∷ bs) ≡ cell_from zero 0 (i + 1) bs
unfolding cell_from hides_at is_sign
past-plain b i bs e =
    let r = false_right (eqb b 96) (either (eqb b 124) (eqb b 92)) e in
    rw (false_left (eqb b 96) (either (eqb b 124) (eqb b 92)) e, false_left (eqb b 124) (eqb b 92) r, false_right (eqb b 124) (eqb b 92) r)

pub turn_end : (xs : List ℕ) (o i : ℕ) → length xs ≤ i → cell_from zero o i (drop i xs) ≡ row_end (not (eqb o 0))
unfolding cell_from
turn_end xs o i h = rw (drop_of_length-le xs h)

-- n places, each of which leaves what is ahead as it is
along : (xs : List ℕ) (o n i : ℕ) → ((j : ℕ) → j < n → cell_from zero o (i + j) (drop (i + j) xs) ≡ cell_from zero o (i + j + 1) (drop (i + j + 1) xs))
    → cell_from zero o i (drop i xs) ≡ cell_from zero o (i + n) (drop (i + n) xs)
along xs o zero i h = ap (λ j. cell_from zero o j (drop j xs)) (sym (add-zero i))
along xs o (suc n) i h =
    let e : i + n + 1 ≡ i + suc n = omega arith in
    along xs o n i (λ j k. h j (omega arith)) ∙ h n (omega arith) ∙ ap (λ j. cell_from zero o j (drop j xs)) e

-- ---- places found
-- where none is found, no byte passes
none-found : (p : ℕ → Bool) (ys : List ℕ) → position p ys ≡ None → (j : ℕ) → j < length ys → p (get_or ys j 0) ≡ false
none-found p ys e j h = by_test (ltb (position_or_len p ys) (length ys)) refl e
  where
    by_test : (b : Bool) → ltb (position_or_len p ys) (length ys) ≡ b → cond b (Some (position_or_len p ys)) None ≡ None → p (get_or ys j 0) ≡ false
    by_test true q d = absurd (cc d)
    by_test false q d =
        let l : length ys ≤ position_or_len p ys = grind (arith, nat_tests) in
        not-true (p (get_or ys j 0)) (prefix_len_passes (λ x. not (p x)) ys j 0 (omega arith))

module _ (xs : List ℕ) (i : ℕ) (h : i ≤ length xs) where
  module _ (o : ℕ) (z : o ≡ 0 → ⊥) where
    inside : (t : ℕ) → i + t ≤ length xs → ((j : ℕ) → j < t → eqb (get_or (drop i xs) j 0) 96 ≡ false) → cell_from zero o i (drop i xs) ≡ cell_from zero o (i + t) (drop (i + t) xs)
    inside t l p = along xs o t i (λ j k. turn_inside xs o (i + j) (omega arith) (eqb-false _ _ (rw get_or-drop at (p j k))) z)

    -- inside a run: the next backtick, or none
    pub tick-at : (t : ℕ) → position (λ b. eqb b 96) (drop i xs) ≡ Some t → (i + t < length xs) × (get_or xs (i + t) 0 ≡ 96) × (cell_from zero o i (drop i xs) ≡ cell_from zero o (i + t) (drop (i + t) xs))
    tick-at t e =
        let f = position-Some (λ b. eqb b 96) (drop i xs) t 0 e in
        let l : i + t < length xs = omega (arith, f.0, length-drop i xs) in
        (l, eqb-true _ _ (rw get_or-drop at f.1), inside t (omega arith) f.2)

    pub tick-none : position (λ b. eqb b 96) (drop i xs) ≡ None → cell_from zero o i (drop i xs) ≡ row_end true
    tick-none e =
        let t = length xs - i in
        inside t (omega arith) (λ j k. none-found (λ b. eqb b 96) (drop i xs) e j (omega (arith, length-drop i xs))) ∙ turn_end xs o (i + t) (omega arith) ∙ rw (ne_eqb o 0 z)

  outside : (t : ℕ) → i + t ≤ length xs → ((j : ℕ) → j < t → is_sign (get_or (drop i xs) j 0) ≡ false) → cell_from zero 0 i (drop i xs) ≡ cell_from zero 0 (i + t) (drop (i + t) xs)
  outside t l p = along xs 0 t i (λ j k. let d : i + j < length xs = omega arith in rw (drop-next xs (i + j)) (past-plain _ (i + j) (drop (i + j + 1) xs) (rw get_or-drop at (p j k))))

  -- outside runs: the next sign, or none
  pub sign-at : (t : ℕ) → position is_sign (drop i xs) ≡ Some t → (i + t < length xs) × (is_sign (get_or xs (i + t) 0) ≡ true) × (cell_from zero 0 i (drop i xs) ≡ cell_from zero 0 (i + t) (drop (i + t) xs))
  sign-at t e =
      let f = position-Some is_sign (drop i xs) t 0 e in
      let l : i + t < length xs = omega (arith, f.0, length-drop i xs) in
      (l, rw get_or-drop at f.1, outside t (omega arith) f.2)

  pub sign-none : position is_sign (drop i xs) ≡ None → cell_from zero 0 i (drop i xs) ≡ row_end false
  sign-none e =
      let t = length xs - i in
      outside t (omega arith) (λ j k. none-found is_sign (drop i xs) e j (omega (arith, length-drop i xs))) ∙ turn_end xs 0 (i + t) (omega arith)

-- outside runs: a plain byte, and then a sign
pub sign-second : (xs ys : List ℕ) (i : ℕ) → ys ≡ drop i xs → 2 ≤ length ys → is_sign (get_or ys 0 0) ≡ false → is_sign (get_or ys 1 0) ≡ true
    → (i + 1 < length xs) × (is_sign (get_or xs (i + 1) 0) ≡ true) × (cell_from zero 0 i (drop i xs) ≡ cell_from zero 0 (i + 1) (drop (i + 1) xs))
sign-second xs ys i p l e f =
    let m : 2 ≤ length (drop i xs) = omega (arith, l, ap length p) in
    let h : i + 1 < length xs = omega (arith, m, length-drop i xs) in
    let g : is_sign (get_or (drop i xs) 0 0) ≡ false = ap (λ zs. is_sign (get_or zs 0 0)) (sym p) ∙ e in
    let s : is_sign (get_or (drop i xs) 1 0) ≡ true = ap (λ zs. is_sign (get_or zs 1 0)) (sym p) ∙ f in
    (h, rw get_or-drop at s, outside xs i (omega (arith, h)) 1 (omega (arith, h)) (λ j k. let z : j ≡ 0 = omega (arith, k) in rw z g))

-- what stands from i on, as the code has it
pub from-here : (xs : List ℕ) (i : ℕ) → take (length xs - i) (drop i xs) ≡ drop i xs
from-here xs i = take_all (length xs - i) (drop i xs) (omega (arith, length-drop i xs))

-- ---- a run that opens, one that closes it, and one that leaves it open
module _ (xs : List ℕ) (i n : ℕ) (h : i < length xs) (e : get_or xs i 0 ≡ 96) (p : n ≡ ticks_of (drop i xs)) where
  some-ticks : 0 < n
  some-ticks = omega (arith, p, ticks-more xs i h e)

  pub opens : (0 < n) × (cell_from zero 0 i (drop i xs) ≡ cell_from zero n (i + n) (drop (i + n) xs))
  unfolding after_run
  opens = (some-ticks, turn-run xs 0 i h n n e p refl)

  pub closes : (o : ℕ) → n ≡ o → cell_from zero o i (drop i xs) ≡ cell_from zero 0 (i + n) (drop (i + n) xs)
  unfolding after_run
  closes o q = turn-run xs o i h n 0 e p (rw (ne_eqb o 0 (λ z. omega (arith, some-ticks)), eq-eqb o n (sym q)))

  pub stays-open : (o : ℕ) → (o ≡ 0 → ⊥) → (n ≡ o → ⊥) → (0 < n) × (cell_from zero o i (drop i xs) ≡ cell_from zero o (i + n) (drop (i + n) xs))
  unfolding after_run
  stays-open o z m = (some-ticks, turn-run xs o i h n o e p (rw (ne_eqb o 0 z, ne_eqb o n (λ q. m (sym q)))))

-- ---- runs of backticks and of dashes, by how far they reach
pub ticks-reach : (xs : List ℕ) → ticks_of xs ≡ prefix_len (λ b. eqb b 96) xs
unfolding ticks_of
ticks-reach [] = refl
ticks-reach (x ∷ xs) = by_test (ticks-reach xs) (eqb x 96) refl
  where
    by_test : ticks_of xs ≡ prefix_len (λ b. eqb b 96) xs → (b : Bool) → eqb x 96 ≡ b → pick (eqb x 96) (suc (ticks_of xs)) 0 ≡ prefix_len (λ b. eqb b 96) (x ∷ xs)
    by_test r true e = rw e (omega (arith, r))
    by_test r false e = rw e

-- where the first byte stands that is no backtick, or the length
pub ticks-first : (xs : List ℕ) → ticks_of xs ≡ position_or_len (λ b. not (eqb b 96)) xs
unfolding ticks_of
ticks-first [] = refl
ticks-first (x ∷ xs) = by_test (ticks-first xs) (eqb x 96) refl
  where
    by_test : ticks_of xs ≡ position_or_len (λ b. not (eqb b 96)) xs → (b : Bool) → eqb x 96 ≡ b → pick (eqb x 96) (suc (ticks_of xs)) 0 ≡ position_or_len (λ b. not (eqb b 96)) (x ∷ xs)
    by_test r true e = rw e (omega (arith, r))
    by_test r false e = rw e

-- a run that ends within the first n bytes
pub reach-within : (p : ℕ → Bool) (n : ℕ) (xs : List ℕ) → prefix_len p (take n xs) < n → prefix_len p (take n xs) ≡ prefix_len p xs
reach-within p zero xs h = absurd (omega (arith, h))
reach-within p (suc n) [] h = refl
reach-within p (suc n) (x ∷ xs) h = by_test (reach-within p n xs) (p x) h
  where
    by_test : (prefix_len p (take n xs) < n → prefix_len p (take n xs) ≡ prefix_len p xs) → (b : Bool) → cond b (1 + prefix_len p (take n xs)) 0 < suc n → cond b (1 + prefix_len p (take n xs)) 0 ≡ cond b (1 + prefix_len p xs) 0
    by_test r true l = ap (λ k. 1 + k) (r (omega (arith, l)))
    by_test r false l = refl

last-colon : (n : ℕ) → eqb n 0 ≡ eqb (n + 1) 1
last-colon zero = refl
last-colon (suc n) = ne_eqb (suc n) 0 (λ e. omega arith) ∙ sym (ne_eqb (suc n + 1) 1 (λ e. omega arith))

-- where the first byte stands that is no dash, or the length: only a colon may stand there, and last
pub dashes-reach : (xs : List ℕ) → dashes_of xs ≡ dash_end xs (position_or_len (λ b. not (eqb b 45)) xs)
unfolding dashes_of dash_end
dashes-reach [] = refl
dashes-reach (x ∷ xs) = by_test (dashes-reach xs) (eqb x 45) refl
  where
    by_test : dashes_of xs ≡ dash_end xs (position_or_len (λ b. not (eqb b 45)) xs) → (b : Bool) → eqb x 45 ≡ b → dashes_of (x ∷ xs) ≡ dash_end (x ∷ xs) (position_or_len (λ b. not (eqb b 45)) (x ∷ xs))
    by_test r true e = let m = position_or_len (λ b. not (eqb b 45)) xs in let q : 1 + m ≡ suc m = omega arith in rw (e, q) r
    by_test r false e = let l : length (x ∷ xs) ≡ length xs + 1 = omega arith in rw (e, ne_eqb (length (x ∷ xs)) 0 (λ q. omega arith), l) (ap (both (eqb x 58)) (last-colon (length xs)))

pub first-or_end : (p : ℕ → Bool) (xs : List ℕ) (n : ℕ) → n ≡ unwrap_or (position p xs) (length xs) → (n ≤ length xs) × (n ≡ position_or_len p xs)
first-or_end p xs n e = by_test (ltb (position_or_len p xs) (length xs)) refl e
  where
    l : position_or_len p xs ≤ length xs
    l = omega (arith, length-prefix_len (λ x. not (p x)) xs, length-take (position_or_len p xs) xs)

    by_test : (b : Bool) → ltb (position_or_len p xs) (length xs) ≡ b → n ≡ unwrap_or (cond b (Some (position_or_len p xs)) None) (length xs) → (n ≤ length xs) × (n ≡ position_or_len p xs)
    by_test true q d = let e : n ≡ position_or_len p xs = d in (omega (arith, e, l), e)
    by_test false q d = let e : n ≡ length xs = d in let m : length xs ≤ position_or_len p xs = grind (arith, nat_tests) in (omega (arith, e), omega (arith, e, m, l))

-- a sign that is no backslash and no pipe
pub tick-left : (b : ℕ) → is_sign b ≡ true → (b ≡ 92 → ⊥) → (b ≡ 124 → ⊥) → b ≡ 96
unfolding is_sign
tick-left b s n m = by-test (eqb b 96) refl (rw (ne_eqb b 124 m, ne_eqb b 92 n) at s)
  where
    by-test : (t : Bool) → eqb b 96 ≡ t → either t false ≡ true → b ≡ 96
    by-test true e s = eqb-true b 96 e
    by-test false e s = absurd (false≢true s)
