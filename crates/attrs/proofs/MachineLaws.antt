-- The table of next states against the step by cases, the classes of bytes, one turn of `valid`, and the bytes that it skips. Assumes nothing.
use mathlib.Core.Path.{◌≡◌, refl, ap, ◌∙◌, sym, subst}
use mathlib.Core.Bool.{Bool, true, false, not, true≢false}
use mathlib.Core.List.{List, [], ◌∷◌}
use Prim.Native.Nat.{ℕ, suc, ◌+◌, ◌-◌, ◌<◌, ◌≤◌}
use lib.Dec.{T, eqb, ltb, eqb→eq, leb→le}
use lib.ListN.{length, get_or, take, drop, length-drop, drop_of_length-le, get_or-eq_default}
use lib.Seq.{take_all, drop-drop}
use native.Mathlib.Nat.{add-zero, add_assoc}
use native.Mathlib.Omega.{arith}
use borrow.Author.Tests.{eq-eqb, ne_eqb}
use Rattle.classes.specs.Choice.{pick, both, either}
use Rattle.classes.specs.Classes.{is_space, is_name}
use Rattle.attrs.specs.Machine.{ValueQuoted, Invalid, states, num, steps, next_of, sign_class, class_of, step_of, takes_names, is_quoted, valid_from}
use Rattle.classes.proofs.ChoiceLaws.{both_left, both_right}
use Rattle.classes.proofs.ListLaws.{drop-next}
use Rattle.classes.proofs.TableLaws.{every, at}

-- the code's table, a row for each state in their order
abbrev pub next-table : List (List ℕ)
next-table =
    (1 ∷ 17 ∷ 17 ∷ 17 ∷ 17 ∷ 17 ∷ 17 ∷ 17 ∷ 17 ∷ 17 ∷ 17 ∷ 17 ∷ []) ∷
    (17 ∷ 16 ∷ 5 ∷ 7 ∷ 2 ∷ 17 ∷ 17 ∷ 17 ∷ 1 ∷ 1 ∷ 9 ∷ 17 ∷ []) ∷
    (3 ∷ 16 ∷ 3 ∷ 3 ∷ 1 ∷ 3 ∷ 3 ∷ 3 ∷ 4 ∷ 3 ∷ 3 ∷ 3 ∷ []) ∷
    (3 ∷ 16 ∷ 3 ∷ 3 ∷ 1 ∷ 3 ∷ 3 ∷ 3 ∷ 4 ∷ 3 ∷ 3 ∷ 3 ∷ []) ∷
    (3 ∷ 16 ∷ 3 ∷ 3 ∷ 1 ∷ 3 ∷ 3 ∷ 3 ∷ 4 ∷ 3 ∷ 3 ∷ 3 ∷ []) ∷
    (17 ∷ 17 ∷ 17 ∷ 17 ∷ 17 ∷ 17 ∷ 17 ∷ 17 ∷ 17 ∷ 17 ∷ 6 ∷ 17 ∷ []) ∷
    (17 ∷ 16 ∷ 17 ∷ 17 ∷ 17 ∷ 17 ∷ 17 ∷ 17 ∷ 1 ∷ 1 ∷ 6 ∷ 17 ∷ []) ∷
    (17 ∷ 17 ∷ 17 ∷ 17 ∷ 17 ∷ 17 ∷ 17 ∷ 17 ∷ 17 ∷ 17 ∷ 8 ∷ 17 ∷ []) ∷
    (17 ∷ 16 ∷ 17 ∷ 17 ∷ 17 ∷ 17 ∷ 17 ∷ 17 ∷ 1 ∷ 1 ∷ 8 ∷ 17 ∷ []) ∷
    (17 ∷ 17 ∷ 17 ∷ 17 ∷ 17 ∷ 10 ∷ 17 ∷ 17 ∷ 17 ∷ 17 ∷ 9 ∷ 17 ∷ []) ∷
    (17 ∷ 17 ∷ 17 ∷ 17 ∷ 17 ∷ 17 ∷ 12 ∷ 17 ∷ 17 ∷ 17 ∷ 11 ∷ 17 ∷ []) ∷
    (17 ∷ 16 ∷ 17 ∷ 17 ∷ 17 ∷ 17 ∷ 17 ∷ 17 ∷ 1 ∷ 1 ∷ 11 ∷ 17 ∷ []) ∷
    (12 ∷ 12 ∷ 12 ∷ 12 ∷ 12 ∷ 12 ∷ 1 ∷ 13 ∷ 14 ∷ 12 ∷ 12 ∷ 12 ∷ []) ∷
    (12 ∷ 12 ∷ 12 ∷ 12 ∷ 12 ∷ 12 ∷ 12 ∷ 12 ∷ 14 ∷ 12 ∷ 12 ∷ 12 ∷ []) ∷
    (15 ∷ 15 ∷ 15 ∷ 15 ∷ 15 ∷ 15 ∷ 1 ∷ 15 ∷ 14 ∷ 15 ∷ 15 ∷ 15 ∷ []) ∷
    (15 ∷ 15 ∷ 15 ∷ 15 ∷ 15 ∷ 15 ∷ 1 ∷ 15 ∷ 14 ∷ 15 ∷ 15 ∷ 15 ∷ []) ∷
    (17 ∷ 17 ∷ 17 ∷ 17 ∷ 17 ∷ 17 ∷ 17 ∷ 17 ∷ 17 ∷ 17 ∷ 17 ∷ 17 ∷ []) ∷
    (17 ∷ 17 ∷ 17 ∷ 17 ∷ 17 ∷ 17 ∷ 17 ∷ 17 ∷ 17 ∷ 17 ∷ 17 ∷ 17 ∷ []) ∷
    []

abbrev cell : ℕ → ℕ → ℕ → Bool
cell s c x = both (eqb x (next_of s c)) (ltb x 18)

abbrev row : ℕ → List ℕ → Bool
row s xs = both (eqb (length xs) 12) (every (cell s) 0 0 xs)

-- the table says what the definition does: NextLaws computes it
abbrev pub Tabled : Type 0
Tabled = T (every row [] 0 next-table)

pub rule-by : Tabled → (s c : ℕ) → s < 18 → c < 12 → (get_or (get_or next-table s []) c 0 ≡ next_of s c) × (get_or (get_or next-table s []) c 0 < 18)
rule-by w s c hs hc =
    let xs = get_or next-table s [] in
    let r : T (row s xs) = at row [] next-table w s hs in
    let l : length xs ≡ 12 = eqb→eq (length xs) 12 (both_left (eqb (length xs) 12) (every (cell s) 0 0 xs) r) in
    let x = get_or xs c 0 in
    let t : T (cell s c x) = at (cell s) 0 xs (both_right (eqb (length xs) 12) (every (cell s) 0 0 xs) r) c (omega arith) in
    (eqb→eq x (next_of s c) (both_left (eqb x (next_of s c)) (ltb x 18) t), leb→le (suc x) 18 (both_right (eqb x (next_of s c)) (ltb x 18) t))

-- one step by the table, with the class that the code found
pub step-by : Tabled → (s b c : ℕ) → s < 18 → (c ≡ class_of b) × (c < 12) →
    (get_or (get_or next-table s []) c 0 ≡ step_of s b) × (get_or (get_or next-table s []) c 0 < 18)
unfolding step_of
step-by w s b c hs k =
    let r = rule-by w s c hs k.1 in
    (r.0 ∙ ap (next_of s) k.0, r.1)

-- what a number that is no state's steps to
pub step_past : (s b : ℕ) → 18 ≤ s → step_of s b ≡ 17
unfolding step_of next_of
step_past s b h = ap (λ t. num (steps t (class_of b))) (get_or-eq_default states Invalid h)

-- ---- classes of bytes
-- b is none of the nine signs: what `match` leaves for its last arm
abbrev pub Unsigned : ℕ → Type 0
Unsigned b =
    ((((((((Unit {0} × (b ≡ 123 → ⊥)) × (b ≡ 125 → ⊥)) × (b ≡ 46 → ⊥)) × (b ≡ 35 → ⊥)) × (b ≡ 37 → ⊥)) × (b ≡ 61 → ⊥)) ×
    (b ≡ 34 → ⊥)) × (b ≡ 92 → ⊥)) × (b ≡ 10 → ⊥)

pub unsigned-class : (b : ℕ) → Unsigned b → sign_class b ≡ pick (is_space b) 9 11
unfolding sign_class
unsigned-class b n =
    rw (
      ne_eqb b 123 n.0.0.0.0.0.0.0.0.1,
      ne_eqb b 125 n.0.0.0.0.0.0.0.1,
      ne_eqb b 46 n.0.0.0.0.0.0.1,
      ne_eqb b 35 n.0.0.0.0.0.1,
      ne_eqb b 37 n.0.0.0.0.1,
      ne_eqb b 61 n.0.0.0.1,
      ne_eqb b 34 n.0.0.1,
      ne_eqb b 92 n.0.1,
      ne_eqb b 10 n.1,
    )

-- ---- one turn of `valid`, k bytes taken and the byte at i to come
module _ (s : ℕ) (xs : List ℕ) (k i t : ℕ) (h : i < length xs) (e : t ≡ step_of s (get_or xs i 0)) where
  turn : valid_from s k (drop i xs) ≡ pick (eqb t 16) (k + 1) (pick (eqb t 17) 0 (valid_from t (k + 1) (drop (i + 1) xs)))
  unfolding valid_from
  turn = rw (e, drop-next xs i)

  pub turn-done : t ≡ 16 → valid_from s k (drop i xs) ≡ k + 1
  turn-done p = turn ∙ rw (eq-eqb t 16 p)

  pub turn-invalid : (t ≡ 16 → ⊥) → t ≡ 17 → valid_from s k (drop i xs) ≡ 0
  turn-invalid n p = turn ∙ rw (ne_eqb t 16 n, eq-eqb t 17 p)

  pub turn_on : (t ≡ 16 → ⊥) → (t ≡ 17 → ⊥) → valid_from s k (drop i xs) ≡ valid_from t (k + 1) (drop (i + 1) xs)
  turn_on n m = turn ∙ rw (ne_eqb t 16 n, ne_eqb t 17 m)

pub turn_end : (s : ℕ) (xs : List ℕ) (k i : ℕ) → length xs ≤ i → valid_from s k (drop i xs) ≡ 0
unfolding valid_from
turn_end s xs k i h = rw (drop_of_length-le xs h)

-- ---- bytes that leave the machine in its state
-- the first i bytes of xs leave it in s
abbrev pub Stays : ℕ → List ℕ → ℕ → Type 0
Stays s xs i = (n : ℕ) → valid_from s n xs ≡ valid_from s (n + i) (drop i xs)

pub stays-none : (s : ℕ) (xs : List ℕ) → Stays s xs 0
stays-none s xs n = rw add-zero

pub stays_on : (s : ℕ) (xs : List ℕ) (i : ℕ) → i < length xs → s < 16 → step_of s (get_or xs i 0) ≡ s → Stays s xs i → Stays s xs (i + 1)
stays_on s xs i h l e p n =
    p n ∙ turn_on s xs (n + i) i s h (sym e) (λ q. omega arith) (λ q. omega arith) ∙
    ap (λ (k : ℕ). valid_from s k (drop (i + 1) xs)) (add_assoc n i 1)

-- the first r bytes of what is left at n, in the code's `src[n..]`
pub stays-from : (s : ℕ) (xs : List ℕ) (n r : ℕ) → Stays s (take (length xs - n) (drop n xs)) r →
    valid_from s n (drop n xs) ≡ valid_from s (n + r) (drop (n + r) xs)
stays-from s xs n r p =
    let e : take (length xs - n) (drop n xs) ≡ drop n xs = take_all (length xs - n) (drop n xs) (omega (arith, length-drop n xs)) in
    subst (λ (l : List ℕ). Stays s l r) e p n ∙ rw (drop-drop r n xs)

-- a name byte in the four states that take names
module _ (s b : ℕ) (e : is_name b ≡ true) where
  at-state : (k : ℕ) → k < 16 → next_of k 10 ≡ k → T (eqb s k) → (s < 16) × (step_of s b ≡ s)
  unfolding step_of class_of
  at-state k l p t =
      let q : s ≡ k = eqb→eq s k t in
      rw (q, e) (l, p)

  by_state : (a c d f : Bool) {X : Type 0} → (T a → X) → (T c → X) → (T d → X) → (T f → X) → either a (either c (either d f)) ≡ true → X
  by_state true c d f w x y z p = w tt
  by_state false true d f w x y z p = x tt
  by_state false false true f w x y z p = y tt
  by_state false false false true w x y z p = z tt
  by_state false false false false w x y z p = absurd (true≢false (sym p))

  pub name-stays : takes_names s ≡ true → (s < 16) × (step_of s b ≡ s)
  unfolding takes_names next_of
  name-stays =
      by_state (eqb s 6) (eqb s 8) (eqb s 9) (eqb s 11)
      (at-state 6 (omega arith) refl) (at-state 8 (omega arith) refl) (at-state 9 (omega arith) refl) (at-state 11 (omega arith) refl)

-- a byte that goes on in a quoted value
pub quoted-stays : (b : ℕ) → is_quoted b ≡ true → step_of 12 b ≡ 12
unfolding is_quoted step_of next_of class_of sign_class
quoted-stays b p =
    by_sign (is_name b) (eqb b 123) (eqb b 125) (eqb b 46) (eqb b 35) (eqb b 37) (eqb b 61) (eqb b 34) (eqb b 92) (eqb b 10) (is_space b) p
  where
    by_sign : (a c d e f g h q k l w : Bool) → not (either q (either k l)) ≡ true →
        num (steps ValueQuoted (pick a 10 (pick c 0 (pick d 1 (pick e 2 (pick f 3 (pick g 4
        (pick h 5 (pick q 6 (pick k 7 (pick l 8 (pick w 9 11)))))))))))) ≡ 12
    by_sign true c d e f g h q k l w p = refl
    by_sign false true d e f g h q k l w p = refl
    by_sign false false true e f g h q k l w p = refl
    by_sign false false false true f g h q k l w p = refl
    by_sign false false false false true g h q k l w p = refl
    by_sign false false false false false true h q k l w p = refl
    by_sign false false false false false false true q k l w p = refl
    by_sign false false false false false false false true k l w p = absurd (true≢false (sym p))
    by_sign false false false false false false false false true l w p = absurd (true≢false (sym p))
    by_sign false false false false false false false false false true w p = absurd (true≢false (sym p))
    by_sign false false false false false false false false false false true p = refl
    by_sign false false false false false false false false false false false p = refl
