-- What sorted places are: those that were numbered, moved about, in order. Assumes nothing.
use Prim.Native.Nat.{ℕ, zero, suc, ◌+◌, ◌≤◌, ◌<◌}
use mathlib.Core.Path.{◌≡◌, refl, sym, ap, ◌∙◌}
use mathlib.Core.Bool.{Bool, true, false, true≢false}
use mathlib.Core.List.{List, [], ◌∷◌, ◌++◌}
use native.Mathlib.Omega.{arith}
use lib.Dec.{eqb}
use lib.ListN.{length, get_or, take, set}
use lib.Seq.{take-suc-set}
use borrow.Author.Tests.{eqb-true, eqb-false, eq-eqb, ne_eqb}
use Rattle.std.specs.List.{swap}
use Rattle.std.specs.Cmp.{IsTotalOrder, IsStrictWeakOrder}
use Rattle.std.specs.List.Sorted.{IsPermutation, IsSortedBy}
use Rattle.std.specs.declared.cmp.Ordering.{Ordering}
use Rattle.std.specs.declared.cmp.Ordering.TheVariants.{Less, Equal, Greater}
use Rattle.std.specs.Ordering.{nat_cmp, is_le, is_lt, ordering_then, ordering_reverse}
use Rattle.std.proofs.lemmas.Cmp.{nat_cmp_total, then_total, ranked}
use Rattle.std.proofs.lemmas.List.Edits.{Swapped, swapped_from_swap, length-swap}
use Rattle.std.proofs.lemmas.List.Sorted.{IsPermutation-keeps, ranks_by, sorted_far}
use Rattle.classes.specs.Choice.{pick}
use Rattle.ranks.specs.Sorting.{upto, At, Arranged, Sorted}

-- ---- the places that are numbered
pub upto-length : (j n : ℕ) → length (upto j n) ≡ n
unfolding upto
upto-length j zero = refl
upto-length j (suc n) = ap suc (upto-length (suc j) n)

pub upto-at : (j n i : ℕ) → i < n → get_or (upto j n) i 0 ≡ j + i
unfolding upto
upto-at j zero i h = absurd (omega (arith, h))
upto-at j (suc n) zero h = omega arith
upto-at j (suc n) (suc i) h = omega (arith, upto-at (suc j) n i (omega (arith, h)))

pub upto-start : [] ≡ upto 0 0
unfolding upto
upto-start = refl

upto-next : (j n : ℕ) → upto j n ++ (j + n) ∷ [] ≡ upto j (n + 1)
unfolding upto
upto-next j zero = let e : j + 0 ≡ j = omega arith in rw e
upto-next j (suc n) =
    let e : j + suc n ≡ suc j + n = omega arith in
    let f : suc n + 1 ≡ suc (n + 1) = omega arith in
    rw (e, f) (ap (λ (l : List ℕ). j ∷ l) (upto-next (suc j) n))

pub upto-turn : (ps : List ℕ) (i : ℕ) → i < length ps → take i ps ≡ upto 0 i → take (i + 1) (set ps i i) ≡ upto 0 (i + 1)
upto-turn ps i h p =
    let e : i + 1 ≡ suc i = omega arith in
    let f : 0 + i ≡ i = omega arith in
    ap (λ (k : ℕ). take k (set ps i i)) e ∙ take-suc-set ps i i h ∙ ap (λ (l : List ℕ). l ++ i ∷ []) p ∙ rw f at (upto-next 0 i)

-- ---- moved about: all of them, each once
record Moved (n : ℕ) (ps : List ℕ) : Type 0 where
  pub size : length ps ≡ n
  pub small : (i : ℕ) → i < n → get_or ps i 0 < n
  pub every : (p : ℕ) → p < n → At ps p
  pub once : (i j : ℕ) → i < n → j < n → get_or ps i 0 ≡ get_or ps j 0 → i ≡ j

numbered : (n : ℕ) → Moved n (upto 0 n)
numbered n = record {
  size = upto-length 0 n;
  small = λ i h. omega (arith, upto-at 0 n i h, h);
  every = λ p h. record { index = p; within = omega (arith, h, upto-length 0 n); is = omega (arith, upto-at 0 n p h) };
  once = λ i j h k e. omega (arith, upto-at 0 n i h, upto-at 0 n j k, e);
}

-- where the one at i stood before a swap of a and b
abbrev before : ℕ → ℕ → ℕ → ℕ
before a b i = pick (eqb i a) b (pick (eqb i b) a i)

before-left : (a b i : ℕ) → i ≡ a → before a b i ≡ b
before-left a b i e = rw (eq-eqb i a e)

before-right : (a b i : ℕ) → i ≡ b → before a b i ≡ a
before-right a b i e = by-test (eqb i a) refl
  where
    by-test : (t : Bool) → eqb i a ≡ t → pick t b (pick (eqb i b) a i) ≡ a
    by-test true f = omega (arith, e, eqb-true i a f)
    by-test false f = rw (eq-eqb i b e)

before-other : (a b i : ℕ) → (i ≡ a → ⊥) → (i ≡ b → ⊥) → before a b i ≡ i
before-other a b i e f = rw (ne_eqb i a e, ne_eqb i b f)

-- each of the three
by-three : {P : Type 0} (a b i : ℕ) → (i ≡ a → P) → (i ≡ b → P) → ((i ≡ a → ⊥) → (i ≡ b → ⊥) → P) → P
by-three {P} a b i f g h = by-test (eqb i a) (eqb i b) refl refl
  where
    by-test : (s t : Bool) → eqb i a ≡ s → eqb i b ≡ t → P
    by-test true t u v = f (eqb-true i a u)
    by-test false true u v = g (eqb-true i b v)
    by-test false false u v = h (eqb-false i a u) (eqb-false i b v)

before-twice : (a b i : ℕ) → before a b (before a b i) ≡ i
before-twice a b i =
    by-three a b i (λ e. ap (before a b) (before-left a b i e) ∙ before-right a b b refl ∙ sym e) (λ e. ap (before a b) (before-right a b i e) ∙ before-left a b a refl ∙ sym e)
    (λ e f. ap (before a b) (before-other a b i e f) ∙ before-other a b i e f)

before-less : (n a b i : ℕ) → a < n → b < n → i < n → before a b i < n
before-less n a b i h k l = by-three a b i (λ e. omega (arith, before-left a b i e)) (λ e. omega (arith, before-right a b i e)) (λ e f. omega (arith, before-other a b i e f))

swapped : (n : ℕ) (l : List ℕ) (a b : ℕ) → a < length l → b < length l → Moved n l → Moved n (swap l a b)
swapped n l a b h k m = record {
  size = length-swap l a b ∙ m.size;
  small = λ i g. let w = m.small (before a b i) (less i g) in omega (arith, w, came i);
  every = λ p g.
      let w = m.every p g in
      record { index = before a b w.index; within = omega (arith, before-less (length l) a b w.index h k w.within, length-swap l a b); is = came (before a b w.index) ∙ ap (λ (j : ℕ). get_or l j 0) (before-twice a b w.index) ∙ w.is };
  once = λ i j g d e.
      let w = m.once (before a b i) (before a b j) (less i g) (less j d) (sym (came i) ∙ e ∙ came j) in
      sym (before-twice a b i) ∙ ap (before a b) w ∙ before-twice a b j;
}
  where
    way : Swapped (λ i. get_or l i 0) (λ i. get_or (swap l a b) i 0) a b
    way = swapped_from_swap l (swap l a b) a b 0 h k refl

    less : (i : ℕ) → i < n → before a b i < n
    less i g = before-less n a b i (omega (arith, h, m.size)) (omega (arith, k, m.size)) g

    came : (i : ℕ) → get_or (swap l a b) i 0 ≡ get_or l (before a b i) 0
    came i =
        by-three a b i (λ e. ap (λ (j : ℕ). get_or (swap l a b) j 0) e ∙ way.0 ∙ ap (λ (j : ℕ). get_or l j 0) (sym (before-left a b i e)))
        (λ e. ap (λ (j : ℕ). get_or (swap l a b) j 0) e ∙ way.1 ∙ ap (λ (j : ℕ). get_or l j 0) (sym (before-right a b i e)))
        (λ e f. way.2 i e f ∙ ap (λ (j : ℕ). get_or l j 0) (sym (before-other a b i e f)))

moved : (n : ℕ) (ps : List ℕ) → IsPermutation (upto 0 n) ps → Moved n ps
moved n ps p = IsPermutation-keeps (upto 0 n) (λ l. Moved n l) (numbered n) (λ l i j h k m. swapped n l i j h k m) ps p

-- ---- in order
module _ (R : ℕ → ℕ → Ordering) (o : IsTotalOrder R) where
  abbrev pub less_by : ℕ → ℕ → Bool
  less_by p q = is_lt (ordering_then (R p q) (nat_cmp p q))

  pub weak : IsStrictWeakOrder less_by
  weak = ranks_by (then_total o nat_cmp_total) (λ (p : ℕ). p)

  -- what does not stand before p is not before it in order either
  not_less : (p q : ℕ) → less_by q p ≡ false → (is_le (R p q) ≡ true) × (is_le (R q p) ≡ true → p ≤ q)
  not_less p q e = by-test (R q p) refl (o.antisymm p q) e
    where
      by-number : (r : Ordering) → r ≡ nat_cmp q p → is_lt r ≡ false → p ≤ q
      by-number Less f g = absurd (true≢false g)
      by-number Equal f g = let w = ranked q p Equal f in omega (arith, w)
      by-number Greater f g = let w = ranked q p Greater f in omega (arith, w)

      by-test : (r : Ordering) → R q p ≡ r → R p q ≡ ordering_reverse (R q p) → is_lt (ordering_then r (nat_cmp q p)) ≡ false → (is_le (R p q) ≡ true) × (is_le (R q p) ≡ true → p ≤ q)
      by-test Less f a e = absurd (true≢false e)
      by-test Equal f a e = (ap is_le (a ∙ ap ordering_reverse f), λ w. by-number (nat_cmp q p) refl e)
      by-test Greater f a e = (ap is_le (a ∙ ap ordering_reverse f), λ w. absurd (true≢false (sym w ∙ ap is_le f)))

  pub sorted : (n : ℕ) (ps : List ℕ) → IsPermutation (upto 0 n) ps → IsSortedBy less_by ps → Sorted (λ p q. is_le (R p q)) n ps
  sorted n ps p up = record {
    size = m.size;
    small = m.small;
    every = m.every;
    order = λ i j h k. (not_less (get_or ps i 0) (get_or ps j 0) (far i j h k)).0;
    ties = λ i j h k e. apart i j h k ((not_less (get_or ps i 0) (get_or ps j 0) (far i j h k)).1 e) (eqb (get_or ps i 0) (get_or ps j 0)) refl;
  }
    where
      m : Moved n ps
      m = moved n ps p

      far : (i j : ℕ) → i < j → j < n → less_by (get_or ps j 0) (get_or ps i 0) ≡ false
      far i j h k = sorted_far less_by weak ps up i j 0 (omega (arith, h)) (omega (arith, k, m.size))

      apart : (i j : ℕ) → i < j → j < n → get_or ps i 0 ≤ get_or ps j 0 → (t : Bool) → eqb (get_or ps i 0) (get_or ps j 0) ≡ t → get_or ps i 0 < get_or ps j 0
      apart i j h k l true e = absurd (omega (arith, h, m.once i j (omega (arith, h, k)) k (eqb-true (get_or ps i 0) (get_or ps j 0) e)))
      apart i j h k l false e = omega (arith, l, eqb-false (get_or ps i 0) (get_or ps j 0) e)

  -- those that were numbered, once they are arranged
  pub sorted_all : (n : ℕ) (old ps : List ℕ) → old ≡ upto 0 n → Arranged less_by old ps → Sorted (λ p q. is_le (R p q)) n ps
  sorted_all n old ps e a = sorted n ps (rw e at a.moved) a.order
