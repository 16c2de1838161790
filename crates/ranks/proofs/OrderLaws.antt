-- Keys and places in order: total, transitive, and equal where each stands before the other. Assumes nothing.
use Prim.Native.Nat.{ℕ, ◌≤◌, ◌<◌}
use mathlib.Core.Path.{◌≡◌, refl, sym, ap, ◌∙◌}
use mathlib.Core.Bool.{Bool, true, false, true≢false}
use mathlib.Core.List.{List}
use native.Mathlib.Omega.{arith}
use denote.Ref.{Bor}
use borrow.Author.Tests.{lt-ltb, le-ltb}
use Rattle.std.proofs.lemmas.Bool.Decides.{nat_tests}
use Rattle.std.specs.Prelude.{Option, Some, None, MatchOption, cond}
use Rattle.std.specs.Cmp.{IsTotalOrder}
use Rattle.std.specs.Cmp.Lexicographic.{slice_cmp, options_total}
use Rattle.std.specs.declared.cmp.Ordering.{Ordering}
use Rattle.std.specs.declared.cmp.Ordering.TheVariants.{Less, Equal, Greater}
use Rattle.std.specs.Ordering.{nat_cmp, is_le, is_eq, is_gt, ordering_reverse}
use Rattle.std.specs.Option.{option_cmp, is_some}
use Rattle.std.proofs.lemmas.Cmp.{nat_cmp_total, lists_total, on_total, tied_back, same_from_slice_cmp, upto}
use Rattle.classes.specs.Choice.{both}
use Rattle.keys.specs.Keys.{key_of}
use Rattle.keys.specs.View.{KeyOf}
use Rattle.sets.specs.Layout.{Listed}
use Rattle.equals.specs.Same.{same}
use Rattle.ranks.specs.Sorting.{element_at, keyed_at, key_at, key_cmp, place_le, like_at}

-- ---- keys in order
pub key-total : IsTotalOrder key_cmp
key-total = options_total (lists_total nat_cmp_total)

same-cmp : (a b : List ℕ) → is_eq (slice_cmp nat_cmp a b) ≡ same a b
unfolding same
same-cmp a b = same_from_slice_cmp nat_cmp is_eq same refl (λ _ _. refl) (λ _ _. refl) (λ x y xs ys o h. grind (arith, nat_tests)) a b _ refl

module _ (R : ℕ → ℕ → Ordering) (o : IsTotalOrder R) where
  pub le-total : (p q : ℕ) → is_le (R p q) ≡ false → is_le (R q p) ≡ true
  le-total p q e = by-test (R q p) (o.antisymm p q)
    where
      by-test : (r : Ordering) → R p q ≡ ordering_reverse r → is_le r ≡ true
      by-test Less f = refl
      by-test Equal f = refl
      by-test Greater f = absurd (true≢false (sym (ap is_le f) ∙ e))

  gt-le : (r : Ordering) → is_le r ≡ true → is_gt r ≡ false
  gt-le Less e = refl
  gt-le Equal e = refl
  gt-le Greater e = absurd (true≢false (sym e))

  le-gt : (r : Ordering) → is_gt r ≡ false → is_le r ≡ true
  le-gt Less e = refl
  le-gt Equal e = refl
  le-gt Greater e = absurd (true≢false e)

  pub le-trans : (p q r : ℕ) → is_le (R p q) ≡ true → is_le (R q r) ≡ true → is_le (R p r) ≡ true
  le-trans p q r e f = le-gt (R p r) (upto o p q r (gt-le (R p q) e) (gt-le (R q r) f))

  pub le-both : (p q : ℕ) → is_le (R p q) ≡ true → is_le (R q p) ≡ true → R p q ≡ Equal
  le-both p q e f = by-test (R p q) refl (o.antisymm p q) e
    where
      by-test : (r : Ordering) → R p q ≡ r → R p q ≡ ordering_reverse (R q p) → is_le r ≡ true → R p q ≡ Equal
      by-test Equal g a e = g
      by-test Greater g a e = absurd (true≢false (sym e))
      by-test Less g a e = more (R q p) refl f
        where
          more : (s : Ordering) → R q p ≡ s → is_le s ≡ true → R p q ≡ Equal
          more Less h f = a ∙ ap ordering_reverse h ∙ absurd (never (sym g ∙ a ∙ ap ordering_reverse h))
            where
              never : ◌≡◌ {A = Ordering} Less Greater → ⊥
              never w = true≢false (ap is_le w)
          more Equal h f = a ∙ ap ordering_reverse h
          more Greater h f = absurd (true≢false (sym f))

-- ---- what the pass needs of the order of places, of which some have a key
pub record Order (has : ℕ → Bool) (le like : ℕ → ℕ → Bool) : Type 0 where
  pub trans : (p q r : ℕ) → le p q ≡ true → le q r ≡ true → le p r ≡ true
  pub keyed : (p q : ℕ) → like p q ≡ true → (has p ≡ true) × (has q ≡ true)
  pub level : (p q : ℕ) → like p q ≡ true → (le p q ≡ true) × (le q p ≡ true)
  pub alike : (p q : ℕ) → has p ≡ true → le p q ≡ true → le q p ≡ true → like p q ≡ true

pub place-total : (bytes es : List ℕ) (n : ℕ) → IsTotalOrder (λ p q. key_cmp (key_at bytes es n p) (key_at bytes es n q))
place-total bytes es n = on_total (key_at bytes es n) key-total

-- the same of what the tests compute
tests-keyed : (a b x : Bool) → both a (both b x) ≡ true → (a ≡ true) × (b ≡ true)
tests-keyed true true x p = (refl, refl)
tests-keyed true false x p = absurd (true≢false (sym p))
tests-keyed false b x p = absurd (true≢false (sym p))

-- a key that is there, and none
module _ (bytes es : List ℕ) (n p : ℕ) where
  pub keyed-key : keyed_at es n p ≡ true → key_at bytes es n p ≡ Some (key_of bytes (element_at es p))
  unfolding key_at
  keyed-key e = rw e

  pub unkeyed-key : keyed_at es n p ≡ false → key_at bytes es n p ≡ None
  unfolding key_at
  unkeyed-key e = rw e

  pub past-key : n ≤ p → key_at bytes es n p ≡ None
  unfolding key_at keyed_at
  past-key h = rw (le-ltb p n h)

  pub key-from : (x : Listed) → p < n → x ≡ element_at es p → (o : Option (List ℕ)) → KeyOf bytes x o → key_at bytes es n p ≡ o
  unfolding key_at keyed_at
  key-from x h q None k = rw (lt-ltb p n h, ← q, k) refl
  key-from x h q (Some a) k = rw (lt-ltb p n h, ← q, k.0, k.1) refl

  pub key-match : (x : Listed) → p < n → x ≡ element_at es p → (r : Option (Bor (List ℕ))) → MatchOption r (KeyOf bytes x None) (λ k. KeyOf bytes x (Some k.now))
      → MatchOption r (key_at bytes es n p ≡ None) (λ k. key_at bytes es n p ≡ Some k.now)
  key-match x h q None k = key-from x h q None k
  key-match x h q (Some a) k = key-from x h q (Some a.now) k

  pub key-has : (a : List ℕ) → key_at bytes es n p ≡ Some a → (keyed_at es n p ≡ true) × (key_of bytes (element_at es p) ≡ a)
  unfolding key_at
  key-has a e = by-test (keyed_at es n p) e
    where
      by-test : (t : Bool) → cond t (Some (key_of bytes (element_at es p))) None ≡ Some a → (t ≡ true) × (key_of bytes (element_at es p) ≡ a)
      by-test true e = (refl, cc)
      by-test false e = cc

  pub key-none : key_at bytes es n p ≡ None → keyed_at es n p ≡ false
  unfolding key_at
  key-none e = by-test (keyed_at es n p) e
    where
      by-test : (t : Bool) → cond t (Some (key_of bytes (element_at es p))) None ≡ None → t ≡ false
      by-test true e = cc
      by-test false e = refl

module _ (bytes es : List ℕ) (n p : ℕ) where
  pub has-none : (r : Option (Bor (List ℕ))) → MatchOption r (key_at bytes es n p ≡ None) (λ k. key_at bytes es n p ≡ Some k.now) → is_some r ≡ false → keyed_at es n p ≡ false
  has-none None k e = key-none bytes es n p k
  has-none (Some a) k e = absurd (true≢false e)

  pub has_some : (r : Option (Bor (List ℕ))) → MatchOption r (key_at bytes es n p ≡ None) (λ k. key_at bytes es n p ≡ Some k.now) → is_some r ≡ true → keyed_at es n p ≡ true
  has_some None k e = absurd (true≢false (sym e))
  has_some (Some a) k e = (key-has bytes es n p a.now k).0

module _ (bytes es : List ℕ) (n p q : ℕ) where
  pub like-unkeyed : key_at bytes es n p ≡ None → false ≡ like_at bytes es n p q
  unfolding like_at
  like-unkeyed e = rw (key-none bytes es n p e)

  pub like-keyed : (a : List ℕ) → key_at bytes es n p ≡ Some a → key_at bytes es n q ≡ None → false ≡ like_at bytes es n p q
  unfolding like_at
  like-keyed a e f = rw ((key-has bytes es n p a e).0, key-none bytes es n q f)

  pub like-keys : (a b : List ℕ) → key_at bytes es n p ≡ Some a → key_at bytes es n q ≡ Some b → (r : Bool) → r ≡ same a b → r ≡ like_at bytes es n p q
  unfolding like_at
  like-keys a b e f r z =
      let u = key-has bytes es n p a e in
      let v = key-has bytes es n q b f in
      z ∙ rw (u.0, v.0, u.1, v.1)

  like-level : like_at bytes es n p q ≡ true → key_cmp (key_at bytes es n p) (key_at bytes es n q) ≡ Equal
  unfolding like_at
  like-level e = by-test (keyed_at es n p) (keyed_at es n q) refl refl e
    where
      a : List ℕ
      a = key_of bytes (element_at es p)

      b : List ℕ
      b = key_of bytes (element_at es q)

      only : (r : Ordering) → is_eq r ≡ true → r ≡ Equal
      only Less e = absurd (true≢false (sym e))
      only Equal e = refl
      only Greater e = absurd (true≢false (sym e))

      by-test : (s t : Bool) → keyed_at es n p ≡ s → keyed_at es n q ≡ t → both s (both t (same a b)) ≡ true → key_cmp (key_at bytes es n p) (key_at bytes es n q) ≡ Equal
      by-test true true u v w = rw (keyed-key bytes es n p u, keyed-key bytes es n q v) (only (slice_cmp nat_cmp a b) (same-cmp a b ∙ w))
      by-test true false u v w = absurd (true≢false (sym w))
      by-test false t u v w = absurd (true≢false (sym w))

  level-like : keyed_at es n p ≡ true → key_cmp (key_at bytes es n p) (key_at bytes es n q) ≡ Equal → like_at bytes es n p q ≡ true
  unfolding like_at
  level-like u e = by-test (keyed_at es n q) refl
    where
      a : List ℕ
      a = key_of bytes (element_at es p)

      b : List ℕ
      b = key_of bytes (element_at es q)

      never : key_cmp (Some a) None ≡ Equal → ⊥
      never w = true≢false (sym (ap is_eq w))

      by-test : (t : Bool) → keyed_at es n q ≡ t → both (keyed_at es n p) (both t (same a b)) ≡ true
      by-test true v =
          let w : slice_cmp nat_cmp a b ≡ Equal = rw (keyed-key bytes es n p u, keyed-key bytes es n q v) at e in
          rw u (sym (same-cmp a b) ∙ ap is_eq w)
      by-test false v = absurd (never (rw (keyed-key bytes es n p u, unkeyed-key bytes es n q v) at e))

like-keyed-both : (bytes es : List ℕ) (n p q : ℕ) → like_at bytes es n p q ≡ true → (keyed_at es n p ≡ true) × (keyed_at es n q ≡ true)
unfolding like_at
like-keyed-both bytes es n p q = tests-keyed (keyed_at es n p) (keyed_at es n q) (same (key_of bytes (element_at es p)) (key_of bytes (element_at es q)))

pub ordered : (bytes es : List ℕ) (n : ℕ) → Order (keyed_at es n) (place_le bytes es n) (like_at bytes es n)
ordered bytes es n = record {
  trans = le-trans R o;
  keyed = like-keyed-both bytes es n;
  level = λ p q e. let w = like-level bytes es n p q e in (ap is_le w, ap is_le (tied_back o p q w));
  alike = λ p q h e f. level-like bytes es n p q h (le-both R o p q e f);
}
  where
    R : ℕ → ℕ → Ordering
    R p q = key_cmp (key_at bytes es n p) (key_at bytes es n q)

    o : IsTotalOrder R
    o = place-total bytes es n

-- ---- two keys compared
pub compared : (r s : Option (Bor (List ℕ))) (o u : Option (List ℕ)) → MatchOption r (o ≡ None) (λ k. o ≡ Some k.now) → MatchOption s (u ≡ None) (λ k. u ≡ Some k.now)
    → option_cmp (λ (x y : Bor (List ℕ)). slice_cmp nat_cmp x.now y.now) r s ≡ key_cmp o u
compared None None o u p q = rw (p, q) refl
compared None (Some b) o u p q = rw (p, q) refl
compared (Some a) None o u p q = rw (p, q) refl
compared (Some a) (Some b) o u p q = rw (p, q) refl
