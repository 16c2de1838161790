-- The pass over sorted places, from the back: what is told of a place is its rank. Assumes nothing.
use Prim.Native.Nat.{ℕ, ◌+◌, ◌-◌, ◌≤◌, ◌<◌}
use mathlib.Core.Path.{◌≡◌, refl, sym, ap, ◌∙◌, subst}
use mathlib.Core.Bool.{Bool, true, false, true≢false}
use mathlib.Core.Logic.{◌⊎◌, inl, inr, ⊎_elim}
use mathlib.Core.List.{List}
use native.Mathlib.Omega.{arith}
use lib.Dec.{eqb, ltb}
use lib.ListN.{length, get_or}
use borrow.Author.Tests.{eqb-true, eqb-false, ltb-true, ltb-false, lt-ltb, le-ltb}
use Rattle.classes.specs.Choice.{pick, both}
use Rattle.ranks.specs.Sorting.{joined, last_by, worth, Sorted}
use Rattle.ranks.proofs.OrderLaws.{Order}

-- ---- the functions over a sorted place
module _ (like : ℕ → ℕ → Bool) (ps : List ℕ) (i : ℕ) where
  pub joined-first : i ≡ 0 → false ≡ joined like ps i
  joined-first e = rw (le-ltb 0 i (omega (arith, e)))

  pub joined_by : (i ≡ 0 → ⊥) → (r : Bool) → r ≡ like (get_or ps (i - 1) 0) (get_or ps i 0) → r ≡ joined like ps i
  joined_by n r e = rw (lt-ltb 0 i (omega (arith, n))) e

  pub last_end : (last : ℕ) → length ps ≤ i + 1 → get_or ps i 0 ≡ last_by like ps i last
  last_end last h = rw (le-ltb (i + 1) (length ps) h)

  pub last_on : (last : ℕ) → i + 1 < length ps → joined like ps (i + 1) ≡ true → last ≡ last_by like ps i last
  last_on last h e = rw (lt-ltb (i + 1) (length ps) h, e)

  pub last_off : (last : ℕ) → i + 1 < length ps → joined like ps (i + 1) ≡ false → get_or ps i 0 ≡ last_by like ps i last
  last_off last h e = rw (lt-ltb (i + 1) (length ps) h, e)

  pub worth-unkeyed : (has : ℕ → Bool) (last : ℕ) → has (get_or ps i 0) ≡ false → 0 ≡ worth like ps has i last
  worth-unkeyed has last e = rw e

  pub worth-joined : (has : ℕ → Bool) (last : ℕ) → has (get_or ps i 0) ≡ true → joined like ps i ≡ true → 0 ≡ worth like ps has i last
  worth-joined has last e f = rw (e, f)

  pub worth_first : (has : ℕ → Bool) (last : ℕ) → has (get_or ps i 0) ≡ true → joined like ps i ≡ false → last + 1 ≡ worth like ps has i last
  worth_first has last e f = rw (e, f)

-- ---- runs of one key
pub record Last (like : ℕ → ℕ → Bool) (n x last : ℕ) : Type 0 where
  pub small : last < n
  pub is : (last ≡ x) ⊎ (like x last ≡ true)
  pub most : (y : ℕ) → y < n → like x y ≡ true → y ≤ last

module _ (has : ℕ → Bool) (le like : ℕ → ℕ → Bool) (o : Order has le like) where
  like-sym : (p q : ℕ) → like p q ≡ true → like q p ≡ true
  like-sym p q e = o.alike q p (o.keyed p q e).1 (o.level p q e).1 (o.level p q e).0

  like-trans : (p q r : ℕ) → like p q ≡ true → like q r ≡ true → like p r ≡ true
  like-trans p q r e f =
      o.alike p r (o.keyed p q e).0 (o.trans p q r (o.level p q e).0 (o.level q r f).0) (o.trans r q p (o.level q r f).1 (o.level p q e).1)

  module _ (n : ℕ) (ps : List ℕ) (s : Sorted le n ps) where
    between : (a b c : ℕ) → a < b → b < c → c < n → like (get_or ps a 0) (get_or ps c 0) ≡ true → like (get_or ps a 0) (get_or ps b 0) ≡ true
    between a b c h k l e =
        o.alike (get_or ps a 0) (get_or ps b 0) (o.keyed (get_or ps a 0) (get_or ps c 0) e).0 (s.order a b h (omega (arith, k, l)))
        (o.trans (get_or ps b 0) (get_or ps c 0) (get_or ps a 0) (s.order b c k l) (o.level (get_or ps a 0) (get_or ps c 0) e).1)

    rises : (a b : ℕ) → a < b → b < n → like (get_or ps a 0) (get_or ps b 0) ≡ true → get_or ps a 0 < get_or ps b 0
    rises a b h k e = s.ties a b h k (o.level (get_or ps a 0) (get_or ps b 0) e).1

    pub apart : (a b : ℕ) → a < b → b < n → get_or ps b 0 ≡ get_or ps a 0 → ⊥
    apart a b h k e =
        let w = s.ties a b h k (subst (λ (q : ℕ). le (get_or ps b 0) q ≡ true) e (subst (λ (q : ℕ). le q (get_or ps b 0) ≡ true) (sym e) (s.order a b h k))) in
        omega (arith, w, e)

    -- a place of the same key further on, or before: so has the next one, or the one before
    next_like : (i m : ℕ) → i < m → m < n → like (get_or ps i 0) (get_or ps m 0) ≡ true → like (get_or ps i 0) (get_or ps (i + 1) 0) ≡ true
    next_like i m h k e = by-test (eqb m (i + 1)) refl
      where
        by-test : (t : Bool) → eqb m (i + 1) ≡ t → like (get_or ps i 0) (get_or ps (i + 1) 0) ≡ true
        by-test true w = subst (λ (j : ℕ). like (get_or ps i 0) (get_or ps j 0) ≡ true) (eqb-true m (i + 1) w) e
        by-test false w = between i (i + 1) m (omega arith) (omega (arith, h, eqb-false m (i + 1) w)) k e

    prior-like : (m i : ℕ) → m < i → i < n → like (get_or ps m 0) (get_or ps i 0) ≡ true → like (get_or ps (i - 1) 0) (get_or ps i 0) ≡ true
    prior-like m i h k e = by-test (eqb m (i - 1)) refl
      where
        by-test : (t : Bool) → eqb m (i - 1) ≡ t → like (get_or ps (i - 1) 0) (get_or ps i 0) ≡ true
        by-test true w = subst (λ (j : ℕ). like (get_or ps j 0) (get_or ps i 0) ≡ true) (eqb-true m (i - 1) w) e
        by-test false w =
            like-trans (get_or ps (i - 1) 0) (get_or ps m 0) (get_or ps i 0)
            (like-sym (get_or ps m 0) (get_or ps (i - 1) 0) (between m (i - 1) i (omega (arith, h, eqb-false m (i - 1) w)) (omega (arith, h)) k e)) e

    last-here : (i : ℕ) → i < n → (i + 1 < n → like (get_or ps i 0) (get_or ps (i + 1) 0) ≡ false) → Last like n (get_or ps i 0) (get_or ps i 0)
    last-here i h f = record { small = s.small i h; is = inl refl; most = most }
      where
        most : (y : ℕ) → y < n → like (get_or ps i 0) y ≡ true → y ≤ get_or ps i 0
        most y k e = let a = s.every y k in by-test a.index (omega (arith, a.within, s.size)) a.is (ltb a.index i) (ltb i a.index) refl refl
          where
            by-test : (m : ℕ) → m < n → get_or ps m 0 ≡ y → (t u : Bool) → ltb m i ≡ t → ltb i m ≡ u → y ≤ get_or ps i 0
            by-test m l q true u v w =
                omega (arith, q, rises m i (ltb-true m i v) h (like-sym (get_or ps i 0) (get_or ps m 0) (subst (λ (p : ℕ). like (get_or ps i 0) p ≡ true) (sym q) e)))
            by-test m l q false true v w =
                let g = ltb-true i m w in
                absurd (true≢false (sym (next_like i m g l (subst (λ (p : ℕ). like (get_or ps i 0) p ≡ true) (sym q) e)) ∙ f (omega (arith, g, l))))
            by-test m l q false false v w =
                let c : m ≡ i = omega (arith, ltb-false m i v, ltb-false i m w) in
                omega (arith, q, ap (λ (j : ℕ). get_or ps j 0) c)

    last-next : (i last : ℕ) → like (get_or ps i 0) (get_or ps (i + 1) 0) ≡ true → Last like n (get_or ps (i + 1) 0) last → Last like n (get_or ps i 0) last
    last-next i last e l = record {
      small = l.small;
      is = inr (⊎_elim (λ q. subst (λ (p : ℕ). like (get_or ps i 0) p ≡ true) (sym q) e) (λ w. like-trans (get_or ps i 0) (get_or ps (i + 1) 0) last e w) l.is);
      most = λ y h w. l.most y h (like-trans (get_or ps (i + 1) 0) (get_or ps i 0) y (like-sym (get_or ps i 0) (get_or ps (i + 1) 0) e) w);
    }

    pub last_step : (i last : ℕ) → i < n → (i + 1 < n → Last like n (get_or ps (i + 1) 0) last) → Last like n (get_or ps i 0) (last_by like ps i last)
    last_step i last h l =
        let e : i + 1 - 1 ≡ i = omega arith in
        rw (e, lt-ltb 0 (i + 1) (omega arith), s.size) (by-test (ltb (i + 1) n) (like (get_or ps i 0) (get_or ps (i + 1) 0)) refl refl)
      where
        by-test : (t u : Bool) → ltb (i + 1) n ≡ t → like (get_or ps i 0) (get_or ps (i + 1) 0) ≡ u → Last like n (get_or ps i 0) (pick (both t u) last (get_or ps i 0))
        by-test true true v w = last-next i last w (l (ltb-true (i + 1) n v))
        by-test true false v w = last-here i h (λ g. w)
        by-test false u v w = last-here i h (λ g. absurd (omega (arith, g, ltb-false (i + 1) n v)))

    -- whether the key of a place is shown before it
    pub unseen : (i : ℕ) → i < n → joined like ps i ≡ false → (y : ℕ) → y < get_or ps i 0 → like (get_or ps i 0) y ≡ false
    unseen i h f y k = by-like (like (get_or ps i 0) y) refl
      where
        never : (m : ℕ) → m < n → get_or ps m 0 ≡ y → like (get_or ps i 0) (get_or ps m 0) ≡ true → (t u : Bool) → ltb m i ≡ t → ltb i m ≡ u → ⊥
        never m l q e true u v w =
            let g = ltb-true m i v in
            true≢false (sym (rw (lt-ltb 0 i (omega (arith, g)), prior-like m i g h (like-sym (get_or ps i 0) (get_or ps m 0) e))) ∙ f)
        never m l q e false true v w = omega (arith, q, k, rises i m (ltb-true i m w) l e)
        never m l q e false false v w =
            let c : m ≡ i = omega (arith, ltb-false m i v, ltb-false i m w) in
            omega (arith, q, k, ap (λ (j : ℕ). get_or ps j 0) c)

        by-like : (t : Bool) → like (get_or ps i 0) y ≡ t → like (get_or ps i 0) y ≡ false
        by-like false e = e
        by-like true e =
            let a = s.every y (omega (arith, k, s.small i h)) in
            absurd (never a.index (omega (arith, a.within, s.size)) a.is (subst (λ (p : ℕ). like (get_or ps i 0) p ≡ true) (sym a.is) e) (ltb a.index i) (ltb i a.index) refl refl)

    pub seen-prior : (i : ℕ) → i < n → joined like ps i ≡ true → (get_or ps (i - 1) 0 < get_or ps i 0) × (like (get_or ps i 0) (get_or ps (i - 1) 0) ≡ true)
    seen-prior i h f = by-test (ltb 0 i) refl f
      where
        by-test : (t : Bool) → ltb 0 i ≡ t → both t (like (get_or ps (i - 1) 0) (get_or ps i 0)) ≡ true → (get_or ps (i - 1) 0 < get_or ps i 0) × (like (get_or ps i 0) (get_or ps (i - 1) 0) ≡ true)
        by-test true w e = (rises (i - 1) i (omega (arith, ltb-true 0 i w)) h e, like-sym (get_or ps (i - 1) 0) (get_or ps i 0) e)
        by-test false w e = absurd (true≢false (sym e))
