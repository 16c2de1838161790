-- The element at a place, and the answer with every word and byte that is lent. Assumes nothing.
use Prim.Native.Nat.{ℕ, zero, suc, ◌+◌, ◌-◌, ◌*◌, ◌/◌, ◌≤◌, ◌<◌}
use mathlib.Core.Path.{◌≡◌, refl, sym, ap, ◌∙◌}
use mathlib.Core.Bool.{Bool, true, false}
use mathlib.Core.List.{List, [], ◌∷◌, ◌++◌}
use native.Mathlib.Omega.{arith}
use native.Mathlib.Nat.{sub-zero, zero-sub, suc-sub-suc}
use lib.Dec.{eqb}
use lib.ListN.{length, take, drop, replicate, length-append}
use lib.Seq.{sets, sets-eq, drop-drop}
use borrow.Author.Tests.{eqb-false, eq-eqb, ne_eqb}
use Rattle.classes.specs.Choice.{pick}
use Rattle.sets.specs.Opened.{Answer, Outcome, open_of}
use Rattle.sets.specs.Layout.{Listed, element_in, listed, spanned, words_of}
use Rattle.values.specs.Values.{handed, elements_of}
use Rattle.values.proofs.KeptLaws.{listed_next, listed-end}
use Rattle.joins.specs.Joins.{is_tight, filled_by, filled_of, pieces_of, joined_in, one_of}

-- ---- the element at a place
listed-drop : (i n : ℕ) (es : List ℕ) → drop i (listed n es) ≡ listed (n - i) (drop (i * 5) es)
unfolding listed
listed-drop zero n es = rw sub-zero
listed-drop (suc i) zero es = rw zero-sub
listed-drop (suc i) (suc n) es =
    let e : 5 + i * 5 ≡ suc i * 5 = omega arith in
    listed-drop i n (drop 5 es) ∙ rw (suc-sub-suc n i, drop-drop (i * 5) 5 es, e)

module _ (n place : ℕ) (es : List ℕ) where
  abbrev one : List Listed
  one = take 1 (drop place (listed n es))

  pub one_none : n ≤ place → ([] ≡ words_of one) × (0 ≡ length one) × (0 ≤ n)
  unfolding words_of
  one_none h = rw (listed-drop place n es, listed-end es n place h) (refl, refl, omega arith)

  pub one-there : place < n → n * 5 ≤ length es → (es' : List ℕ) → es' ≡ sets es 0 (words_of (element_in (drop (place * 5) es) ∷ [])) → (take 5 es' ≡ words_of one) × (1 ≡ length one) × (1 ≤ n)
  unfolding words_of
  one-there h l es' q =
      let x = element_in (drop (place * 5) es) in
      rw (listed-drop place n es, listed_next es n place h, q, sets-eq (words_of (x ∷ [])) es 0 (omega (arith, h, l)))
      (refl, refl, omega (arith, h))

-- ---- elements instead of those that were read
module _ (bytes : List ℕ) (place ne np : ℕ) (z : Answer) (es ps : List ℕ)
    (a : z ≡ (open_of bytes ne np).answer) (b : es ≡ (open_of bytes ne np).elements) (c : ps ≡ (open_of bytes ne np).pieces) where
  abbrev Is-one : Answer → List ℕ → Type 0
  Is-one r l = (r ≡ (one_of bytes place ne np).answer) × (l ≡ (one_of bytes place ne np).elements) × (ps ≡ (one_of bytes place ne np).pieces)

  pub one-refused : (z.number ≡ 0 → ⊥) → Is-one z es
  unfolding one_of
  one-refused n = rw (ne_eqb (open_of bytes ne np).answer.number 0 (λ e. n (ap (λ (x : Answer). x.number) a ∙ e))) (a, b, c)

  module _ (n : z.number ≡ 0) where
    pub one-read : (m : ℕ) (es' : List ℕ) → length es' ≡ ne → take (m * 5) es' ≡ words_of (one z.count place es) → m ≡ length (one z.count place es)
        → (es'' : List ℕ) → es'' ≡ take (m * 5) es' ++ replicate (length es' - m * 5) 0 → Is-one (record { number = 0; position = length bytes; count = m }) es''
    unfolding one_of
    one-read m es' l w k es'' q =
        let t = eq-eqb (open_of bytes ne np).answer.number 0 (sym (ap (λ (x : Answer). x.number) a) ∙ n) in
        rw (t, ← a, ← b) (rw (← k), q ∙ rw (w, l, k), c)

-- ---- the text of what is handed back
module _ (bytes out words : List ℕ) (xs : List Listed) where
  pub filled-tight : true ≡ is_tight xs → filled_by bytes out [] (pieces_of (spanned (length words / 2) words) xs) ≡ filled_of bytes out words xs
  filled-tight e = rw (← e)

  pub filled-spaced : false ≡ is_tight xs → filled_by bytes out (32 ∷ []) (pieces_of (spanned (length words / 2) words) xs) ≡ filled_of bytes out words xs
  filled-spaced e = rw (← e)

module _ (bytes out : List ℕ) (v : Outcome) (z : Answer) (es ps : List ℕ) (a : z ≡ v.answer) (b : es ≡ v.elements) (c : ps ≡ v.pieces) where
  abbrev Joins : Answer → List ℕ → Type 0
  Joins r l = (r ≡ (joined_in bytes out v).answer) × ((es ≡ (joined_in bytes out v).elements) × ((ps ≡ (joined_in bytes out v).pieces) × (l ≡ (joined_in bytes out v).out)))

  pub joined-refused : (z.number ≡ 0 → ⊥) → Joins z out
  unfolding joined_in
  joined-refused n = rw (ne_eqb v.answer.number 0 (λ e. n (ap (λ (x : Answer). x.number) a ∙ e))) (a, (b, (c, refl)))

  pub joined-filled : z.number ≡ 0 → (r : Answer) (l : List ℕ) → r ≡ (filled_of bytes out ps (listed z.count es)).answer → l ≡ (filled_of bytes out ps (listed z.count es)).out → Joins r l
  unfolding joined_in
  joined-filled n r l p q =
      let t = eq-eqb v.answer.number 0 (sym (ap (λ (x : Answer). x.number) a) ∙ n) in
      rw (t, ← a, ← b, ← c) (p, (refl, (refl, q)))

-- ---- whether the first element is a comment
pub tight-none : (n : ℕ) (es : List ℕ) → n ≤ 0 → false ≡ is_tight (listed n es)
unfolding is_tight listed
tight-none n es h = let e : n ≡ 0 = omega arith in rw e

pub tight-first : (n : ℕ) (es : List ℕ) (x : Listed) → 0 < n → x ≡ element_in (drop 0 es) → eqb x.kind 4 ≡ is_tight (listed n es)
unfolding is_tight listed
tight-first zero es x h q = absurd (omega (arith, h))
tight-first (suc n) es x h q = rw q
