-- Every key and every piece lies in the set, each behind the one before it. Assumes nothing.
use Prim.Native.Nat.{ℕ, ◌+◌, ◌≤◌, ◌<◌}
use mathlib.Core.Path.{refl}
use mathlib.Core.Bool.{Bool, true, false}
use mathlib.Core.List.{List, [], ◌∷◌, ◌++◌, map}
use native.Mathlib.Omega.{arith}
use lib.Dec.{T, eqb, ltb, ltb→lt}
use lib.ListN.{length}
use Rattle.classes.specs.Choice.{pick}
use Rattle.attrs.specs.Machine.{step_of}
use Rattle.sets.specs.Given.{AClass, AnId, APair, AComment, Given, Element, Piece, Told, told, stays, left_by, halts, onward, given_from, given_of}
use Rattle.theorems_sets.specs.Sets.{InOrder}

-- what a step gives at p, whose part began at a, and all that comes behind it from p on
module _ (a p lo hi : ℕ) (o : lo ≤ a) (h : a < p) (u : p < hi) (rest : List Told) (k : (m : ℕ) → m ≤ p → InOrder m hi rest) where
  abbrev Fine : List Given → Type 0
  Fine gs = InOrder lo hi (map (told p) gs ++ rest)

  fine-pick : (t : Bool) (xs ys : List Given) → Fine xs → Fine ys → Fine (pick t xs ys)
  fine-pick true xs ys f g = f
  fine-pick false xs ys f g = g

  fine-test : (t : Bool) (xs ys : List Given) → (T t → Fine xs) → Fine ys → Fine (pick t xs ys)
  fine-test true xs ys f g = f tt
  fine-test false xs ys f g = g

  fine-none : Fine []
  fine-none = k lo (omega (arith, o, h))

  fine-part : Fine (Piece a p ∷ [])
  unfolding InOrder
  fine-part = ((o, h, omega arith), u, k p (omega arith))

  fine-single : Fine (Element AClass p p ∷ Piece a p ∷ []) × Fine (Element AnId p p ∷ Piece a p ∷ [])
  unfolding InOrder
  fine-single =
      let w : lo ≤ p = omega (arith, o, h) in
      (((refl, refl, w), u, ((o, h, omega arith), u, k p (omega arith))), ((refl, refl, w), u, ((o, h, omega arith), u, k p (omega arith))))

  fine-rest : Fine (Element AComment p p ∷ []) × Fine (Element APair a p ∷ []) × Fine (Piece a (a + 1) ∷ []) × (a + 1 < p → Fine (Piece (a + 1) p ∷ []))
  unfolding InOrder
  fine-rest = (
    ((refl, refl, omega (arith, o, h)), u, k lo (omega (arith, o, h))),
    ((o, h, omega arith), u, k p (omega arith)),
    ((o, omega arith, omega (arith, h)), u, k (a + 1) (omega (arith, h))),
    λ w. ((omega (arith, o), w, omega arith), u, k p (omega arith)),
  )

  fine-left : (s : ℕ) → Fine (left_by s a p)
  unfolding left_by
  fine-left s =
      fine-pick (eqb s 2) _ _ fine-rest.0
      (fine-pick (eqb s 3) _ _ fine-part
      (fine-pick (eqb s 4) _ _ fine-rest.2
      (fine-pick (eqb s 6) _ _ fine-single.0
      (fine-pick (eqb s 8) _ _ fine-single.1
      (fine-pick (eqb s 9) _ _ fine-rest.1
      (fine-pick (eqb s 11) _ _ fine-part
      (fine-pick (eqb s 12) _ _ (fine-test (ltb (a + 1) p) _ _ (λ e. fine-rest.3 (ltb→lt (a + 1) p e)) fine-none)
      (fine-pick (eqb s 15) _ _ fine-part fine-none))))))))

none-in-order : (lo hi : ℕ) → InOrder lo hi []
unfolding InOrder
none-in-order lo hi = tt

-- the run from p on, the part of s having begun before it
in-order-from : (s a p lo hi : ℕ) (bs : List ℕ) → lo ≤ a → a < p → p + length bs ≤ hi → InOrder lo hi (given_from s a p bs)
unfolding given_from
in-order-from s a p lo hi [] o h u = none-in-order lo hi
in-order-from s a p lo hi (b ∷ bs) o h u =
    by-test (eqb (step_of s b) 17) (halts (step_of s b) bs) (stays s (step_of s b))
    (λ m w. in-order-from (onward (step_of s b)) p (p + 1) m hi bs w (omega arith) (omega (arith, u)))
    (in-order-from (onward (step_of s b)) a (p + 1) lo hi bs o (omega (arith, h)) (omega (arith, u)))
  where
    by-test : (c d e : Bool) → ((m : ℕ) → m ≤ p → InOrder m hi (given_from (onward (step_of s b)) p (p + 1) bs)) → InOrder lo hi (given_from (onward (step_of s b)) a (p + 1) bs)
        → InOrder lo hi (pick c [] (map (told p) (pick e [] (left_by s a p)) ++ pick d [] (given_from (onward (step_of s b)) (pick e a p) (p + 1) bs)))
    by-test true d e f g = none-in-order lo hi
    by-test false true true f g = none-in-order lo hi
    by-test false false true f g = g
    by-test false true false f g = fine-left a p lo hi o h (omega (arith, u)) [] (λ m w. none-in-order m hi) s
    by-test false false false f g = fine-left a p lo hi o h (omega (arith, u)) _ f s

-- a set from its first byte on: nothing ends there
pub in_order : (set : List ℕ) → InOrder 0 (length set) (given_of set)
unfolding given_from left_by
in_order [] = none-in-order 0 0
in_order (b ∷ bs) =
    by-test (eqb (step_of 0 b) 17) (halts (step_of 0 b) bs) (stays 0 (step_of 0 b)) (in-order-from (onward (step_of 0 b)) 0 1 0 (length (b ∷ bs)) bs (omega arith) (omega arith) (omega arith))
  where
    by-test : (c d e : Bool) → InOrder 0 (length (b ∷ bs)) (given_from (onward (step_of 0 b)) 0 1 bs)
        → InOrder 0 (length (b ∷ bs)) (pick c [] (map (told 0) (pick e [] []) ++ pick d [] (given_from (onward (step_of 0 b)) (pick e 0 0) 1 bs)))
    by-test true d e f = none-in-order 0 (length (b ∷ bs))
    by-test false true true f = none-in-order 0 (length (b ∷ bs))
    by-test false true false f = none-in-order 0 (length (b ∷ bs))
    by-test false false true f = f
    by-test false false false f = f
