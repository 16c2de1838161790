-- Room that is always enough: at each byte at most one element and one piece become known. Assumes nothing.
use Prim.Native.Nat.{ℕ, ◌+◌, ◌*◌, ◌≤◌}
use mathlib.Core.Path.{◌≡◌, refl, ap, ◌∙◌}
use mathlib.Core.Bool.{Bool, true, false}
use mathlib.Core.List.{List, [], ◌∷◌, ◌++◌, map}
use native.Mathlib.Omega.{arith}
use lib.Dec.{eqb, ltb}
use lib.ListN.{length, replicate, length-append, length-set}
use lib.Seq.{length-take-le}
use borrow.Author.Tests.{eqb-false, eq-eqb, le-leb}
use Rattle.classes.specs.Choice.{pick}
use Rattle.attrs.specs.Machine.{step_of}
use Rattle.trim.specs.Trim.{kept, trim_end}
use Rattle.trim.proofs.TrimLaws.{kept-le}
use Rattle.sets.specs.Given.{Given, Element, Piece, Told, told, Verdict, Good, Bad, stays, left_by, given_by, begun_by, halts, onward, given_from, given_of, verdict_of}
use Rattle.sets.specs.Opened.{Held, held, hold_in, hold_all, Outcome, judged, finish, open_of}
use Rattle.theorems_sets.specs.Sets.{elements_in, pieces_in}

-- ---- how many of a list are given
pub elements-append : (xs ys : List Told) → elements_in (xs ++ ys) ≡ elements_in xs + elements_in ys
unfolding elements_in
elements-append [] ys = omega arith
elements-append (x ∷ xs) ys = omega (arith, elements-append xs ys)

pieces-append : (xs ys : List Told) → pieces_in (xs ++ ys) ≡ pieces_in xs + pieces_in ys
unfolding pieces_in
pieces-append [] ys = omega arith
pieces-append (x ∷ xs) ys = omega (arith, pieces-append xs ys)

-- at most one of each
abbrev Few : List Told → Type 0
Few ts = (elements_in ts ≤ 1) × (pieces_in ts ≤ 1)

few-pick : (p : ℕ) (b : Bool) (xs ys : List Given) → Few (map (told p) xs) → Few (map (told p) ys) → Few (map (told p) (pick b xs ys))
few-pick p true xs ys f g = f
few-pick p false xs ys f g = g

few-none : Few []
unfolding elements_in pieces_in
few-none = (omega arith, omega arith)

few-left : (s a p : ℕ) → Few (map (told p) (left_by s a p))
unfolding left_by elements_in pieces_in
few-left s a p =
    let y : 1 ≤ 1 = omega arith in
    let n : 0 ≤ 1 = omega arith in
    few-pick p (eqb s 2) _ _ (y, n)
    (few-pick p (eqb s 3) _ _ (n, y)
    (few-pick p (eqb s 4) _ _ (n, y)
    (few-pick p (eqb s 6) _ _ (y, y)
    (few-pick p (eqb s 8) _ _ (y, y)
    (few-pick p (eqb s 9) _ _ (y, n)
    (few-pick p (eqb s 11) _ _ (n, y)
    (few-pick p (eqb s 12) _ _ (few-pick p (ltb (a + 1) p) _ _ (n, y) (n, n))
    (few-pick p (eqb s 15) _ _ (n, y) (n, n)))))))))

few-by : (s t a p : ℕ) → Few (map (told p) (given_by s t a p))
few-by s t a p = few-pick p (stays s t) [] (left_by s a p) few-none (few-left s a p)

-- at most as many as there are bytes
few-turn : (xs rest : List Told) (n : ℕ) (c d : Bool) → Few xs → (elements_in rest ≤ n) × (pieces_in rest ≤ n)
    → (elements_in (pick c [] (xs ++ pick d [] rest)) ≤ 1 + n) × (pieces_in (pick c [] (xs ++ pick d [] rest)) ≤ 1 + n)
unfolding elements_in pieces_in
few-turn xs rest n true d f r = (omega arith, omega arith)
few-turn xs rest n false true f r = (omega (arith, elements-append xs [], f.0), omega (arith, pieces-append xs [], f.1))
few-turn xs rest n false false f r = (omega (arith, elements-append xs rest, f.0, r.0), omega (arith, pieces-append xs rest, f.1, r.1))

pub given-few : (s a p : ℕ) (bs : List ℕ) → (elements_in (given_from s a p bs) ≤ length bs) × (pieces_in (given_from s a p bs) ≤ length bs)
unfolding given_from elements_in pieces_in
given-few s a p [] = (omega arith, omega arith)
given-few s a p (b ∷ bs) =
    let r = few-turn (map (told p) (given_by s (step_of s b) a p)) (given_from (onward (step_of s b)) (begun_by s (step_of s b) a p) (p + 1) bs) (length bs)
    (eqb (step_of s b) 17) (halts (step_of s b) bs) (few-by s (step_of s b) a p) (given-few (onward (step_of s b)) (begun_by s (step_of s b) a p) (p + 1) bs) in
    (omega (arith, r.0), omega (arith, r.1))

-- ---- with that room nothing is refused
module _ (ne np at : ℕ) where
  hold-step : (g : Given) (h : Held) → length h.elements + 5 * elements_in (told at g ∷ []) ≤ ne → length h.pieces + 2 * pieces_in (told at g ∷ []) ≤ np
      → ((hold_in ne np at g h).number ≡ 0) × (length (hold_in ne np at g h).elements ≡ length h.elements + 5 * elements_in (told at g ∷ []))
      × (length (hold_in ne np at g h).pieces ≡ length h.pieces + 2 * pieces_in (told at g ∷ []))
  unfolding elements_in pieces_in
  hold-step (Element k a e) h l m = rw (le-leb (length h.elements + 5) ne (omega (arith, l))) (refl, length-append h.elements _ ∙ omega arith, omega arith)
  hold-step (Piece a e) h l m =
      rw (le-leb (length h.pieces + 2) np (omega (arith, m))) (refl, length-set h.elements _ _ ∙ omega arith, length-append h.pieces _ ∙ omega arith)

module _ (ne np : ℕ) where
  pub hold-room : (ts : List Told) (h : Held) → h.number ≡ 0 → length h.elements + 5 * elements_in ts ≤ ne → length h.pieces + 2 * pieces_in ts ≤ np → (hold_all ne np ts h).number ≡ 0
  unfolding hold_all
  hold-room [] h z l m = z
  hold-room (t ∷ ts) h z l m =
      let e = elements-append (t ∷ []) ts in
      let p = pieces-append (t ∷ []) ts in
      let s = hold-step ne np t.place t.what h (omega (arith, l, e)) (omega (arith, m, p)) in
      rw (eq-eqb h.number 0 z) (hold-room ts (hold_in ne np t.place t.what h) s.0 (omega (arith, l, e, s.1)) (omega (arith, m, p, s.2)))

-- ---- so the reader accepts exactly what is a set
finish-held : (ne np len : ℕ) (h : Held) (v : Verdict) → h.number ≡ 0 → finish ne np len h v ≡ judged ne np len h v
unfolding finish
finish-held ne np len h v z = rw (eq-eqb h.number 0 z)

good-finish : (ne np len : ℕ) (h : Held) (v : Verdict) → (finish ne np len h v).answer.number ≡ 0 → v ≡ Good
unfolding finish
good-finish ne np len h v = by-test (eqb h.number 0) refl v
  where
    by-test : (t : Bool) → eqb h.number 0 ≡ t → (v : Verdict)
        → (pick t (judged ne np len h v) (record { answer = record { number = h.number; position = h.place; count = 0 }; elements = replicate ne 0; pieces = replicate np 0 })).answer.number ≡ 0 → v ≡ Good
    by-test true e Good n = refl
    by-test true e (Bad p) n = absurd (omega (arith, n))
    by-test false e v n = absurd (eqb-false h.number 0 e n)

module _ (bytes : List ℕ) (ne np : ℕ) where
  pub opened-good : (open_of bytes ne np).answer.number ≡ 0 → verdict_of (trim_end bytes) ≡ Good
  unfolding open_of
  opened-good = good-finish ne np (length bytes) _ _

  -- never 13 with that room: the answer is the verdict's
  pub roomy : 5 * length bytes ≤ ne → 2 * length bytes ≤ np → open_of bytes ne np ≡ judged ne np (length bytes) (hold_all ne np (given_of (trim_end bytes)) (held [] [])) (verdict_of (trim_end bytes))
  unfolding open_of trim_end
  roomy l m =
      let f = given-few 0 0 0 (trim_end bytes) in
      let k = length-take-le (kept bytes) bytes (kept-le bytes) in
      finish-held ne np (length bytes) (hold_all ne np (given_of (trim_end bytes)) (held [] [])) _
      (hold-room ne np (given_of (trim_end bytes)) (held [] []) refl (omega (arith, f.0, k, kept-le bytes, l)) (omega (arith, f.1, k, kept-le bytes, m)))

  pub good-opened : 5 * length bytes ≤ ne → 2 * length bytes ≤ np → verdict_of (trim_end bytes) ≡ Good → (open_of bytes ne np).answer.number ≡ 0
  good-opened l m g = ap (λ (o : Outcome). o.answer.number) (roomy l m ∙ ap (judged ne np (length bytes) (hold_all ne np (given_of (trim_end bytes)) (held [] []))) g)
