-- The lines of a text, from one place on: each starts behind a newline and holds a byte at least, and its block's opening starts in it. Assumes nothing.
use mathlib.Core.Path.{◌≡◌, refl, sym, ap, ◌∙◌}
use mathlib.Core.Bool.{Bool, true, false, true≢false}
use mathlib.Core.List.{List, [], ◌∷◌}
use Prim.Native.Nat.{ℕ, zero, suc, ◌+◌, ◌-◌, ◌≤◌, ◌<◌}
use native.Mathlib.Omega.{arith}
use native.Mathlib.Nat.{add-zero}
use lib.Dec.{eqb}
use lib.ListN.{length, take, drop, get_or, length-drop}
use lib.Seq.{get_or-drop, drop-drop}
use borrow.Author.Tests.{eqb-true, eqb-false, eq-eqb}
use Rattle.classes.specs.Choice.{pick}
use Rattle.lines.specs.Lines.{Span, lines_from, lines_of}
use Rattle.trim.specs.Trim.{front, is_gap, indent, part_of}
use Rattle.trim.proofs.TrimLaws.{gap-newline}
use Rattle.measure.specs.Measure.{line_in, measure_of}
use Rattle.measure.specs.declared.Measured.{Measured}
use Rattle.walk.specs.Tree.{met_of}
use Rattle.tops.specs.Tops.{line_start}
use Rattle.theorems.proofs.Proper.{of-pick}
use Rattle.theorems.proofs.ProperKinds.{measured-proper}

-- ---- lines that go on to the text's end
-- a line starts at p, behind a newline or at 0, and the next one where it ends
abbrev pub Lined : List ℕ → ℕ → List Span → Type 0
Lined text p [] = p ≡ length text
Lined text p (l ∷ ls) = (l.start ≡ p) × (line_start text p ≡ p) × (p < l.end) × Lined text l.end ls

start-newline : (text : List ℕ) (p : ℕ) → get_or text p 0 ≡ 10 → line_start text (suc p) ≡ suc p
unfolding line_start
start-newline text p e = rw (eq-eqb (get_or text p 0) 10 e)

start-on : (text : List ℕ) (p : ℕ) → eqb (get_or text p 0) 10 ≡ false → line_start text (suc p) ≡ line_start text p
unfolding line_start
start-on text p e = rw e

module _ (text : List ℕ) (p b : ℕ) (bs : List ℕ) (e : drop p text ≡ b ∷ bs) where
  first_byte : get_or text p 0 ≡ b
  first_byte = ap (λ (i : ℕ). get_or text i 0) (sym (add-zero p)) ∙ sym (get_or-drop p text 0 0) ∙ ap (λ (l : List ℕ). get_or l 0 0) e

  bytes_on : drop (p + 1) text ≡ bs
  bytes_on = sym (drop-drop 1 p text) ∙ ap (λ (l : List ℕ). drop 1 l) e

  one_more : suc (p + length bs) ≡ length text
  one_more = omega (arith, ap (λ (l : List ℕ). length l) e, length-drop p text)

from-lined : (text : List ℕ) (s p : ℕ) (bs : List ℕ) → drop p text ≡ bs → s ≤ p → p + length bs ≡ length text → line_start text s ≡ s → Lined text s (lines_from s p bs)
unfolding lines_from
from-lined text s p [] e h k f = of-pick (Lined text s) (eqb s p) _ _ (λ q. omega (arith, eqb-true s p q)) (λ q. (refl, f, omega (arith, eqb-false s p q), omega arith))
from-lined text s p (b ∷ bs) e h k f =
    let n : p + 1 ≡ suc p = omega arith in
    let r = bytes_on text p b bs e in
    of-pick (Lined text s) (eqb b 10) _ _
    (λ q.
    let g : line_start text (p + 1) ≡ p + 1 = rw n (start-newline text p (first_byte text p b bs e ∙ eqb-true b 10 q)) in
    (refl, f, omega arith, from-lined text (p + 1) (p + 1) bs r (omega arith) (omega arith) g))
    (λ q. from-lined text s (p + 1) bs r (omega arith) (omega arith) f)

pub lines-lined : (text : List ℕ) → Lined text 0 (lines_of text)
unfolding lines_of line_start
lines-lined text = from-lined text 0 0 text refl (omega arith) (omega arith) refl

-- ---- where a block's opening starts
gap-on : (text : List ℕ) (p : ℕ) → is_gap (get_or text p 0) ≡ true → line_start text (suc p) ≡ line_start text p
gap-on text p g = by-case (eqb (get_or text p 0) 10) refl
  where
    by-case : (c : Bool) → eqb (get_or text p 0) 10 ≡ c → line_start text (suc p) ≡ line_start text p
    by-case true e = absurd (true≢false (sym g ∙ sym (gap-newline (get_or text p 0) (eqb-true (get_or text p 0) 10 e))))
    by-case false e = start-on text p e

-- a place in the whitespace before it is in the same line
gap-start : (text : List ℕ) (p i : ℕ) (bs : List ℕ) (n : ℕ) → drop p text ≡ bs → i ≤ front is_gap (take n bs) → line_start text (p + i) ≡ line_start text p
unfolding front
gap-start text p zero bs n e h = rw add-zero
gap-start text p (suc i) bs zero e h = absurd (omega arith)
gap-start text p (suc i) [] (suc n) e h = absurd (omega arith)
gap-start text p (suc i) (b ∷ bs) (suc n) e h = by-case (is_gap b) refl h (gap-start text (p + 1) i bs n (bytes_on text p b bs e))
  where
    by-case : (c : Bool) → is_gap b ≡ c → suc i ≤ pick c (suc (front is_gap (take n bs))) 0
        → (i ≤ front is_gap (take n bs) → line_start text (p + 1 + i) ≡ line_start text (p + 1)) → line_start text (p + suc i) ≡ line_start text p
    by-case true g k r =
        let z : p + suc i ≡ p + 1 + i = omega arith in
        let w : p + 1 ≡ suc p = omega arith in
        ap (line_start text) z ∙ r (omega arith) ∙ ap (line_start text) w ∙ gap-on text p (ap is_gap (first_byte text p b bs e) ∙ g)
    by-case false g k r = absurd (omega arith)

taken_start : (text : List ℕ) (p : ℕ) (m : Measured) (n : ℕ) (l : Span) (ls : List Span) → 1 ≤ n → m.opening.start ≤ indent (line_in text l) → Lined text p (l ∷ ls)
    → line_start text (met_of m (take n (l ∷ ls))).start ≡ p
unfolding met_of part_of
taken_start text p m zero l ls k h f = absurd (omega arith)
taken_start text p m (suc n) l ls k h f =
    gap-start text l.start m.opening.start (drop l.start text) (l.end - l.start) refl h ∙ ap (line_start text) f.0 ∙ f.1

-- the block of these lines, of which it takes so many
pub block_start : (text : List ℕ) (p n : ℕ) (l : Span) (ls : List Span) → 1 ≤ n → Lined text p (l ∷ ls)
    → line_start text (met_of (measure_of text (l ∷ ls)) (take n (l ∷ ls))).start ≡ p
block_start text p n l ls k = taken_start text p (measure_of text (l ∷ ls)) n l ls k (measured-proper text l ls).3
