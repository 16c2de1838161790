-- Lines stay parts of the text, and a block that is met fits it. Assumes nothing.
use mathlib.Core.List.{List, [], ◌∷◌, map}
use Prim.Native.Nat.{ℕ, zero, suc, ◌+◌, ◌-◌, ◌≤◌}
use native.Mathlib.Omega.{arith}
use lib.Dec.{eqb, ltb}
use lib.ListN.{length, take, drop, get_or}
use borrow.Author.Tests.{ltb-true}
use Rattle.classes.specs.Choice.{pick, both, either}
use Rattle.classes.proofs.ChoiceLaws.{true-left, true-right}
use Rattle.lines.specs.Lines.{Span, lines_from, lines_of, place_of}
use Rattle.trim.proofs.TrimLaws.{part_length}
use Rattle.kinds.specs.declared.Kind.{Kind}
use Rattle.kinds.specs.declared.Kind.TheVariants.{Blankline, Attributes, ThematicBreak, Paragraph, Heading, Fenced, Definition, Blockquote, ListItem, Table}
use Rattle.measure.specs.Continue.{kind_num}
use Rattle.measure.specs.Measure.{line_in, measure_of}
use Rattle.measure.specs.declared.Measured.{Measured}
use Rattle.walk.specs.Fields.{from_of, to_of, closed_of}
use Rattle.walk.specs.Leaf.{line_at}
use Rattle.walk.specs.Tree.{last_line, met_of, prefix_of, strip_line, strip_lines, after_quote, skip_opening, inner_lines}
use Rattle.walk.specs.declared.Met.{Met}
use Rattle.tree.proofs.MeasuredLaws.{measure-takes}
use Rattle.theorems.proofs.Proper.{Proper, of-pick}
use Rattle.theorems.proofs.ProperKinds.{measured-proper}
use Rattle.theorems.proofs.Trees.{Inside, Fit}

-- ---- lines
-- of the bytes from p on, the first line starting at s
from-inside : (text : List ℕ) (s p : ℕ) (bs : List ℕ) → s ≤ p → p + length bs ≤ length text → Inside text (lines_from s p bs)
unfolding lines_from
from-inside text s p [] h k = of-pick (Inside text) (eqb s p) _ _ (λ e. tt) (λ e. (h, omega arith, tt))
from-inside text s p (b ∷ bs) h k =
    of-pick (Inside text) (eqb b 10) _ _
    (λ e. (omega arith, omega arith, from-inside text (p + 1) (p + 1) bs (omega arith) (omega arith)))
    (λ e. from-inside text s (p + 1) bs (omega arith) (omega arith))

pub inside-lines : (text : List ℕ) → Inside text (lines_of text)
unfolding lines_of
inside-lines text = from-inside text 0 0 text (omega arith) (omega arith)

pub inside_take : (text : List ℕ) (n : ℕ) (ls : List Span) → Inside text ls → Inside text (take n ls)
inside_take text zero ls i = tt
inside_take text (suc n) [] i = tt
inside_take text (suc n) (l ∷ ls) i = (i.0, i.1, inside_take text n ls i.2)

pub inside-drop : (text : List ℕ) (n : ℕ) (ls : List Span) → Inside text ls → Inside text (drop n ls)
inside-drop text zero ls i = i
inside-drop text (suc n) [] i = tt
inside-drop text (suc n) (l ∷ ls) i = inside-drop text n ls i.2

-- ---- a container's lines
place-le : (b : ℕ) (s : List ℕ) → place_of b s ≤ length s
unfolding place_of
place-le b [] = omega arith
place-le b (x ∷ s) = of-pick (λ (n : ℕ). n ≤ suc (length s)) (eqb x b) 0 _ (λ e. omega arith) (λ e. omega (arith, place-le b s))

prefix-le : (k : Kind) (opening : ℕ) (line : List ℕ) → prefix_of k opening line ≤ length line
unfolding prefix_of
prefix-le k opening line = omega (arith, place-le 10 line)

map-inside : (text : List ℕ) (k : Kind) (opening : ℕ) (ls : List Span) → Inside text ls → Inside text (map (strip_line text k opening) ls)
map-inside text k opening [] i = tt
map-inside text k opening (l ∷ ls) i =
    (omega (arith, i.0, prefix-le k opening (line_at text l), (part_length text l.start l.end).0), i.1, map-inside text k opening ls i.2)

pub inside-strip : (text : List ℕ) (k : Kind) (opening : ℕ) (ls : List Span) → Inside text ls → Inside text (strip_lines text k opening ls)
unfolding strip_lines
inside-strip text k opening [] i = tt
inside-strip text k opening (l ∷ ls) i = (i.0, i.1, map-inside text k opening ls i.2)

-- a byte after the opening is in the line
after-le : (text : List ℕ) (m : Met) (l : Span) → m.end ≤ l.end → m.end + after_quote text m l ≤ l.end
after-le text m l h =
    let b = get_or text m.end 0 in
    let q = eqb (kind_num m.kind) 8 in
    let r = ltb m.end l.end in
    let g = either (eqb b 32) (eqb b 9) in
    of-pick (λ (n : ℕ). m.end + n ≤ l.end) (both q (both r g)) 1 0
    (λ e. omega (arith, ltb-true m.end l.end (true-left r g (true-right q (both r g) e))))
    (λ e. omega arith)

pub inside-skip : (text : List ℕ) (m : Met) (l : Span) (ls : List Span) → m.end ≤ l.end → Inside text (l ∷ ls) → Inside text (skip_opening text m (l ∷ ls))
unfolding skip_opening
inside-skip text m l ls h i = (after-le text m l h, i.1, i.2)

pub inside-inner : (text : List ℕ) (k : Kind) (ls : List Span) → Inside text ls → Inside text (inner_lines k ls)
inside-inner text k ls i =
    let n = length ls - 1 - pick (closed_of k) 1 0 in
    of-pick (Inside text) (eqb (kind_num k) 6) _ ls (λ e. inside_take text n (drop 1 ls) (inside-drop text 1 ls i)) (λ e. i)

-- ---- a block
last-inside : (text : List ℕ) (ls : List Span) → Inside text ls → ((last_line ls).start ≤ (last_line ls).end) × ((last_line ls).end ≤ length text)
unfolding last_line
last-inside text [] i = (omega arith, omega arith)
last-inside text (l ∷ ls) i =
    of-pick (λ (z : Span). (z.start ≤ z.end) × (z.end ≤ length text)) (eqb (length ls) 0) l (last_line ls) (λ e. (i.0, i.1)) (λ e. last-inside text ls i.2)

-- what is proper of a line is proper of a text that is as long or longer
proper-more : (n p : ℕ) (k : Kind) → n ≤ p → Proper n k → Proper p k
proper-more n p Blankline h q = tt
proper-more n p Attributes h q = tt
proper-more n p ThematicBreak h q = tt
proper-more n p Paragraph h q = tt
proper-more n p (Heading l) h q = q
proper-more n p (Fenced i l m s c k) h q = (q.0, omega (arith, h, q.1))
proper-more n p (Definition i f s b) h q = (q.0, omega (arith, h, q.1))
proper-more n p Blockquote h q = tt
proper-more n p (ListItem i m b) h q = q
proper-more n p (Table c b) h q = tt

-- a spec, class or label is in order, and in the line
pair-le : (n : ℕ) (k : Kind) → Proper n k → (from_of k ≤ to_of k) × (to_of k ≤ n)
pair-le n Blankline q = (omega arith, omega arith)
pair-le n Attributes q = (omega arith, omega arith)
pair-le n ThematicBreak q = (omega arith, omega arith)
pair-le n Paragraph q = (omega arith, omega arith)
pair-le n (Heading l) q = (omega arith, omega arith)
pair-le n (Fenced i l m s c k) q = q
pair-le n (Definition i f s b) q = q
pair-le n Blockquote q = (omega arith, omega arith)
pair-le n (ListItem i m b) q = (omega arith, omega arith)
pair-le n (Table c b) q = (omega arith, omega arith)

-- of the lines that a block takes
taken-fit : (text : List ℕ) (m : Measured) (l : Span) (ls : List Span) → Inside text (l ∷ ls) → m.opening.start ≤ m.opening.end → m.opening.end ≤ length (line_in text l)
    → Proper (length (line_in text l)) m.kind → Fit text (met_of m (l ∷ ls)) l.start × ((met_of m (l ∷ ls)).end ≤ l.end)
unfolding met_of
taken-fit text m l ls i s e p =
    let n = length (line_in text l) in
    let z = last_line (l ∷ ls) in
    let w = (part_length text l.start l.end).0 in
    let first = i.0 in
    let inside = i.1 in
    let last = last-inside text (l ∷ ls) i in
    let pair = pair-le n m.kind p in (
      record {
        start = omega arith;
        end = omega arith;
        from = of-pick (λ (f : ℕ). f ≤ z.end) (closed_of m.kind) z.start z.end (λ q. last.0) (λ q. omega arith);
        to = last.1;
        pair = omega (arith, pair.0);
        last = omega (arith, pair.1);
        proper = proper-more n (length text) m.kind (omega arith) p;
      },
      omega arith,
    )

some_fit : (text : List ℕ) (m : Measured) (n : ℕ) (l : Span) (ls : List Span) → 1 ≤ n → Inside text (l ∷ ls) → m.opening.start ≤ m.opening.end → m.opening.end ≤ length (line_in text l)
    → Proper (length (line_in text l)) m.kind → Fit text (met_of m (take n (l ∷ ls))) l.start × ((met_of m (take n (l ∷ ls))).end ≤ l.end)
some_fit text m zero l ls h i = absurd (omega arith)
some_fit text m (suc n) l ls h i = taken-fit text m l (take n ls) (i.0, i.1, inside_take text n ls i.2)

pub met-fit : (text : List ℕ) (l : Span) (ls : List Span) → Inside text (l ∷ ls)
    → let m = measure_of text (l ∷ ls) in let n = m.lines - m.given in
    Fit text (met_of m (take n (l ∷ ls))) l.start × ((met_of m (take n (l ∷ ls))).end ≤ l.end) × (1 ≤ n)
met-fit text l ls i =
    let m = measure_of text (l ∷ ls) in
    let n = m.lines - m.given in
    let h : 1 ≤ n = omega (arith, (measure-takes text l ls).some) in
    let p = measured-proper text l ls in
    let f = some_fit text m n l ls h i p.0 p.1 p.2 in
    (f.0, f.1, h)
