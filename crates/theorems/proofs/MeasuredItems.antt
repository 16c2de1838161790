-- Measuring keeps the number of the kind, and an item is measured with every blank line behind it. Assumes nothing.
use mathlib.Core.Path.{◌≡◌, refl, ◌∙◌, sym, ap}
use mathlib.Core.Bool.{Bool, true, false, not}
use mathlib.Core.List.{List, [], ◌∷◌}
use Prim.Native.Nat.{ℕ, ◌+◌}
use native.Mathlib.Omega.{arith}
use lib.Dec.{eqb, ltb}
use lib.ListN.{length, drop}
use lib.Seq.{drop-drop}
use borrow.Author.Tests.{eqb-false}
use Rattle.classes.specs.Choice.{pick, both, either}
use Rattle.lines.specs.Lines.{Span}
use Rattle.trim.specs.Trim.{lead, trim_both}
use Rattle.kinds.specs.Identify.{identify_of}
use Rattle.kinds.specs.declared.Kind.{Kind}
use Rattle.kinds.specs.declared.Kind.TheVariants.{Blankline, Attributes, ThematicBreak, Paragraph, Heading, Fenced, Definition, Blockquote, ListItem, Table}
use Rattle.measure.specs.Continue.{Taken, taken_as, kind_num, num_of, indented_on, caption_at, open_fence, definition_on, item_on, table_on, continues_of}
use Rattle.measure.specs.Measure.{gives_back, line_in, measured_as, extend_of, measure_of}
use Rattle.measure.specs.declared.Measured.{Measured}

-- ---- continuing never changes the kind's number
abbrev Same : ℕ → Taken → Type 0
Same n t = kind_num t.kind ≡ n

same-pick : (n : ℕ) (b : Bool) (x y : Taken) → Same n x → Same n y → Same n (pick b x y)
same-pick n true x y p q = p
same-pick n false x y p q = q

continues-same : (k : Kind) (line : List ℕ) → Same (kind_num k) (continues_of k line)
unfolding continues_of open_fence definition_on item_on table_on
continues-same Blankline line = refl
continues-same Attributes line = refl
continues-same ThematicBreak line = refl
continues-same Paragraph line = refl
continues-same (Heading l) line = refl
continues-same (Fenced i l m s c n) line = same-pick 6 c _ _ refl refl
continues-same (Definition i f s b) line = same-pick 7 f _ _ (same-pick 7 (indented_on i b (num_of line) line) _ _ refl refl) refl
continues-same Blockquote line = refl
continues-same (ListItem i m b) line = same-pick 9 (indented_on i b (num_of line) line) _ _ refl refl
continues-same (Table c b) line =
    let row = trim_both line in
    same-pick 10 c _ _ refl
    (same-pick 10 (eqb (length row) 0) _ _ refl
    (same-pick 10 (caption_at row) _ _ refl
    (same-pick 10 b _ _ refl refl)))

extend_same : (text : List ℕ) (s e : ℕ) (k : Kind) (xs : List Span) (l g n : ℕ) → kind_num (extend_of text s e k xs l g n).kind ≡ kind_num k
unfolding extend_of
extend_same text s e k [] l g n = refl
extend_same text s e k (x ∷ xs) l g n =
    let t = continues_of k (line_in text x) in
    let more = extend_of text s e t.kind xs (l + 1) (gives_back t.kind g) (n + 1) in
    by-case t.taken more (measured_as k s e l g (n + 1)) (extend_same text s e t.kind xs (l + 1) (gives_back t.kind g) (n + 1) ∙ continues-same k (line_in text x)) refl
  where
    by-case : (b : Bool) (p q : Measured) → kind_num p.kind ≡ kind_num k → kind_num q.kind ≡ kind_num k → kind_num (pick b p q).kind ≡ kind_num k
    by-case true p q u v = u
    by-case false p q u v = v

pub measured-first : (text : List ℕ) (x : Span) (xs : List Span) → kind_num (measure_of text (x ∷ xs)).kind ≡ kind_num (identify_of (line_in text x)).kind
unfolding measure_of
measured-first text x xs =
    let b = identify_of (line_in text x) in
    extend_same text b.opening.start b.opening.end b.kind xs 1 0 1

-- ---- an item gives no line back
item_back : (k : Kind) (g : ℕ) → kind_num k ≡ 9 → gives_back k g ≡ 0
item_back Blankline g e = refl
item_back Attributes g e = refl
item_back ThematicBreak g e = refl
item_back Paragraph g e = refl
item_back (Heading l) g e = refl
item_back (Fenced i l m s c n) g e = refl
item_back (Definition i f s b) g e = refl
item_back Blockquote g e = refl
item_back (ListItem i m b) g e = refl
item_back (Table c b) g e = absurd (omega arith)

-- ---- and a line that does not continue it is not blank
full : (b c d : Bool) (x y : Taken) → x.taken ≡ true → (pick (either b (either c d)) x y).taken ≡ false → b ≡ false
full true c d x y t e = sym t ∙ e
full false c d x y t e = refl

item-stops : (k : Kind) (line : List ℕ) → kind_num k ≡ 9 → (continues_of k line).taken ≡ false → kind_num (identify_of line).kind ≡ 1 → ⊥
unfolding continues_of item_on indented_on num_of
item-stops Blankline line e = absurd (omega arith)
item-stops Attributes line e = absurd (omega arith)
item-stops ThematicBreak line e = absurd (omega arith)
item-stops Paragraph line e = absurd (omega arith)
item-stops (Heading l) line e = absurd (omega arith)
item-stops (Fenced i l m s c n) line e = absurd (omega arith)
item-stops (Definition i f s b) line e = absurd (omega arith)
item-stops Blockquote line e = absurd (omega arith)
item-stops (ListItem i m b) line e =
    let n = kind_num (identify_of line).kind in
    λ h. eqb-false n 1 (full (eqb n 1) (ltb i (lead line)) (both (not b) (eqb n 4)) (taken_as true (ListItem i m (eqb n 1))) (taken_as false (ListItem i m b)) refl h)
item-stops (Table c b) line e = absurd (omega arith)

-- ---- so it is measured whole
module _ (text : List ℕ) (all : List Span) where
  abbrev Whole : Measured → Type 0
  Whole m = (m.given ≡ 0) × ((y : Span) (ys : List Span) → drop m.lines all ≡ y ∷ ys → kind_num (identify_of (line_in text y)).kind ≡ 1 → ⊥)

  whole-pick : (b : Bool) (x y : Measured) → (b ≡ true → Whole x) → (b ≡ false → Whole y) → Whole (pick b x y)
  whole-pick true x y p q = p refl
  whole-pick false x y p q = q refl

  no_more : (l : ℕ) → drop l all ≡ [] → (y : Span) (ys : List Span) → drop l all ≡ y ∷ ys → ⊥
  no_more l d y ys e = omega (arith, ap (λ (ls : List Span). length ls) (sym d ∙ e))

  one_more : (l : ℕ) (x : Span) (xs : List Span) → drop l all ≡ x ∷ xs → (k : Kind) → kind_num k ≡ 9 → (continues_of k (line_in text x)).taken ≡ false
      → (y : Span) (ys : List Span) → drop l all ≡ y ∷ ys → kind_num (identify_of (line_in text y)).kind ≡ 1 → ⊥
  one_more l x xs d k i h y ys e =
      let same : x ≡ y = ap (λ (ls : List Span). head x ls) (sym d ∙ e) in
      rw (← same) (item-stops k (line_in text x) i h)
    where
      head : Span → List Span → Span
      head z [] = z
      head z (v ∷ vs) = v

  extend-whole : (s e : ℕ) (k : Kind) (xs : List Span) (l g n : ℕ) → kind_num k ≡ 9 → g ≡ 0 → drop l all ≡ xs → Whole (extend_of text s e k xs l g n)
  unfolding extend_of
  extend-whole s e k [] l g n i z d = (z, λ y ys h. absurd (no_more l d y ys h))
  extend-whole s e k (x ∷ xs) l g n i z d =
      let t = continues_of k (line_in text x) in
      let j : kind_num t.kind ≡ 9 = continues-same k (line_in text x) ∙ i in
      let rest : drop (l + 1) all ≡ xs = sym (drop-drop 1 l all) ∙ ap (λ (ls : List Span). drop 1 ls) d in
      whole-pick t.taken (extend_of text s e t.kind xs (l + 1) (gives_back t.kind g) (n + 1)) (measured_as k s e l g (n + 1))
      (λ h. extend-whole s e t.kind xs (l + 1) (gives_back t.kind g) (n + 1) j (item_back t.kind g j) rest)
      (λ h. (z, one_more l x xs d k i h))

pub item-whole : (text : List ℕ) (x : Span) (xs : List Span) → kind_num (measure_of text (x ∷ xs)).kind ≡ 9
    → ((measure_of text (x ∷ xs)).given ≡ 0)
    × ((y : Span) (ys : List Span) → drop (measure_of text (x ∷ xs)).lines (x ∷ xs) ≡ y ∷ ys → kind_num (identify_of (line_in text y)).kind ≡ 1 → ⊥)
unfolding measure_of
item-whole text x xs e =
    let b = identify_of (line_in text x) in
    extend-whole text (x ∷ xs) b.opening.start b.opening.end b.kind xs 1 0 1 (sym (measured-first text x xs) ∙ e) refl refl
