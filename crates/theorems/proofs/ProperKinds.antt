-- What a line begins is proper, and what measuring a block gives is. Assumes nothing.
use mathlib.Core.Path.{◌≡◌, refl, ap, ◌∙◌}
use mathlib.Core.Bool.{Bool, true, false}
use mathlib.Core.List.{List, [], ◌∷◌}
use Prim.Native.Nat.{ℕ, suc, ◌+◌, ◌≤◌}
use native.Mathlib.Omega.{arith}
use lib.Dec.{eqb, leb, ltb}
use lib.ListN.{length, get_or, drop}
use borrow.Author.Tests.{eq-eqb, eqb-true, eqb-false}
use Rattle.classes.specs.Choice.{pick, both}
use Rattle.classes.specs.Classes.{is_space}
use Rattle.lines.specs.Lines.{Span, place_of}
use Rattle.trim.specs.Trim.{front, indent, kept, trim_both, trim_end, part_of}
use Rattle.trim.specs.Label.{close_at, defines_of, label_start}
use Rattle.trim.proofs.TrimLaws.{front-le, part_length}
use Rattle.attrs.specs.Machine.{valid_of}
use Rattle.std.specs.Prelude.{Option, Some, None}
use Rattle.markers.specs.Markers.{ends_at, marker_of}
use Rattle.markers.specs.declared.Marked.{Marked as Found}
use Rattle.kinds.specs.Bytes.{same, break_of, bar_end}
use Rattle.kinds.specs.Identify.{paragraph_at, heading_of, quote_of, attributes_of, table_of, definition_of, item_by, item_of, rule_of, spec_start, spec_ok, fence_of, colon_of, begin_of, identify_of}
use Rattle.kinds.specs.declared.Identified.{Identified}
use Rattle.kinds.specs.declared.Kind.{Kind}
use Rattle.kinds.specs.declared.Kind.TheVariants.{Blankline, Attributes, ThematicBreak, Paragraph, Heading, Fenced, Definition, Blockquote, ListItem, Table}
use Rattle.measure.specs.Continue.{Taken, num_of, indented_on, caption_at, open_fence, definition_on, item_on, table_on, continues_of}
use Rattle.measure.specs.Measure.{gives_back, line_in, extend_of, measure_of}
use Rattle.measure.specs.declared.Measured.{Measured}
use Rattle.walk.specs.Fields.{to_of}
use Rattle.walk.proofs.WithinLaws.{identify-within}
use Rattle.theorems.proofs.Proper.{Proper, Reads, of-pick, marker-reads}

-- ---- counts at the front
some-front : (b : ℕ) (t : List ℕ) → get_or t 0 0 ≡ suc b → 1 ≤ front (same (suc b)) t
unfolding front
some-front b [] e = absurd (omega arith)
some-front b (x ∷ xs) e = rw (eq-eqb x (suc b) e) (omega arith)

-- bytes at the front that are no whitespace are kept
front_kept : (b : ℕ) → is_space b ≡ false → (t : List ℕ) → front (same b) t ≤ kept t
unfolding front kept
front_kept b n [] = omega arith
front_kept b n (x ∷ xs) = of-pick Below (eqb x b) _ 0 (λ p. rw (eqb-true x b p, n) (more (eqb (kept xs) 0) refl (front_kept b n xs))) (λ p. omega arith)
  where
    Below : ℕ → Type 0
    Below k = k ≤ pick (eqb (kept xs) 0) (pick (is_space x) 0 1) (suc (kept xs))

    more : (c : Bool) → eqb (kept xs) 0 ≡ c → front (same b) xs ≤ kept xs → suc (front (same b) xs) ≤ pick c 1 (suc (kept xs))
    more true q h = omega (arith, eqb-true (kept xs) 0 q)
    more false q h = omega arith

-- a label ends where it starts, or behind
label-le : (t : List ℕ) → get_or t 0 0 ≡ 91 → label_start t ≤ close_at t
unfolding label_start place_of
label-le [] e = absurd (omega arith)
label-le (x ∷ []) e = rw e (omega arith)
label-le (x ∷ y ∷ ys) e = rw e (by-case (eqb y 94) (eqb y 93) refl refl)
  where
    by-case : (c d : Bool) → eqb y 94 ≡ c → eqb y 93 ≡ d → pick {A = ℕ} c 2 1 ≤ 1 + pick d 0 (1 + place_of 93 ys)
    by-case true true p q = absurd (omega (arith, eqb-true y 94 p, eqb-true y 93 q))
    by-case true false p q = omega arith
    by-case false d p q = omega arith

-- ---- what a line begins, from the indent n or before it on, its spec or label ending within m bytes
module _ (m n : ℕ) where
  abbrev Right : Identified → Type 0
  Right x = (x.opening.start ≤ x.opening.end) × (x.opening.start ≤ n) × (to_of x.kind ≤ m → Proper m x.kind)

  paragraph : Right (paragraph_at n)
  paragraph = (omega arith, omega arith, λ h. tt)

  module _ (t : List ℕ) where
    heading-right : get_or t 0 0 ≡ 35 → Right (heading_of n t)
    unfolding heading_of
    heading-right e = of-pick Right (ends_at t (front (same 35) t)) _ _ (λ p. (omega arith, omega arith, λ h. some-front 34 t e)) (λ p. paragraph)

    quote-right : Right (quote_of n t)
    unfolding quote_of
    quote-right = of-pick Right (ends_at t 1) _ _ (λ p. (omega arith, omega arith, λ h. tt)) (λ p. paragraph)

    attributes-right : Right (attributes_of n t)
    unfolding attributes_of
    attributes-right = of-pick Right (eqb (valid_of t) (kept t)) _ _ (λ p. (omega arith, omega arith, λ h. tt)) (λ p. paragraph)

    table-right : Right (table_of n t)
    unfolding table_of
    table-right = of-pick Right (both (leb 2 (length (trim_end t))) (bar_end (trim_end t))) _ _ (λ p. (omega arith, omega arith, λ h. tt)) (λ p. paragraph)

    definition-right : get_or t 0 0 ≡ 91 → Right (definition_of n t)
    unfolding definition_of
    definition-right e = of-pick Right (defines_of t) _ _ (λ p. (omega arith, omega arith, λ h. (omega (arith, label-le t e), h))) (λ p. paragraph)

    item-right : Right (item_of n t)
    unfolding item_of
    item-right = by-marker (marker_of t) (marker-reads t)
      where
        by-marker : (o : Option Found) → Reads o → Right (item_by n o)
        by-marker None r = paragraph
        by-marker (Some k) r = (omega arith, omega arith, λ h. r)

    rule-right : Right (rule_of n t)
    unfolding rule_of
    rule-right = of-pick Right (break_of 0 t) _ _ (λ p. (omega arith, omega arith, λ h. tt)) (λ p. item-right)

    spec-le : (len : ℕ) → len ≤ kept t → spec_start t len ≤ kept t
    unfolding spec_start
    spec-le len h = omega (arith, front-le is_space (part_of t len (kept t)), (part_length t len (kept t)).0)

    fence-right : is_space (get_or t 0 0) ≡ false → Right (fence_of n t)
    unfolding fence_of
    fence-right e =
        let mark = get_or t 0 0 in
        let len = front (same mark) t in
        of-pick Right (ltb len 3) _ _ (λ p. paragraph)
        (λ p. of-pick Right (spec_ok mark (part_of t (spec_start t len) (kept t))) _ _ (λ q. (omega arith, omega arith, λ h. (omega (arith, spec-le len (front_kept mark e t)), h))) (λ q. paragraph))

    colon-right : is_space (get_or t 0 0) ≡ false → Right (colon_of n t)
    unfolding colon_of
    colon-right e = of-pick Right (ends_at t 1) _ _ (λ p. item-right) (λ p. fence-right e)

    begin-right : (b : ℕ) → get_or t 0 0 ≡ b → Right (begin_of n t b)
    unfolding begin_of is_space
    begin-right b e =
        of-pick Right (eqb b 10) _ _ (λ p. (omega arith, omega arith, λ h. tt))
        (λ p. of-pick Right (eqb b 35) _ _ (λ p. heading-right (e ∙ eqb-true b 35 p))
        (λ p. of-pick Right (eqb b 62) _ _ (λ p. quote-right)
        (λ p. of-pick Right (eqb b 123) _ _ (λ p. attributes-right)
        (λ p. of-pick Right (eqb b 124) _ _ (λ p. table-right)
        (λ p. of-pick Right (eqb b 91) _ _ (λ p. definition-right (e ∙ eqb-true b 91 p))
        (λ p. of-pick Right (eqb b 45) _ _ (λ p. rule-right)
        (λ p. of-pick Right (eqb b 42) _ _ (λ p. rule-right)
        (λ p. of-pick Right (eqb b 58) _ _ (λ p. colon-right (ap is_space (e ∙ eqb-true b 58 p)))
        (λ p. of-pick Right (eqb b 96) _ _ (λ p. fence-right (ap is_space (e ∙ eqb-true b 96 p)))
        (λ p. of-pick Right (eqb b 126) _ _ (λ p. fence-right (ap is_space (e ∙ eqb-true b 126 p))) (λ p. item-right)))))))))))

identified-right : (line : List ℕ) → Right (length line) (indent line) (identify_of line)
unfolding identify_of
identified-right line =
    let n = indent line in
    of-pick (Right (length line) n) (eqb (length (drop n line)) 0) _ _ (λ p. (omega arith, omega arith, λ h. tt)) (λ p. begin-right (length line) n (drop n line) (get_or (drop n line) 0 0) refl)

identified-proper : (line : List ℕ) → let b = identify_of line in (b.opening.start ≤ b.opening.end) × (b.opening.end ≤ length line) × Proper (length line) b.kind × (b.opening.start ≤ indent line)
identified-proper line =
    let r = identified-right line in
    let w = identify-within line in
    (r.0, w.end, r.2 w.to, r.1)

-- ---- what a line more leaves of it
abbrev Leaves : ℕ → Taken → Type 0
Leaves n t = Proper n t.kind

continues-proper : (n : ℕ) (k : Kind) (line : List ℕ) → Proper n k → Leaves n (continues_of k line)
unfolding continues_of open_fence definition_on item_on table_on
continues-proper n Blankline line p = p
continues-proper n Attributes line p = p
continues-proper n ThematicBreak line p = p
continues-proper n Paragraph line p = p
continues-proper n (Heading l) line p = p
continues-proper n (Fenced i l m s c k) line p = of-pick (Leaves n) c _ _ (λ q. p) (λ q. p)
continues-proper n (Definition i f s b) line p =
    of-pick (Leaves n) f _ _ (λ q. of-pick (Leaves n) (indented_on i b (num_of line) line) _ _ (λ r. p) (λ r. p)) (λ q. p)
continues-proper n Blockquote line p = p
continues-proper n (ListItem i m b) line p = of-pick (Leaves n) (indented_on i b (num_of line) line) _ _ (λ q. p) (λ q. p)
continues-proper n (Table c b) line p =
    let row = trim_both line in
    of-pick (Leaves n) c _ _ (λ q. tt) (λ q. of-pick (Leaves n) (eqb (length row) 0) _ _ (λ q. tt)
    (λ q. of-pick (Leaves n) (caption_at row) _ _ (λ q. tt) (λ q. of-pick (Leaves n) b _ _ (λ q. tt) (λ q. tt))))

abbrev Whole : ℕ → ℕ → Measured → Type 0
Whole n i m = (m.opening.start ≤ m.opening.end) × (m.opening.end ≤ n) × Proper n m.kind × (m.opening.start ≤ i)

extend-proper : (text : List ℕ) (n i s e : ℕ) (k : Kind) (xs : List Span) (l g c : ℕ) → s ≤ e → e ≤ n → Proper n k → s ≤ i → Whole n i (extend_of text s e k xs l g c)
unfolding extend_of
extend-proper text n i s e k [] l g c h f p j = (h, f, p, j)
extend-proper text n i s e k (x ∷ xs) l g c h f p j =
    let t = continues_of k (line_in text x) in
    of-pick (Whole n i) t.taken _ _
    (λ q. extend-proper text n i s e t.kind xs (l + 1) (gives_back t.kind g) (c + 1) h f (continues-proper n k (line_in text x) p) j)
    (λ q. (h, f, p, j))

pub measured-proper : (text : List ℕ) (x : Span) (xs : List Span) → let m = measure_of text (x ∷ xs) in
    (m.opening.start ≤ m.opening.end) × (m.opening.end ≤ length (line_in text x)) × Proper (length (line_in text x)) m.kind × (m.opening.start ≤ indent (line_in text x))
unfolding measure_of
measured-proper text x xs =
    let b = identify_of (line_in text x) in
    let p = identified-proper (line_in text x) in
    extend-proper text (length (line_in text x)) (indent (line_in text x)) b.opening.start b.opening.end b.kind xs 1 0 1 p.0 p.1 p.2 p.3
