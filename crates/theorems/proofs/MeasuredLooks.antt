-- What measuring a block costs, and what it gives back: at most a look more than lines, and only blank lines. Assumes nothing.
use mathlib.Core.Path.{◌≡◌, refl, ◌∙◌, sym, ap}
use mathlib.Core.Bool.{Bool, true, false}
use mathlib.Core.List.{List, [], ◌∷◌}
use Prim.Native.Nat.{ℕ, zero, suc, ◌+◌, ◌-◌, ◌≤◌, ◌<◌}
use native.Mathlib.Omega.{arith}
use lib.Dec.{eqb}
use lib.ListN.{length, drop, get_or, length-take, drop_of_length-le}
use lib.Seq.{drop-drop}
use borrow.Author.Tests.{eqb-true, eqb-false}
use Rattle.classes.specs.Choice.{pick}
use Rattle.classes.specs.Classes.{is_space}
use Rattle.lines.specs.Lines.{Span}
use Rattle.trim.specs.Trim.{front, is_gap, lead, indent, kept, trim_start, trim_end, trim_both}
use Rattle.trim.proofs.TrimLaws.{front-le, kept-le}
use Rattle.kinds.specs.Identify.{identify_of}
use Rattle.kinds.specs.declared.Identified.{Identified}
use Rattle.kinds.specs.declared.Kind.{Kind}
use Rattle.kinds.specs.declared.Kind.TheVariants.{Blankline, Attributes, ThematicBreak, Paragraph, Heading, Fenced, Definition, Blockquote, ListItem, Table}
use Rattle.kinds.proofs.KindLaws.{blank-newline, line-blank}
use Rattle.measure.specs.Continue.{Taken, num_of, indented_on, caption_at, open_fence, definition_on, item_on, table_on, continues_of}
use Rattle.measure.specs.Measure.{gives_back, line_in, measured_as, extend_of, measure_of}
use Rattle.measure.specs.declared.Measured.{Measured}
use Rattle.measure.proofs.NumberLaws.{lead-indent}

-- ---- a look to begin, one for each line more, and one for the line that ends it
abbrev Looks : Measured → Type 0
Looks m = m.looks ≤ m.lines + 1

looks : (b : Bool) (x y : Measured) → Looks x → Looks y → Looks (pick b x y)
looks true x y p q = p
looks false x y p q = q

extend-looks : (text : List ℕ) (s e : ℕ) (k : Kind) (xs : List Span) (l g n : ℕ) → n ≤ l → Looks (extend_of text s e k xs l g n)
unfolding extend_of
extend-looks text s e k [] l g n h = omega arith
extend-looks text s e k (x ∷ xs) l g n h =
    let t = continues_of k (line_in text x) in
    looks t.taken _ _ (extend-looks text s e t.kind xs (l + 1) (gives_back t.kind g) (n + 1) (omega arith)) (omega arith)

pub measure-looks : (text : List ℕ) (x : Span) (xs : List Span) → (measure_of text (x ∷ xs)).looks ≤ (measure_of text (x ∷ xs)).lines + 1
unfolding measure_of
measure-looks text x xs =
    let b = identify_of (line_in text x) in
    extend-looks text b.opening.start b.opening.end b.kind xs 1 0 1 (omega arith)

-- ---- a blank line alone
abbrev Alone : Measured → Type 0
Alone m = (m.lines ≡ 1) × (m.given ≡ 0) × (m.looks ≤ 2)

extend-alone : (text : List ℕ) (s e : ℕ) (xs : List Span) → Alone (extend_of text s e Blankline xs 1 0 1)
unfolding extend_of continues_of
extend-alone text s e [] = (refl, refl, omega arith)
extend-alone text s e (x ∷ xs) = (refl, refl, omega arith)

pub blank-measured : (text : List ℕ) (x : Span) (xs : List Span) → (identify_of (line_in text x)).kind ≡ Blankline →
    ((measure_of text (x ∷ xs)).lines ≡ 1) × ((measure_of text (x ∷ xs)).given ≡ 0) × ((measure_of text (x ∷ xs)).looks ≤ 2)
unfolding measure_of
blank-measured text x xs p =
    let b = identify_of (line_in text x) in
    rw p (extend-alone text b.opening.start b.opening.end xs)

-- ---- a line of which trimming leaves nothing begins a Blankline
trimmed-lead : (s : List ℕ) → kept (drop (lead s) s) ≡ 0 → lead s ≡ length s
unfolding front kept
trimmed-lead [] e = refl
trimmed-lead (b ∷ bs) e = by-case (is_space b) refl (trimmed-lead bs) e
  where
    by-case : (y : Bool) → is_space b ≡ y → (kept (drop (lead bs) bs) ≡ 0 → lead bs ≡ length bs) → kept (drop (pick y (suc (lead bs)) 0) (b ∷ bs)) ≡ 0 → pick y (suc (lead bs)) 0 ≡ suc (length bs)
    by-case true p r e = ap (λ (n : ℕ). suc n) (r e)
    by-case false p r e =
        let q : pick (eqb (kept bs) 0) (pick (is_space b) 0 1) (suc (kept bs)) ≡ pick (eqb (kept bs) 0) 1 (suc (kept bs)) = rw p in
        absurd (some (eqb (kept bs) 0) (sym q ∙ e))
      where
        some : (z : Bool) → pick z 1 (suc (kept bs)) ≡ 0 → ⊥
        some true e = omega arith
        some false e = omega arith

trimmed-kept : (s : List ℕ) → length (trim_both s) ≡ 0 → kept (drop (lead s) s) ≡ 0
unfolding trim_both trim_start trim_end
trimmed-kept s e =
    let t = drop (lead s) s in
    omega (arith, length-take (kept t) t, kept-le t)

lead-blank : (line : List ℕ) → lead line ≡ length line → (identify_of line).kind ≡ Blankline
lead-blank line e = by-case (eqb (indent line) (length line)) (eqb (get_or line (indent line) 0) 10) refl refl
  where
    by-case : (x y : Bool) → eqb (indent line) (length line) ≡ x → eqb (get_or line (indent line) 0) 10 ≡ y → (identify_of line).kind ≡ Blankline
    by-case true y p q =
        let h : indent line ≡ length line = eqb-true (indent line) (length line) p in
        ap (λ (x : Identified). x.kind) (sym (line-blank line (drop (indent line) line) (indent line) refl refl (ap (λ (t : List ℕ). length t) (drop_of_length-le line {i = indent line} (omega arith)))))
    by-case false true p q = blank-newline line (eqb-true (get_or line (indent line) 0) 10 q)
    by-case false false p q =
        let h : indent line ≡ length line → ⊥ = eqb-false (indent line) (length line) p in
        let w : indent line < length line = omega (arith, h, front-le is_gap line) in
        absurd (h (lead-indent line w (eqb-false (get_or line (indent line) 0) 10 q) ∙ e))

trimmed-blank : (line : List ℕ) → length (trim_both line) ≡ 0 → (identify_of line).kind ≡ Blankline
trimmed-blank line e = lead-blank line (trimmed-lead line (trimmed-kept line e))

-- ---- what is given back is blank
-- the first g of these lines begin a Blankline
abbrev pub Blanks : List ℕ → ℕ → List Span → Type 0
Blanks text zero ls = Unit {0}
Blanks text (suc g) [] = ⊥
Blanks text (suc g) (l ∷ ls) = ((identify_of (line_in text l)).kind ≡ Blankline) × Blanks text g ls

-- one line more at the end
blanks-more : (text : List ℕ) (g : ℕ) (ls : List Span) (x : Span) (xs : List Span) → Blanks text g ls → drop g ls ≡ x ∷ xs → (identify_of (line_in text x)).kind ≡ Blankline → Blanks text (suc g) ls
blanks-more text zero ls x xs h e b = rw e (b, tt)
blanks-more text (suc g) [] x xs h e b = h
blanks-more text (suc g) (l ∷ ls) x xs h e b = (h.0, blanks-more text g ls x xs h.1 e b)

-- a line that is taken gives back none, or one more if trimming leaves nothing of it
module _ (P : ℕ → Type 0) (g : ℕ) where
  abbrev Back : Taken → Type 0
  Back t = t.taken ≡ true → P (gives_back t.kind g)

  back-pick : (b : Bool) (x y : Taken) → (b ≡ true → Back x) → Back y → Back (pick b x y)
  back-pick true x y p q = p refl
  back-pick false x y p q = q

  not_taken : {X : Type 0} → false ≡ true → X
  not_taken e = absurd (omega (arith, ap {B = ℕ} (λ b. pick b 0 1) e))

  continues-back : (k : Kind) (line : List ℕ) → P 0 → (length (trim_both line) ≡ 0 → P (g + 1)) → Back (continues_of k line)
  unfolding continues_of open_fence definition_on item_on table_on
  continues-back Blankline line z m = λ h. z
  continues-back Attributes line z m = λ h. z
  continues-back ThematicBreak line z m = λ h. z
  continues-back Paragraph line z m = λ h. z
  continues-back (Heading l) line z m = λ h. z
  continues-back (Fenced i l k s c n) line z m = back-pick c _ _ (λ b h. z) (λ h. z)
  continues-back (Definition i f s b) line z m = back-pick f _ _ (λ y. back-pick (indented_on i b (num_of line) line) _ _ (λ b h. z) (λ h. z)) (λ h. z)
  continues-back Blockquote line z m = λ h. z
  continues-back (ListItem i k b) line z m = back-pick (indented_on i b (num_of line) line) _ _ (λ b h. z) (λ h. z)
  continues-back (Table true b) line z m = λ h. z
  continues-back (Table false true) line z m =
      let row = trim_both line in
      back-pick (eqb (length row) 0) _ _ (λ b h. m (eqb-true (length row) 0 b)) (back-pick (caption_at row) _ _ (λ b h. z) (λ h. not_taken h))
  continues-back (Table false false) line z m =
      let row = trim_both line in
      back-pick (eqb (length row) 0) _ _ (λ b h. m (eqb-true (length row) 0 b)) (back-pick (caption_at row) _ _ (λ b h. z) (λ h. z))

module _ (text : List ℕ) (all : List Span) where
  -- with l lines taken, the last g of them are blank
  abbrev Ends : ℕ → ℕ → Type 0
  Ends l g = Blanks text g (drop (l - g) all)

  ends : (b : Bool) (x y : Measured) → (b ≡ true → Ends x.lines x.given) → Ends y.lines y.given → Ends (pick b x y).lines (pick b x y).given
  ends true x y p q = p refl
  ends false x y p q = q

  ends_more : (l g : ℕ) (x : Span) (xs : List Span) → g ≤ l → drop l all ≡ x ∷ xs → Ends l g → (identify_of (line_in text x)).kind ≡ Blankline → Ends (l + 1) (g + 1)
  ends_more l g x xs h d p b =
      let z : l + 1 - (g + 1) ≡ l - g = omega arith in
      let s : g + 1 ≡ suc g = omega arith in
      let w : l - g + g ≡ l = omega arith in
      rw (z, s) (blanks-more text g (drop (l - g) all) x xs p (drop-drop g (l - g) all ∙ ap (λ (n : ℕ). drop n all) w ∙ d) b)

  extend-ends : (s e : ℕ) (k : Kind) (xs : List Span) (l g n : ℕ) → g ≤ l → drop l all ≡ xs → Ends l g → Ends (extend_of text s e k xs l g n).lines (extend_of text s e k xs l g n).given
  unfolding extend_of
  extend-ends s e k [] l g n h d p = p
  extend-ends s e k (x ∷ xs) l g n h d p =
      let t = continues_of k (line_in text x) in
      let next = continues-back (λ i. (i ≤ l + 1) × Ends (l + 1) i) g k (line_in text x) (omega arith, tt)
      (λ z. (omega arith, ends_more l g x xs h d p (trimmed-blank (line_in text x) z))) in
      let rest : drop (l + 1) all ≡ xs = sym (drop-drop 1 l all) ∙ ap (λ (ls : List Span). drop 1 ls) d in
      ends t.taken (extend_of text s e t.kind xs (l + 1) (gives_back t.kind g) (n + 1)) (measured_as k s e l g (n + 1))
      (λ y. extend-ends s e t.kind xs (l + 1) (gives_back t.kind g) (n + 1) (next y).0 rest (next y).1)
      p

pub given-blank : (text : List ℕ) (x : Span) (xs : List Span) → let m = measure_of text (x ∷ xs) in Blanks text m.given (drop (m.lines - m.given) (x ∷ xs))
unfolding measure_of
given-blank text x xs =
    let b = identify_of (line_in text x) in
    extend-ends text (x ∷ xs) b.opening.start b.opening.end b.kind xs 1 0 1 (omega arith) refl tt
