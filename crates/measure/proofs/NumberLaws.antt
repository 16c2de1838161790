-- The kind that a line begins, by its first byte after the indent: blank, not blank, a quote. Assumes nothing.
use mathlib.Core.Path.{◌≡◌, refl, ◌∙◌, sym, ap}
use mathlib.Core.Bool.{Bool, true, false, not}
use mathlib.Core.List.{List, [], ◌∷◌}
use Prim.Native.Nat.{ℕ, suc, ◌+◌, ◌≤◌, ◌<◌}
use native.Mathlib.Omega.{arith}
use lib.Dec.{eqb, leb, ltb}
use lib.ListN.{length, drop, get_or, length-drop, drop_of_length-le, get_or-eq_default}
use borrow.Author.Tests.{ne_eqb, eqb-true, ltb-true, ltb-false}
use Rattle.std.proofs.lemmas.List.{get_or_default}
use Rattle.std.specs.Prelude.{Option, Some, None}
use Rattle.lines.specs.Lines.{Span}
use Rattle.classes.specs.Choice.{pick, both, either}
use Rattle.classes.specs.Classes.{is_space}
use Rattle.trim.specs.Trim.{front, is_gap, lead, indent, kept, trim_end, part_of}
use Rattle.trim.specs.Label.{defines_of}
use Rattle.attrs.specs.Machine.{valid_of}
use Rattle.markers.specs.Markers.{ends_at, marker_of}
use Rattle.markers.specs.declared.Marked.{Marked}
use Rattle.kinds.specs.Bytes.{same, break_of, bar_end}
use Rattle.kinds.specs.Identify.{identified_as, paragraph_at, heading_of, quote_of, attributes_of, table_of, definition_of, item_by, item_of, rule_of, spec_start, spec_ok, fence_of, colon_of, begin_of, identify_of}
use Rattle.kinds.specs.declared.Identified.{Identified}
use Rattle.kinds.specs.declared.Kind.{Kind}
use Rattle.kinds.specs.declared.Kind.TheVariants.{Blankline, Attributes, ThematicBreak, Paragraph, Heading, Fenced, Definition, Blockquote, ListItem, Table}
use Rattle.markers.specs.declared.Marker.{Marker}
use Rattle.kinds.proofs.KindLaws.{begin-at, line-blank, blank-newline}
use Rattle.measure.specs.Continue.{kind_num, num_of, quote_on}
use Rattle.measure.specs.Measure.{gives_back}
use Rattle.measure.specs.Look.{opens_quote}

-- ---- blank
blank-end : (line : List ℕ) (i : ℕ) → i ≡ indent line → length line ≤ i → num_of line ≡ 1
unfolding num_of
blank-end line i p q =
    ap (λ (x : Identified). kind_num x.kind) (sym (line-blank line (drop i line) i p refl (ap (λ (t : List ℕ). length t) (drop_of_length-le line {i = i} q))))

blank-next : (line : List ℕ) (i : ℕ) → i ≡ indent line → get_or line i 0 ≡ 10 → num_of line ≡ 1
unfolding num_of
blank-next line i p q = ap (λ (k : Kind). kind_num k) (blank-newline line (ap (λ (j : ℕ). get_or line j 0) (sym p) ∙ q))

-- the end of the line counts as a newline
pub blank-at : (line : List ℕ) (i : ℕ) → i ≡ indent line → get_or line i 10 ≡ 10 → num_of line ≡ 1
blank-at line i p q = by-case (ltb i (length line)) refl
  where
    by-case : (x : Bool) → ltb i (length line) ≡ x → num_of line ≡ 1
    by-case true e = blank-next line i p (get_or_default line i 0 10 (ltb-true i (length line) e) ∙ q)
    by-case false e = blank-end line i p (ltb-false i (length line) e)

pub full-at : (line : List ℕ) (i : ℕ) → (get_or line i 10 ≡ 10 → ⊥) → (i < length line) × (get_or line i 0 ≡ 10 → ⊥)
full-at line i q = by-case (ltb i (length line)) refl
  where
    by-case : (x : Bool) → ltb i (length line) ≡ x → (i < length line) × (get_or line i 0 ≡ 10 → ⊥)
    by-case true e = (ltb-true i (length line) e, λ z. q (get_or_default line i 10 0 (ltb-true i (length line) e) ∙ z))
    by-case false e = absurd (q (get_or-eq_default line 10 (ltb-false i (length line) e)))

-- ---- what a line can begin
module _ (P : Kind → Type 0) (paragraph : P Paragraph) (heading : (l : ℕ) → P (Heading l)) (quote : P Blockquote) (attributes : P Attributes) (table : P (Table false false))
    (definition : (i : ℕ) (f : Bool) (s : Span) → P (Definition i f s false)) (item : (i : ℕ) (m : Marker) → P (ListItem i m false)) (rule : P ThematicBreak)
    (fence : (i l m : ℕ) (s : Span) → P (Fenced i l m s false None)) where
  either_way : (c : Bool) (x y : Identified) → P x.kind → P y.kind → P (pick c x y).kind
  either_way true x y p q = p
  either_way false x y p q = q

  item-begins : (n : ℕ) (t : List ℕ) → P (item_of n t).kind
  unfolding item_of
  item-begins n t = by-marker (marker_of t)
    where
      by-marker : (o : Option Marked) → P (item_by n o).kind
      by-marker None = paragraph
      by-marker (Some m) = item _ _

  fence-begins : (n : ℕ) (t : List ℕ) → P (fence_of n t).kind
  unfolding fence_of
  fence-begins n t =
      let mark = get_or t 0 0 in
      let len = front (same mark) t in
      either_way (ltb len 3) _ _ paragraph (either_way (spec_ok mark (part_of t (spec_start t len) (kept t))) _ _ (fence _ _ _ _) paragraph)

  rule-begins : (n : ℕ) (t : List ℕ) → P (rule_of n t).kind
  unfolding rule_of
  rule-begins n t = either_way (break_of 0 t) _ _ rule (item-begins n t)

  full-begins : (n : ℕ) (t : List ℕ) (b : ℕ) → (eqb b 10 ≡ false) → P (begin_of n t b).kind
  unfolding begin_of heading_of quote_of attributes_of table_of definition_of colon_of
  full-begins n t b p =
      rw p
      (either_way (eqb b 35) _ _ (either_way (ends_at t (front (same 35) t)) _ _ (heading _) paragraph)
      (either_way (eqb b 62) _ _ (either_way (ends_at t 1) _ _ quote paragraph)
      (either_way (eqb b 123) _ _ (either_way (eqb (valid_of t) (kept t)) _ _ attributes paragraph)
      (either_way (eqb b 124) _ _ (either_way (both (leb 2 (length (trim_end t))) (bar_end (trim_end t))) _ _ table paragraph)
      (either_way (eqb b 91) _ _ (either_way (defines_of t) _ _ (definition _ _ _) paragraph)
      (either_way (eqb b 45) _ _ (rule-begins n t)
      (either_way (eqb b 42) _ _ (rule-begins n t)
      (either_way (eqb b 58) _ _ (either_way (ends_at t 1) _ _ (item-begins n t) (fence-begins n t))
      (either_way (eqb b 96) _ _ (fence-begins n t)
      (either_way (eqb b 126) _ _ (fence-begins n t) (item-begins n t)))))))))))

  module _ (blank : P Blankline) where
    begins : (n : ℕ) (t : List ℕ) (b : ℕ) → P (begin_of n t b).kind
    unfolding begin_of
    begins n t b = by-case (eqb b 10) refl
      where
        by-case : (x : Bool) → eqb b 10 ≡ x → P (begin_of n t b).kind
        by-case true e = rw e blank
        by-case false e = full-begins n t b e

    pub line-begins : (line : List ℕ) → P (identify_of line).kind
    unfolding identify_of
    line-begins line = either_way (eqb (length (drop (indent line) line)) 0) _ _ blank (begins _ _ _)

-- no table begins with a blank line or a caption
pub begins-back : (line : List ℕ) → gives_back (identify_of line).kind 0 ≡ 0
begins-back line = line-begins (λ (k : Kind). gives_back k 0 ≡ 0) refl (λ l. refl) refl refl refl (λ i f s. refl) (λ i m. refl) refl (λ i l m s. refl) refl line

begin-full : (n : ℕ) (t : List ℕ) (b : ℕ) → (b ≡ 10 → ⊥) → eqb (kind_num (begin_of n t b).kind) 1 ≡ false
begin-full n t b p =
    full-begins (λ (k : Kind). eqb (kind_num k) 1 ≡ false) refl (λ l. refl) refl refl refl (λ i f s. refl) (λ i m. refl) refl (λ i l m s. refl) n t b (ne_eqb b 10 p)

pub number-full : (line : List ℕ) (i : ℕ) → i ≡ indent line → i < length line → (get_or line i 0 ≡ 10 → ⊥) → eqb (num_of line) 1 ≡ false
unfolding num_of identify_of
number-full line i p h q =
    rw (ne_eqb (length (drop (indent line) line)) 0 (λ e. omega (arith, length-drop (indent line) line)))
    (begin-full _ _ _ (λ e. q (ap (λ (j : ℕ). get_or line j 0) p ∙ sym (begin-at line) ∙ e)))

-- where the indent is not ended by a newline it is all whitespace at the front
pub lead-indent : (line : List ℕ) → indent line < length line → (get_or line (indent line) 0 ≡ 10 → ⊥) → indent line ≡ lead line
unfolding front is_gap
lead-indent [] h q = absurd (omega arith)
lead-indent (b ∷ bs) h q = by-case (eqb b 10) (is_space b) refl (lead-indent bs) h q
  where
    by-case : (x y : Bool) → eqb b 10 ≡ x → (indent bs < length bs → (get_or bs (indent bs) 0 ≡ 10 → ⊥) → indent bs ≡ lead bs) → pick (both (not x) y) (suc (indent bs)) 0 < suc (length bs) →
        (get_or (b ∷ bs) (pick (both (not x) y) (suc (indent bs)) 0) 0 ≡ 10 → ⊥) → pick (both (not x) y) (suc (indent bs)) 0 ≡ pick y (suc (lead bs)) 0
    by-case true y p r h q = absurd (q (eqb-true b 10 p))
    by-case false true p r h q = ap (λ (n : ℕ). suc n) (r (omega arith) q)
    by-case false false p r h q = refl

pub lead-full : (line : List ℕ) (i : ℕ) → i ≡ indent line → i < length line → (get_or line i 0 ≡ 10 → ⊥) → i ≡ lead line
lead-full line i p h q = p ∙ lead-indent line (omega arith) (λ e. q (ap (λ (j : ℕ). get_or line j 0) p ∙ e))

-- ---- a quote
begin-quote : (n : ℕ) (t : List ℕ) (b : ℕ) → b ≡ 62 → either (eqb (kind_num (begin_of n t b).kind) 4) (eqb (kind_num (begin_of n t b).kind) 8) ≡ true
unfolding begin_of quote_of
begin-quote n t b p = rw p (by-case (ends_at t 1))
  where
    by-case : (x : Bool) →
        either (eqb (kind_num (pick x (identified_as Blockquote n (n + 1)) (paragraph_at n)).kind) 4) (eqb (kind_num (pick x (identified_as Blockquote n (n + 1)) (paragraph_at n)).kind) 8) ≡ true
    by-case true = refl
    by-case false = refl

pub quote-line : (line : List ℕ) → opens_quote line ≡ true → quote_on line ≡ true
unfolding opens_quote quote_on num_of identify_of
quote-line line q =
    let p = eqb-true (get_or line (indent line) 0) 62 q in
    rw (ne_eqb (length (drop (indent line) line)) 0 (λ e. omega (arith, p, get_or-eq_default line 0 {n = indent line} (omega (arith, length-drop (indent line) line)))))
    (begin-quote _ _ _ (begin-at line ∙ p))
