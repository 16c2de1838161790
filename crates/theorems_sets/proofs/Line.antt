-- A line is Attributes exactly where the reader, given room, takes its bytes from `{` on as one set (RULES J19). Assumes nothing.
use Prim.Native.Nat.{ℕ, ◌+◌, ◌*◌, ◌≤◌}
use mathlib.Core.Path.{◌≡◌, refl, sym, ap, ◌∙◌, subst}
use mathlib.Core.Bool.{Bool, true, false}
use mathlib.Core.List.{List, [], ◌∷◌}
use native.Mathlib.Omega.{arith}
use lib.Dec.{eqb, leb, ltb}
use lib.ListN.{length, get_or, drop}
use borrow.Author.Tests.{eqb-true, eqb-false, ne_eqb}
use Rattle.classes.specs.Choice.{pick, both}
use Rattle.trim.specs.Trim.{kept, trim_end, indent, front, part_of}
use Rattle.std.specs.Prelude.{None}
use Rattle.lines.specs.Lines.{span}
use Rattle.trim.specs.Label.{close_at, label_start, defines_of}
use Rattle.std.specs.Prelude.{Option, Some, None}
use Rattle.markers.specs.Markers.{marker_of, ends_at}
use Rattle.markers.specs.declared.Marked.{Marked}
use Rattle.kinds.specs.Bytes.{same as alike, break_of, bar_end}
use Rattle.kinds.specs.declared.Identified.{Identified}
use Rattle.kinds.specs.Identify.{identified_as, paragraph_at, spec_start, spec_ok, heading_of, quote_of, table_of, definition_of, item_by, item_of, rule_of, fence_of, colon_of, begin_of, identify_of}
use Rattle.kinds.specs.declared.Kind.TheVariants.{Attributes, Blankline, ThematicBreak, Heading, Fenced, Definition, Blockquote, ListItem, Table}
use Rattle.measure.specs.Continue.{kind_num}
use Rattle.sets.specs.Opened.{open_of}
use Rattle.theorems_sets.specs.Sets.{sets_of}
use Rattle.theorems_sets.proofs.Agree.{attributes-open, open-attributes}

-- ---- only `{` begins an Attributes line
record Else (x : Identified) : Type 0 where
  no : x.kind ≡ Attributes → ⊥

else-pick : (t : Bool) (x y : Identified) → Else x → Else y → Else (pick t x y)
else-pick true x y f g = f
else-pick false x y f g = g

is-other : (x : Identified) → (kind_num x.kind ≡ kind_num Attributes → ⊥) → Else x
is-other x f = record { no = λ e. f (ap kind_num e) }

else-paragraph : (n : ℕ) → Else (paragraph_at n)
else-paragraph n = is-other (paragraph_at n) (λ e. omega (arith, e))

else-heading : (n : ℕ) (t : List ℕ) → Else (heading_of n t)
unfolding heading_of
else-heading n t =
    else-pick (ends_at t (front (alike 35) t)) (identified_as (Heading (front (alike 35) t)) n (n + front (alike 35) t)) _
    (is-other (identified_as (Heading (front (alike 35) t)) n (n + front (alike 35) t)) (λ e. omega (arith, e))) (else-paragraph n)

else-quote : (n : ℕ) (t : List ℕ) → Else (quote_of n t)
unfolding quote_of
else-quote n t = else-pick (ends_at t 1) _ _ (is-other (identified_as Blockquote n (n + 1)) (λ e. omega (arith, e))) (else-paragraph n)

else-table : (n : ℕ) (t : List ℕ) → Else (table_of n t)
unfolding table_of
else-table n t = else-pick (both (leb 2 (length (trim_end t))) (bar_end (trim_end t))) _ _ (is-other (identified_as (Table false false) n n) (λ e. omega (arith, e))) (else-paragraph n)

else-definition : (n : ℕ) (t : List ℕ) → Else (definition_of n t)
unfolding definition_of
else-definition n t =
    else-pick (defines_of t) _ _
    (is-other (identified_as (Definition n (eqb (get_or t 1 0) 94) (span (n + label_start t) (n + close_at t)) false) 0 (n + close_at t + 2)) (λ e. omega (arith, e))) (else-paragraph n)

else-item : (n : ℕ) (t : List ℕ) → Else (item_of n t)
unfolding item_of
else-item n t = by-marker (marker_of t)
  where
    by-marker : (o : Option Marked) → Else (item_by n o)
    by-marker None = else-paragraph n
    by-marker (Some m) = is-other (identified_as (ListItem n m.marker false) n (n + m.len)) (λ e. omega (arith, e))

else-rule : (n : ℕ) (t : List ℕ) → Else (rule_of n t)
unfolding rule_of
else-rule n t = else-pick (break_of 0 t) _ _ (is-other (identified_as ThematicBreak n (n + kept t)) (λ e. omega (arith, e))) (else-item n t)

else-fence : (n : ℕ) (t : List ℕ) → Else (fence_of n t)
unfolding fence_of
else-fence n t =
    else-pick (ltb (front (alike (get_or t 0 0)) t) 3) _ _ (else-paragraph n)
    (else-pick (spec_ok (get_or t 0 0) (part_of t (spec_start t (front (alike (get_or t 0 0)) t)) (kept t))) _ _
    (is-other (identified_as (Fenced n (front (alike (get_or t 0 0)) t) (get_or t 0 0) (span (n + spec_start t (front (alike (get_or t 0 0)) t)) (n + kept t)) false None) n (n + length t)) (λ e. omega (arith, e))) (else-paragraph n))

else-colon : (n : ℕ) (t : List ℕ) → Else (colon_of n t)
unfolding colon_of
else-colon n t = else-pick (ends_at t 1) _ _ (else-item n t) (else-fence n t)

else-begin : (n : ℕ) (t : List ℕ) (b : ℕ) → (b ≡ 123 → ⊥) → Else (begin_of n t b)
unfolding begin_of
else-begin n t b q =
    rw (ne_eqb b 123 q)
    (else-pick (eqb b 10) _ _ (is-other (identified_as Blankline n (n + 1)) (λ e. omega (arith, e)))
    (else-pick (eqb b 35) _ _ (else-heading n t)
    (else-pick (eqb b 62) _ _ (else-quote n t)
    (else-pick (eqb b 124) _ _ (else-table n t)
    (else-pick (eqb b 91) _ _ (else-definition n t)
    (else-pick (eqb b 45) _ _ (else-rule n t)
    (else-pick (eqb b 42) _ _ (else-rule n t)
    (else-pick (eqb b 58) _ _ (else-colon n t)
    (else-pick (eqb b 96) _ _ (else-fence n t)
    (else-pick (eqb b 126) _ _ (else-fence n t) (else-item n t)))))))))))

-- a line is Attributes exactly where its bytes from `{` on are one set to a reader with room
module _ (line : List ℕ) (ne np : ℕ) (le : 5 * length (drop (indent line) line) ≤ ne) (lp : 2 * length (drop (indent line) line) ≤ np) where
  abbrev text : List ℕ
  text = drop (indent line) line

  line-brace : (identify_of line).kind ≡ Attributes → get_or text 0 0 ≡ 123
  unfolding identify_of
  line-brace e = by-test (eqb (length text) 0) (eqb (get_or text 0 0) 123) refl e
    where
      by-test : (x y : Bool) → eqb (get_or text 0 0) 123 ≡ y → (pick x (identified_as Blankline (indent line) (indent line)) (begin_of (indent line) text (get_or text 0 0))).kind ≡ Attributes → get_or text 0 0 ≡ 123
      by-test true y q e = absurd ((is-other (identified_as Blankline (indent line) (indent line)) (λ w. omega (arith, w))).no e)
      by-test false true q e = eqb-true (get_or text 0 0) 123 q
      by-test false false q e = absurd ((else-begin (indent line) text (get_or text 0 0) (eqb-false (get_or text 0 0) 123 q)).no e)

  pub line-attributes-open : (identify_of line).kind ≡ Attributes → (get_or text 0 0 ≡ 123) × ((open_of text ne np).answer.number ≡ 0) × (sets_of (trim_end text) ≡ 1)
  unfolding identify_of begin_of
  line-attributes-open e = let b = line-brace e in let w = by_length (eqb (length text) 0) b (rw-line e) in (b, w.0, w.1)
    where
      rw-line : (identify_of line).kind ≡ Attributes → (pick (eqb (length text) 0) (identified_as Blankline (indent line) (indent line)) (begin_of (indent line) text (get_or text 0 0))).kind ≡ Attributes
      rw-line e = e

      by_length : (x : Bool) → get_or text 0 0 ≡ 123 → (pick x (identified_as Blankline (indent line) (indent line)) (begin_of (indent line) text (get_or text 0 0))).kind ≡ Attributes
          → ((open_of text ne np).answer.number ≡ 0) × (sets_of (trim_end text) ≡ 1)
      by_length true b e = absurd ((is-other (identified_as Blankline (indent line) (indent line)) (λ w. omega (arith, w))).no e)
      by_length false b e = attributes-open (indent line) text ne np b le lp (subst (λ (k : ℕ). (begin_of (indent line) text k).kind ≡ Attributes) b e)

  pub open-line-attributes : get_or text 0 0 ≡ 123 → (open_of text ne np).answer.number ≡ 0 → sets_of (trim_end text) ≡ 1 → (identify_of line).kind ≡ Attributes
  unfolding identify_of begin_of
  open-line-attributes b z k = by_bytes text refl
    where
      by_bytes : (ts : List ℕ) → text ≡ ts → (pick (eqb (length text) 0) (identified_as Blankline (indent line) (indent line)) (begin_of (indent line) text (get_or text 0 0))).kind ≡ Attributes
      by_bytes [] e = absurd (omega (arith, sym b ∙ ap (λ (l : List ℕ). get_or l 0 0) e))
      by_bytes (x ∷ xs) e =
          rw (ne_eqb (length text) 0 (λ q. omega (arith, q, ap (λ (l : List ℕ). length l) e)), b)
          (open-attributes (indent line) text ne np b le lp z k)
