-- One law for each answer of each rule for a line. Assumes nothing.
use mathlib.Core.Path.{◌≡◌, refl, ◌∙◌, sym, ap}
use mathlib.Core.Bool.{Bool, true, false}
use mathlib.Core.List.{List}
use Rattle.std.specs.Prelude.{None, ◌⊎◌}
use mathlib.Core.Logic.{inl, inr}
use Prim.Native.Nat.{ℕ, ◌+◌, ◌-◌, ◌≤◌, ◌<◌}
use native.Mathlib.Nat.{add-zero}
use native.Mathlib.Omega.{arith}
use lib.Dec.{eqb}
use lib.ListN.{length, get_or, drop}
use lib.Seq.{get_or-drop}
use borrow.Author.Tests.{eq-eqb, ne_eqb, lt-ltb, le-ltb, le-leb, lt-leb}
use Rattle.classes.specs.Choice.{pick}
use Rattle.classes.specs.Classes.{is_name}
use Rattle.lines.specs.Lines.{span}
use Rattle.trim.specs.Trim.{front, lead, indent, kept, trim_start, trim_end, part_of}
use Rattle.trim.specs.Label.{close_at, defines_of, label_start, label_of}
use Rattle.trim.proofs.TrimLaws.{part-further, start-off, end-length}
use Rattle.trim.proofs.LabelLaws.{label-ends}
use Rattle.attrs.specs.Machine.{valid_of}
use Rattle.markers.specs.Markers.{ends_at}
use Rattle.kinds.specs.Bytes.{same, is_spec_byte, break_of, bar_end}
use Rattle.kinds.specs.Identify.{identified_as, paragraph_at, heading_of, quote_of, attributes_of, table_of, definition_of, item_of, rule_of, spec_start, spec_ok, fence_of, colon_of, begin_of, identify_of}
use Rattle.kinds.specs.declared.Identified.{Identified}
use Rattle.kinds.specs.declared.Kind.TheVariants.{Blankline, Attributes, ThematicBreak, Heading, Fenced, Definition, Blockquote, Table}

module _ (n : ℕ) (t : List ℕ) where
  pub heading-yes : (l : ℕ) → l ≡ front (same 35) t → ends_at t l ≡ true → identified_as (Heading l) n (n + l) ≡ heading_of n t
  unfolding heading_of
  heading-yes l p q = rw (← p, q)

  pub heading-no : (l : ℕ) → l ≡ front (same 35) t → ends_at t l ≡ false → paragraph_at n ≡ heading_of n t
  unfolding heading_of
  heading-no l p q = rw (← p, q)

  pub quote-yes : ends_at t 1 ≡ true → identified_as Blockquote n (n + 1) ≡ quote_of n t
  unfolding quote_of
  quote-yes q = rw q

  pub quote-no : ends_at t 1 ≡ false → paragraph_at n ≡ quote_of n t
  unfolding quote_of
  quote-no q = rw q

  pub attributes-yes : (w : List ℕ) → w ≡ trim_end t → valid_of t ≡ length w → identified_as Attributes n (n + length t) ≡ attributes_of n t
  unfolding attributes_of
  attributes-yes w p q = rw (eq-eqb (valid_of t) (kept t) (q ∙ end-length t w p))

  pub attributes-no : (w : List ℕ) → w ≡ trim_end t → (valid_of t ≡ length w → ⊥) → paragraph_at n ≡ attributes_of n t
  unfolding attributes_of
  attributes-no w p q = rw (ne_eqb (valid_of t) (kept t) (λ e. q (e ∙ sym (end-length t w p))))

  pub table-short : length (trim_end t) < 2 → paragraph_at n ≡ table_of n t
  unfolding table_of
  table-short h = rw (lt-leb 2 (length (trim_end t)) h)

  pub table-yes : 2 ≤ length (trim_end t) → bar_end (trim_end t) ≡ true → identified_as (Table false false) n n ≡ table_of n t
  unfolding table_of
  table-yes h q = rw (le-leb 2 (length (trim_end t)) h, q)

  pub table-no : 2 ≤ length (trim_end t) → bar_end (trim_end t) ≡ false → paragraph_at n ≡ table_of n t
  unfolding table_of
  table-no h q = rw (le-leb 2 (length (trim_end t)) h, q)

  pub definition-no : defines_of t ≡ false → paragraph_at n ≡ definition_of n t
  unfolding definition_of
  definition-no q = rw q

  pub definition-yes : (s l b : ℕ) → defines_of t ≡ true → s ≡ label_start t → l ≡ length (label_of t) → b ≡ get_or t 1 0 →
      identified_as (Definition n (eqb b 94) (span (n + s) (n + s + l)) false) 0 (n + s + l + 2) ≡ definition_of n t
  unfolding definition_of
  definition-yes s l b q f e g =
      let c : n + s + l ≡ n + close_at t = omega (arith, (label-ends t s l q f e).0) in
      rw (q, c, ← f, ← g)

pub spec-name : (mark : ℕ) (s : List ℕ) → mark ≡ 58 → eqb (front is_name s) (length s) ≡ spec_ok mark s
unfolding spec_ok
spec-name mark s p = rw (eq-eqb mark 58 p)

pub spec-code : (mark : ℕ) (s : List ℕ) → (mark ≡ 58 → ⊥) → eqb (front is_spec_byte s) (length s) ≡ spec_ok mark s
unfolding spec_ok
spec-code mark s p = rw (ne_eqb mark 58 p)

-- a fence of len marks
module _ (n : ℕ) (t : List ℕ) (mark len : ℕ) (p : mark ≡ get_or t 0 0) (q : len ≡ front (same mark) t) where
  run : front (same (get_or t 0 0)) t ≡ len
  run = sym (q ∙ ap (λ (b : ℕ). front (same b) t) p)

  pub fence-short : len < 3 → paragraph_at n ≡ fence_of n t
  unfolding fence_of
  fence-short h = rw (run, lt-ltb len 3 h)

  -- t trimmed at its end, what follows its marks, and that trimmed at its front
  module _ (h : 3 ≤ len) (w rest spec : List ℕ) (e : w ≡ trim_end t) (f : rest ≡ part_of t len (length w)) (g : spec ≡ trim_start rest) where
    end : length w ≡ kept t
    end = end-length t w e

    off : length rest - length spec ≡ lead (part_of t len (kept t))
    off = (start-off rest spec g).1 ∙ ap lead (f ∙ ap (part_of t len) end)

    start : spec_start t len ≡ len + (length rest - length spec)
    unfolding spec_start
    start = rw off

    here : part_of t (len + (length rest - length spec)) (kept t) ≡ spec
    unfolding trim_start
    here =
        sym (part-further t len (length rest - length spec) (kept t))
        ∙ ap (λ (k : ℕ). drop (length rest - length spec) (part_of t len k)) (sym end)
        ∙ ap (drop (length rest - length spec)) (sym f)
        ∙ ap (λ (k : ℕ). drop k rest) (start-off rest spec g).1
        ∙ sym g

    pub fence-no : spec_ok mark spec ≡ false → paragraph_at n ≡ fence_of n t
    unfolding fence_of
    fence-no s = rw (run, le-ltb len 3 h, start, here, ← p, s)

    pub fence-yes : spec_ok mark spec ≡ true →
        identified_as (Fenced n len mark (span (n + (len + (length rest - length spec))) (n + length w)) false None) n (n + length t) ≡ fence_of n t
    unfolding fence_of
    fence-yes s = rw (run, le-ltb len 3 h, start, here, end, ← p, s)

-- ---- the whole line, by its first byte after the indent
pub line-blank : (line t : List ℕ) (n : ℕ) → n ≡ indent line → t ≡ drop n line → length t ≡ 0 → identified_as Blankline n n ≡ identify_of line
unfolding identify_of
line-blank line t n p q e = rw (← p, ← q, e)

pub line-begin : (line t : List ℕ) (n : ℕ) (x : Identified) → n ≡ indent line → t ≡ drop n line → (length t ≡ 0 → ⊥) → x ≡ begin_of n t (get_or t 0 0) → x ≡ identify_of line
unfolding identify_of
line-begin line t n x p q e f = f ∙ rw (← p, ← q, ne_eqb (length t) 0 e)

-- b asks for none of the rules: what `match` leaves for its last arm
abbrev pub Plain : ℕ → Type 0
Plain b =
    ((((((((Unit {0} × (b ≡ 10 → ⊥)) × (b ≡ 35 → ⊥)) × (b ≡ 62 → ⊥)) × (b ≡ 123 → ⊥)) × (b ≡ 124 → ⊥)) × (b ≡ 91 → ⊥)) ×
    ((b ≡ 42) ⊎ (b ≡ 45) → ⊥)) × ((b ≡ 96) ⊎ (b ≡ 126) → ⊥)) × (b ≡ 58 → ⊥)

module _ (n : ℕ) (t : List ℕ) (b : ℕ) where
  pub begin-rule : (b ≡ 42) ⊎ (b ≡ 45) → (x : Bool) → break_of 0 t ≡ x → pick x (identified_as ThematicBreak n (n + kept t)) (item_of n t) ≡ begin_of n t b
  unfolding begin_of rule_of
  begin-rule (inl p) x q = rw (p, q)
  begin-rule (inr p) x q = rw (p, q)

  pub begin-fence : (b ≡ 96) ⊎ (b ≡ 126) → fence_of n t ≡ begin_of n t b
  unfolding begin_of
  begin-fence (inl p) = rw p
  begin-fence (inr p) = rw p

  pub begin-colon : (x : Bool) → b ≡ 58 → ends_at t 1 ≡ x → pick x (item_of n t) (fence_of n t) ≡ begin_of n t b
  unfolding begin_of colon_of
  begin-colon x p q = rw (p, q)

  pub begin-item : Plain b → item_of n t ≡ begin_of n t b
  unfolding begin_of
  begin-item p =
      rw (
        ne_eqb b 10 p.0.0.0.0.0.0.0.0.1,
        ne_eqb b 35 p.0.0.0.0.0.0.0.1,
        ne_eqb b 62 p.0.0.0.0.0.0.1,
        ne_eqb b 123 p.0.0.0.0.0.1,
        ne_eqb b 124 p.0.0.0.0.1,
        ne_eqb b 91 p.0.0.0.1,
        ne_eqb b 45 (λ e. p.0.0.1 (inr e)),
        ne_eqb b 42 (λ e. p.0.0.1 (inl e)),
        ne_eqb b 58 p.1,
        ne_eqb b 96 (λ e. p.0.1 (inl e)),
        ne_eqb b 126 (λ e. p.0.1 (inr e)),
      )

-- ---- blank lines
-- the byte after the indent
pub begin-at : (line : List ℕ) → get_or (drop (indent line) line) 0 0 ≡ get_or line (indent line) 0
begin-at line = get_or-drop (indent line) line 0 0 ∙ ap (λ (i : ℕ). get_or line i 0) (add-zero (indent line))

begin-blank : (n : ℕ) (t : List ℕ) (b : ℕ) → b ≡ 10 → (begin_of n t b).kind ≡ Blankline
unfolding begin_of
begin-blank n t b p = rw p

-- a newline right after the indent
pub blank-newline : (line : List ℕ) → get_or line (indent line) 0 ≡ 10 → (identify_of line).kind ≡ Blankline
unfolding identify_of
blank-newline line p = by-case (eqb (length (drop (indent line) line)) 0)
  where
    by-case : (x : Bool) →
        (pick x (identified_as Blankline (indent line) (indent line)) (begin_of (indent line) (drop (indent line) line) (get_or (drop (indent line) line) 0 0))).kind ≡ Blankline
    by-case true = refl
    by-case false = begin-blank _ _ _ (begin-at line ∙ p)
