-- What a line begins lies within the line: its opening span, and its label or spec. Assumes nothing.
use mathlib.Core.Path.{◌≡◌, refl}
use mathlib.Core.Bool.{Bool, true, false}
use mathlib.Core.List.{List}
use Prim.Native.Nat.{ℕ, ◌+◌, ◌≤◌, ◌<◌}
use native.Mathlib.Omega.{arith}
use lib.Dec.{eqb, leb, ltb}
use lib.ListN.{length, get_or, drop, length-drop, get_or-eq_default}
use borrow.Author.Tests.{eqb-true, eqb-false, leb-true, leb-false}
use native.Mathlib.Nat.{pos_of_ne-zero}
use Rattle.classes.proofs.ChoiceLaws.{true-right}
use Rattle.classes.specs.Choice.{pick, both}
use Rattle.classes.specs.Classes.{is_space}
use Rattle.trim.specs.Trim.{front, lead, indent, is_gap, kept, trim_end, part_of}
use Rattle.trim.specs.Label.{close_at, defines_of}
use Rattle.trim.proofs.TrimLaws.{front-le, kept-le, part_length}
use Rattle.trim.proofs.LabelLaws.{label-start-le}
use Rattle.attrs.specs.Machine.{valid_of}
use Rattle.std.specs.Prelude.{Option, Some, None, IfSome}
use Rattle.markers.specs.Markers.{ends_at, marker_of}
use Rattle.markers.specs.declared.Marked.{Marked}
use Rattle.markers.proofs.WithinLaws.{marker-within}
use Rattle.kinds.specs.Bytes.{same, break_of, bar_end}
use Rattle.kinds.specs.Identify.{identified_as, paragraph_at, heading_of, quote_of, attributes_of, table_of, definition_of, item_by, item_of, rule_of, spec_start, spec_ok, fenced_of, fence_of, colon_of, begin_of, identify_of}
use Rattle.kinds.specs.declared.Identified.{Identified}
use Rattle.kinds.specs.declared.Kind.TheVariants.{Blankline, ListItem}
use Rattle.measure.specs.Continue.{level_of}
use Rattle.walk.specs.Fields.{from_of, to_of, indent_of}

-- every offset is at most m
pub record Within (m : ℕ) (x : Identified) : Type 0 where
  pub start : x.opening.start ≤ m
  pub end : x.opening.end ≤ m
  pub indent : indent_of x.kind ≤ m
  pub from : from_of x.kind ≤ m
  pub to : to_of x.kind ≤ m
  pub level : level_of x.kind ≤ m

either : (m : ℕ) (b : Bool) (x y : Identified) → (b ≡ true → Within m x) → Within m y → Within m (pick b x y)
either m true x y p q = p refl
either m false x y p q = q

paragraph : (m n : ℕ) → n ≤ m → Within m (paragraph_at n)
paragraph m n h = record { start = h; end = h; indent = omega arith; from = omega arith; to = omega arith; level = omega arith }

module _ (m n : ℕ) (t : List ℕ) (h : n + length t ≤ m) where
  heading-within : Within m (heading_of n t)
  unfolding heading_of
  heading-within =
      either m (ends_at t (front (same 35) t)) _ (paragraph_at n)
      (λ p. record { start = omega arith; end = omega (arith, front-le (same 35) t); indent = omega arith; from = omega arith; to = omega arith; level = omega (arith, front-le (same 35) t) })
      (paragraph m n (omega arith))

  quote-within : 0 < length t → Within m (quote_of n t)
  unfolding quote_of
  quote-within g =
      either m (ends_at t 1) _ (paragraph_at n)
      (λ p. record { start = omega arith; end = omega arith; indent = omega arith; from = omega arith; to = omega arith; level = omega arith })
      (paragraph m n (omega arith))

  attributes-within : Within m (attributes_of n t)
  unfolding attributes_of
  attributes-within =
      either m (eqb (valid_of t) (kept t)) _ (paragraph_at n)
      (λ p. record { start = omega arith; end = h; indent = omega arith; from = omega arith; to = omega arith; level = omega arith })
      (paragraph m n (omega arith))

  table-within : Within m (table_of n t)
  unfolding table_of
  table-within =
      either m (both (leb 2 (length (trim_end t))) (bar_end (trim_end t))) _ (paragraph_at n)
      (λ p. record { start = omega arith; end = omega arith; indent = omega arith; from = omega arith; to = omega arith; level = omega arith })
      (paragraph m n (omega arith))

  item-within : Within m (item_of n t)
  unfolding item_of
  item-within = by-marker (marker_of t) (marker-within t)
    where
      by-marker : (o : Option Marked) → IfSome o (λ k. k.len ≤ length t) → Within m (item_by n o)
      by-marker None l = paragraph m n (omega arith)
      by-marker (Some k) l = record { start = omega arith; end = omega arith; indent = omega arith; from = omega arith; to = omega arith; level = omega arith }

  rule-within : Within m (rule_of n t)
  unfolding rule_of
  rule-within =
      either m (break_of 0 t) _ (item_of n t)
      (λ p. record { start = omega arith; end = omega (arith, kept-le t); indent = omega arith; from = omega arith; to = omega arith; level = omega arith })
      item-within

  -- a byte that is not 0 stands in the list
  closed : defines_of t ≡ true → close_at t + 1 < length t
  unfolding defines_of
  closed p =
      let e = eqb-true (get_or t (close_at t + 1) 0) 58 (true-right (eqb (get_or t 0 0) 91) (eqb (get_or t (close_at t + 1) 0) 58) p) in
      by-test (leb (length t) (close_at t + 1)) refl e
    where
      by-test : (b : Bool) → leb (length t) (close_at t + 1) ≡ b → get_or t (close_at t + 1) 0 ≡ 58 → close_at t + 1 < length t
      by-test true q e = let z : get_or t (close_at t + 1) 0 ≡ 0 = get_or-eq_default t 0 (leb-true (length t) (close_at t + 1) q) in let w : ⊥ = omega arith in absurd w
      by-test false q e = leb-false (length t) (close_at t + 1) q

  definition-within : Within m (definition_of n t)
  unfolding definition_of
  definition-within =
      either m (defines_of t) _ (paragraph_at n)
      (λ p. let c = closed p in record { start = omega arith; end = omega arith; indent = omega arith; from = omega (arith, label-start-le t); to = omega arith; level = omega arith })
      (paragraph m n (omega arith))

  fenced-within : (mark len : ℕ) → len ≤ length t → Within m (fenced_of n t mark len (spec_start t len))
  unfolding spec_start
  fenced-within mark len g =
      let p = (part_length t len (kept t)).1 in
      let l = front-le is_space (part_of t len (kept t)) in
      let k = kept-le t in
      either m (spec_ok mark (part_of t (len + lead (part_of t len (kept t))) (kept t))) _ (paragraph_at n)
      (λ q. record { start = omega arith; end = h; indent = omega arith; from = omega arith; to = omega arith; level = omega arith })
      (paragraph m n (omega arith))

  fence-within : Within m (fence_of n t)
  unfolding fence_of
  fence-within =
      either m (ltb (front (same (get_or t 0 0)) t) 3) (paragraph_at n) _
      (λ p. paragraph m n (omega arith))
      (fenced-within (get_or t 0 0) (front (same (get_or t 0 0)) t) (front-le (same (get_or t 0 0)) t))

  colon-within : Within m (colon_of n t)
  unfolding colon_of
  colon-within = either m (ends_at t 1) (item_of n t) (fence_of n t) (λ p. item-within) fence-within

  begin-within : 0 < length t → (b : ℕ) → Within m (begin_of n t b)
  unfolding begin_of
  begin-within g b =
      either m (eqb b 10) _ _ (λ p. record { start = omega arith; end = omega arith; indent = omega arith; from = omega arith; to = omega arith; level = omega arith })
      (either m (eqb b 35) _ _ (λ p. heading-within)
      (either m (eqb b 62) _ _ (λ p. quote-within g)
      (either m (eqb b 123) _ _ (λ p. attributes-within)
      (either m (eqb b 124) _ _ (λ p. table-within)
      (either m (eqb b 91) _ _ (λ p. definition-within)
      (either m (eqb b 45) _ _ (λ p. rule-within)
      (either m (eqb b 42) _ _ (λ p. rule-within)
      (either m (eqb b 58) _ _ (λ p. colon-within)
      (either m (eqb b 96) _ _ (λ p. fence-within)
      (either m (eqb b 126) _ _ (λ p. fence-within) item-within))))))))))

-- what a line begins lies within it
pub identify-within : (line : List ℕ) → Within (length line) (identify_of line)
unfolding identify_of
identify-within line = by-test (eqb (length (drop (indent line) line)) 0) refl
  where
    by-test : (b : Bool) → eqb (length (drop (indent line) line)) 0 ≡ b
        → Within (length line) (pick b (identified_as Blankline (indent line) (indent line)) (begin_of (indent line) (drop (indent line) line) (get_or (drop (indent line) line) 0 0)))
    by-test true p = record { start = front-le is_gap line; end = front-le is_gap line; indent = omega arith; from = omega arith; to = omega arith; level = omega arith }
    by-test false p =
        let k = front-le is_gap line in
        let d = length-drop (indent line) line in
        let z = eqb-false (length (drop (indent line) line)) 0 p in
        begin-within (length line) (indent line) (drop (indent line) line) (omega arith) (pos_of_ne-zero z) (get_or (drop (indent line) line) 0 0)
