-- A block's spans and lines. Assumes nothing.
use Prim.Native.Nat.{ℕ, ◌+◌, ◌-◌, ◌%◌, ◌≤◌, ◌<◌}
use mathlib.Core.Path.{◌≡◌, refl, sym, ap, ◌∙◌}
use mathlib.Core.Bool.{Bool, true, false}
use mathlib.Core.List.{List, [], ◌∷◌}
use native.Mathlib.Omega.{arith}
use lib.Dec.{eqb}
use lib.ListN.{length, take, drop, get_or, set}
use lib.Seq.{take_all}
use borrow.Author.Tests.{eq-eqb, ne_eqb, lt-ltb, le-ltb}
use Rattle.classes.specs.Choice.{pick, both, either}
use Rattle.lines.specs.Lines.{span, spans_of}
use Rattle.kinds.specs.declared.Kind.{Kind}
use Rattle.measure.specs.Continue.{kind_num}
use Rattle.measure.specs.declared.Measured.{Measured}
use Rattle.walk.specs.Fields.{indent_of, closed_of}
use Rattle.walk.specs.Bounds.{Near, Bounded}
use Rattle.walk.specs.Tree.{met_of, marker_start, after_quote, skip_opening, inner_lines}
use Rattle.walk.specs.declared.Met.{Met}
use Rattle.meet.proofs.WordLaws.{first-start, last_line_lem, inside}

-- ---- opening and closing span
abbrev pub met_at : Measured → ℕ → ℕ → ℕ → ℕ → Met
met_at m s e f t = record { kind = m.kind; start = s; end = e; from = f; to = t }

module _ (m : Measured) (ws : List ℕ) (two : 2 ≤ length ws) (even : length ws % 2 ≡ 0) (s e : ℕ) (p : s ≡ get_or ws 0 0 + m.opening.start) (q : e ≡ get_or ws 0 0 + m.opening.end) where
  pub met-closed : closed_of m.kind ≡ true → met_at m s e (get_or ws (length ws - 2) 0) (get_or ws (length ws - 1) 0) ≡ met_of m (spans_of ws)
  unfolding met_of
  met-closed c = rw (p, q, first-start ws two, last_line_lem ws two even, c)

  pub met-plain : closed_of m.kind ≡ false → met_at m s e (get_or ws (length ws - 1) 0) (get_or ws (length ws - 1) 0) ≡ met_of m (spans_of ws)
  unfolding met_of
  met-plain c = rw (p, q, first-start ws two, last_line_lem ws two even, c)

pub bounded : (b : ℕ) (m : Measured) → Near b m → (s e f t : ℕ) → e ≡ b + m.opening.end → Bounded (met_at m s e f t) b
bounded b m n s e f t q = record { opening = omega arith; indent = n.indent; from = n.from; to = n.to; level = n.level }

module _ (m : Met) (line n : ℕ) (p : n ≡ kind_num m.kind) where
  pub marker-inside : n ≡ 7 → (r i : ℕ) → r ≡ line + i → i ≡ indent_of m.kind → r ≡ marker_start m line
  marker-inside h r i a b = a ∙ ap (λ (j : ℕ). line + j) b ∙ sym (rw (eq-eqb (kind_num m.kind) 7 (sym p ∙ h)))

  pub marker-first : (n ≡ 7 → ⊥) → m.start ≡ marker_start m line
  marker-first h = sym (rw (ne_eqb (kind_num m.kind) 7 (λ z. h (p ∙ z))))

-- ---- after a blockquote's mark
no_room : (a b : Bool) → ◌≡◌ {A = ℕ} 0 (pick (both a (both false b)) 1 0)
no_room true b = refl
no_room false b = refl

module _ (text : List ℕ) (m : Met) (end : ℕ) where
  pub quote-end : end ≤ m.end → (s : ℕ) → 0 ≡ after_quote text m (span s end)
  quote-end g s = rw (le-ltb m.end end g) (no_room (eqb (kind_num m.kind) 8) (either (eqb (get_or text m.end 0) 32) (eqb (get_or text m.end 0) 9)))

  module _ (g : m.end < end) (n : ℕ) (p : n ≡ kind_num m.kind) where
    pub quote-other : (n ≡ 8 → ⊥) → (s : ℕ) → 0 ≡ after_quote text m (span s end)
    quote-other h s = sym (rw (ne_eqb (kind_num m.kind) 8 (λ z. h (p ∙ z))))

    module _ (h : n ≡ 8) (b : ℕ) (q : b ≡ get_or text m.end 0) where
      pub quote-space : b ≡ 32 → (s : ℕ) → 1 ≡ after_quote text m (span s end)
      quote-space e s = sym (rw (eq-eqb (kind_num m.kind) 8 (sym p ∙ h), lt-ltb m.end end g, eq-eqb (get_or text m.end 0) 32 (sym q ∙ e)))

      pub quote-tab : (b ≡ 32 → ⊥) → b ≡ 9 → (s : ℕ) → 1 ≡ after_quote text m (span s end)
      quote-tab f e s = sym (rw (eq-eqb (kind_num m.kind) 8 (sym p ∙ h), lt-ltb m.end end g, ne_eqb (get_or text m.end 0) 32 (λ z. f (q ∙ z)), eq-eqb (get_or text m.end 0) 9 (sym q ∙ e)))

      pub quote-bare : (b ≡ 32 → ⊥) → (b ≡ 9 → ⊥) → (s : ℕ) → 0 ≡ after_quote text m (span s end)
      quote-bare f e s = sym (rw (eq-eqb (kind_num m.kind) 8 (sym p ∙ h), lt-ltb m.end end g, ne_eqb (get_or text m.end 0) 32 (λ z. f (q ∙ z)), ne_eqb (get_or text m.end 0) 9 (λ z. e (q ∙ z))))

pub skipped : (text : List ℕ) (m : Met) (ws : List ℕ) (r : ℕ) → 2 ≤ length ws → ((s : ℕ) → r ≡ after_quote text m (span s (get_or ws 1 0)))
    → spans_of (set ws 0 (m.end + r)) ≡ skip_opening text m (spans_of ws)
unfolding spans_of skip_opening
skipped text m [] r h p = absurd (omega arith)
skipped text m (a ∷ []) r h p = absurd (omega arith)
skipped text m (a ∷ b ∷ ws) r h p = ap (λ (i : ℕ). span (m.end + i) b ∷ spans_of ws) (p a)

-- ---- the lines inside
module _ (k : Kind) (x n : ℕ) (p : x ≡ kind_num k) (ws : List ℕ) (e : length ws ≡ n) where
  pub inner-all : (x ≡ 6 → ⊥) → spans_of (take (n - 0) (drop 0 ws)) ≡ inner_lines k (spans_of ws)
  inner-all h = ap (λ (l : List ℕ). spans_of l) (take_all (n - 0) ws (omega arith)) ∙ sym (rw (ne_eqb (kind_num k) 6 (λ z. h (p ∙ z))))

  module _ (h : x ≡ 6) (two : 2 ≤ n) (even : n % 2 ≡ 0) where
    pub inner-open : closed_of k ≡ false → spans_of (take (n - 2) (drop 2 ws)) ≡ inner_lines k (spans_of ws)
    inner-open c = inside ws 0 (n - 2) (omega arith) ∙ sym (rw (eq-eqb (kind_num k) 6 (sym p ∙ h), c))

    module _ (c : closed_of k ≡ true) where
      pub inner-none : n < 4 → spans_of (take (2 - 2) (drop 2 ws)) ≡ inner_lines k (spans_of ws)
      inner-none g = inside ws 1 (2 - 2) (omega arith) ∙ sym (rw (eq-eqb (kind_num k) 6 (sym p ∙ h), c))

      pub inner-closed : 4 ≤ n → spans_of (take (n - 2 - 2) (drop 2 ws)) ≡ inner_lines k (spans_of ws)
      inner-closed g = inside ws 1 (n - 2 - 2) (omega arith) ∙ sym (rw (eq-eqb (kind_num k) 6 (sym p ∙ h), c))
