-- The lines of a leaf and their Inlines, one law a return. Assumes nothing.
use Prim.Native.Nat.{ℕ, ◌+◌, ◌-◌, ◌*◌, ◌/◌, ◌≤◌, ◌<◌, min}
use mathlib.Core.Path.{◌≡◌, refl, sym, ap, ◌∙◌}
use mathlib.Core.Bool.{Bool, true, false}
use mathlib.Core.List.{List}
use native.Mathlib.Omega.{arith}
use native.Mathlib.Nat.{min-le_right}
use lib.Dec.{eqb}
use lib.ListN.{length, drop, get_or, length-drop}
use borrow.Author.Tests.{eq-eqb, ne_eqb, eqb-true, eqb-false, lt-ltb, le-ltb}
use Rattle.classes.specs.Choice.{pick}
use Rattle.classes.specs.Classes.{is_space}
use Rattle.lines.specs.Lines.{Span, span, spans_of}
use Rattle.lines.proofs.SpanLaws.{span-count, span-at, span-end}
use Rattle.trim.specs.Trim.{front, lead, indent, part_of}
use Rattle.trim.proofs.TrimLaws.{front-le}
use Rattle.kinds.specs.Bytes.{same}
use Rattle.kinds.specs.declared.Kind.{Kind}
use Rattle.measure.specs.Continue.{kind_num}
use Rattle.events.specs.State.{State, go}
use Rattle.events.proofs.GoLaws.{go_on, go-stop}
use Rattle.walk.specs.Fields.{indent_of}
use Rattle.walk.proofs.LineLaws.{inside}
use Rattle.walk.specs.Leaf.{inline_of, trim_front, trim_back, past_marks, trim_marks, plain_line, code_line, leaf_line, line_event, inlines_of}

-- where a line's text starts fits a word, as the line's ends do
pub front_below : (text : List ℕ) (s e m r : ℕ) → r ≡ (trim_front text (span s e)).start → s < m → e < m → r < m
front_below text s e m r p g h = rw p (inside text s e (lead (part_of text s e)) m (part_of text s e) refl (front-le is_space (part_of text s e)) g h)

-- ---- a heading's later line
module _ (text : List ℕ) (s e marks after rest n : ℕ) (part : List ℕ)
    (p : marks ≡ (trim_front text (span s e)).start) (t : part ≡ part_of text marks e) (f : n ≡ front (same 35) part)
    (q : after ≡ marks + n) (r : rest ≡ (trim_front text (span after e)).start) where
  past : after ≡ past_marks text (span s e)
  past =
      q ∙ ap (λ (k : ℕ). marks + k) (f ∙ ap (λ (l : List ℕ). front (same 35) l) t)
      ∙ ap (λ (k : ℕ). k + front (same 35) (part_of text k e)) p

  marked : pick (eqb rest after) (span s e) (span rest e) ≡ trim_marks text (span s e)
  unfolding trim_marks
  marked =
      ap (λ (k : ℕ). pick (eqb k after) (span s e) (span k e)) r
      ∙ ap (λ (k : ℕ). pick (eqb (trim_front text (span k e)).start k) (span s e) (trim_front text (span k e))) past

  pub marks-none : rest ≡ after → span s e ≡ trim_marks text (span s e)
  marks-none z = ap (λ (b : Bool). pick b (span s e) (span rest e)) (sym (eq-eqb rest after z)) ∙ marked

  pub marks-off : (rest ≡ after → ⊥) → span rest e ≡ trim_marks text (span s e)
  marks-off z = ap (λ (b : Bool). pick b (span s e) (span rest e)) (sym (ne_eqb rest after z)) ∙ marked

-- ---- code
pub least-le : (m a b : ℕ) → m ≡ min a b → m ≤ b
least-le m a b p = rw p (min-le_right a b)

pub code_at : (text : List ℕ) (s e i n m r : ℕ) (part : List ℕ) → part ≡ part_of text s e → n ≡ indent part → m ≡ min i n → r ≡ s + m
    → span r e ≡ code_line text i (span s e)
code_at text s e i n m r part t p q z =
    ap (λ (k : ℕ). span k e) (z ∙ ap (λ (k : ℕ). s + k) (q ∙ ap (λ (k : ℕ). min i k) (p ∙ ap (λ (l : List ℕ). indent l) t)))

-- ---- text
module _ (text : List ℕ) (last : Bool) (a e s : ℕ) (p : s ≡ (trim_front text (span a e)).start) where
  pub plain-last : last ≡ true → (t : ℕ) → t ≡ (trim_back text (span s e)).end → span s t ≡ plain_line text last (span a e)
  plain-last b t q =
      ap (λ (k : ℕ). span s k) q ∙ ap (λ (k : ℕ). trim_back text (span k e)) p
      ∙ ap (λ (y : Bool). plain_line text y (span a e)) (sym b)

  pub plain_more : last ≡ false → span s e ≡ plain_line text last (span a e)
  plain_more b = ap (λ (k : ℕ). span k e) p ∙ ap (λ (y : Bool). plain_line text y (span a e)) (sym b)

-- ---- by the kind
module _ (text : List ℕ) (k : Kind) (first last : Bool) (l : Span) (n : ℕ) (p : n ≡ kind_num k) where
  pub line_code : n ≡ 6 → (i : ℕ) → i ≡ indent_of k → (x : Span) → x ≡ code_line text i l → x ≡ leaf_line text k first last l
  unfolding leaf_line
  line_code c i h x q = rw (eq-eqb (kind_num k) 6 (sym p ∙ c), ← h) q

  module _ (nc : n ≡ 6 → ⊥) where
    not_code : eqb (kind_num k) 6 ≡ false
    not_code = ne_eqb (kind_num k) 6 (λ z. nc (p ∙ z))

    pub line_first : n ≡ 5 → first ≡ true → (x : Span) → x ≡ plain_line text last l → x ≡ leaf_line text k first last l
    unfolding leaf_line
    line_first h f x q = rw (not_code, eq-eqb (kind_num k) 5 (sym p ∙ h), f) q

    pub line-later : n ≡ 5 → first ≡ false → (y : Span) → y ≡ trim_marks text l → (x : Span) → x ≡ plain_line text last y → x ≡ leaf_line text k first last l
    unfolding leaf_line
    line-later h f y r x q = rw (not_code, eq-eqb (kind_num k) 5 (sym p ∙ h), f, ← r) q

    module _ (nh : n ≡ 5 → ⊥) where
      not-heading : eqb (kind_num k) 5 ≡ false
      not-heading = ne_eqb (kind_num k) 5 (λ z. nh (p ∙ z))

      pub line-definition : n ≡ 7 → (x : Span) → x ≡ plain_line text true l → x ≡ leaf_line text k first last l
      unfolding leaf_line
      line-definition h x q = rw (not_code, not-heading, eq-eqb (kind_num k) 7 (sym p ∙ h)) q

      pub line_plain : (n ≡ 7 → ⊥) → (x : Span) → x ≡ plain_line text last l → x ≡ leaf_line text k first last l
      unfolding leaf_line
      line_plain h x q = rw (not_code, not-heading, ne_eqb (kind_num k) 7 (λ z. h (p ∙ z))) q

pub event-none : (i j : ℕ) (s : State) → j ≤ i → s ≡ line_event (span i j) s
unfolding line_event
event-none i j s h = rw (le-ltb i j h)

pub event-one : (i j : ℕ) (s : State) → i < j → inline_of i j s ≡ line_event (span i j) s
unfolding line_event
event-one i j s h = rw (lt-ltb i j h)

module _ (text : List ℕ) (k : Kind) (ws : List ℕ) where
  pub inlines-start : (s : State) → inlines_of text k (eqb 0 0) (drop 0 (spans_of ws)) s ≡ inlines_of text k true (spans_of ws) s
  inlines-start s = refl

  pub inlines-end : (first : Bool) (i : ℕ) (s : State) → length ws / 2 ≤ i → s ≡ inlines_of text k first (drop i (spans_of ws)) s
  unfolding inlines_of
  inlines-end first i s h = rw (span-end ws i h)

  module _ (first : Bool) (i : ℕ) (h : i < length ws / 2) (a b : State) (x : Span)
      (p : x ≡ leaf_line text k first (eqb (i + 1) (length ws / 2)) (span (get_or ws (i * 2) 0) (get_or ws (i * 2 + 1) 0))) (q : b ≡ line_event x a) where
    last-here : eqb (length (drop (i + 1) (spans_of ws))) 0 ≡ eqb (i + 1) (length ws / 2)
    last-here = by-test (eqb (i + 1) (length ws / 2)) refl (length-drop (i + 1) (spans_of ws)) (span-count ws)
      where
        by-test : (y : Bool) → eqb (i + 1) (length ws / 2) ≡ y → length (drop (i + 1) (spans_of ws)) ≡ length (spans_of ws) - (i + 1) → length (spans_of ws) ≡ length ws / 2
            → eqb (length (drop (i + 1) (spans_of ws))) 0 ≡ y
        by-test true e d c = let z = eqb-true (i + 1) (length ws / 2) e in eq-eqb (length (drop (i + 1) (spans_of ws))) 0 (omega arith)
        by-test false e d c =
            let z = eqb-false (i + 1) (length ws / 2) e in
            ne_eqb (length (drop (i + 1) (spans_of ws))) 0 (λ w. z (omega arith))

    turn : inlines_of text k first (drop i (spans_of ws)) a ≡ go b (inlines_of text k false (drop (i + 1) (spans_of ws)))
    unfolding inlines_of
    turn = rw (span-at ws i (omega arith), last-here, ← p, ← q)

    pub inlines-stop : (b.number ≡ 0 → ⊥) → inlines_of text k first (drop i (spans_of ws)) a ≡ b
    inlines-stop z = turn ∙ go-stop b _ z

    pub inlines-on : b.number ≡ 0 → inlines_of text k first (drop i (spans_of ws)) a ≡ inlines_of text k (eqb (i + 1) 0) (drop (i + 1) (spans_of ws)) b
    inlines-on z =
        turn ∙ go_on b _ z
        ∙ ap (λ (y : Bool). inlines_of text k y (drop (i + 1) (spans_of ws)) b) (sym (ne_eqb (i + 1) 0 (λ w. omega arith)))
