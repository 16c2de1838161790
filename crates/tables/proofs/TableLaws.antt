-- The events of a caption and of a table, one law a return. Assumes nothing.
use Prim.Native.Nat.{ℕ, ◌+◌, ◌-◌, ◌*◌, ◌/◌, ◌≤◌, ◌<◌}
use mathlib.Core.Path.{◌≡◌, refl, sym, ap, ◌∙◌}
use mathlib.Core.Bool.{Bool, true, false}
use mathlib.Core.List.{List, [], ◌∷◌}
use native.Mathlib.Omega.{arith}
use lib.Dec.{eqb}
use lib.ListN.{length, take, drop, get_or, length-drop}
use borrow.Author.Tests.{eq-eqb, ne_eqb, eqb-true}
use Rattle.lines.specs.Lines.{Span, span, spans_of}
use Rattle.lines.proofs.SpanLaws.{span-count, span-at, span-end}
use Rattle.trim.proofs.TrimLaws.{whole_drop}
use Rattle.events.specs.State.{State, go}
use Rattle.events.specs.Events.{enter_of, exit_of}
use Rattle.events.specs.declared.Node.{Node}
use Rattle.events.proofs.GoLaws.{go_on, go-stop}
use Rattle.walk.specs.Leaf.{node, inline_of}
use Rattle.walk.specs.Table.{caption_line, caption_text, caption_lines, caption_of, rows, rows_of, table_of}
use Rattle.walk.specs.declared.Met.{Met}
use Rattle.lines.proofs.SpanLaws.{spans-take, spans-drop}

-- ---- the caption's lines
same_test : (b c : Bool) → (b ≡ true → c ≡ true) → (c ≡ true → b ≡ true) → b ≡ c
same_test true c f g = sym (f refl)
same_test false true f g = g refl
same_test false false f g = refl

-- no line is left after the last
last_line : (ws : List ℕ) (k : ℕ) → k < length ws / 2 → eqb (length (drop (k + 1) (spans_of ws))) 0 ≡ eqb (k + 1) (length ws / 2)
last_line ws k h =
    let a = span-count ws in
    let d = length-drop (k + 1) (spans_of ws) in
    let n = length (drop (k + 1) (spans_of ws)) in
    same_test (eqb n 0) (eqb (k + 1) (length ws / 2))
    (λ e. eq-eqb (k + 1) (length ws / 2) (omega (arith, a, d, h, eqb-true n 0 e)))
    (λ e. eq-eqb n 0 (omega (arith, a, d, h, eqb-true (k + 1) (length ws / 2) e)))

one_line : (text : List ℕ) (first : Bool) (l : Span) (ls : List Span) (s : State) →
    caption_lines text first (l ∷ ls) s ≡ go (inline_of (caption_text text first (eqb (length ls) 0) l).start (caption_text text first (eqb (length ls) 0) l).end s) (caption_lines text false ls)
unfolding caption_lines
one_line text first l ls s = refl

pub lines_end : (text ws : List ℕ) (first : Bool) (k : ℕ) (s : State) → length ws / 2 ≤ k → caption_lines text first (drop k (spans_of ws)) s ≡ s
unfolding caption_lines
lines_end text ws first k s h = rw (span-end ws k h)

module _ (text ws : List ℕ) (k i j : ℕ) (h : k < length ws / 2)
    (p : span i j ≡ caption_text text (eqb k 0) (eqb (k + 1) (length ws / 2)) (span (get_or ws (k * 2) 0) (get_or ws (k * 2 + 1) 0)))
    (s b : State) (q : b ≡ inline_of i j s) where
  line_step : caption_lines text (eqb k 0) (drop k (spans_of ws)) s ≡ go b (caption_lines text false (drop (k + 1) (spans_of ws)))
  line_step =
      let l = span (get_or ws (k * 2) 0) (get_or ws (k * 2 + 1) 0) in
      let ls = drop (k + 1) (spans_of ws) in
      ap (λ (x : List Span). caption_lines text (eqb k 0) x s) (span-at ws k (omega arith)) ∙ one_line text (eqb k 0) l ls s
      ∙ ap (λ (x : Span). go (inline_of x.start x.end s) (caption_lines text false ls)) (ap (λ (t : Bool). caption_text text (eqb k 0) t l) (last_line ws k h) ∙ sym p)
      ∙ ap (λ (x : State). go x (caption_lines text false ls)) (sym q)

  pub lines-stop : (b.number ≡ 0 → ⊥) → caption_lines text (eqb k 0) (drop k (spans_of ws)) s ≡ b
  lines-stop z = line_step ∙ go-stop b (caption_lines text false (drop (k + 1) (spans_of ws))) z

  pub lines-on : b.number ≡ 0 → caption_lines text (eqb k 0) (drop k (spans_of ws)) s ≡ caption_lines text (eqb (k + 1) 0) (drop (k + 1) (spans_of ws)) b
  lines-on z =
      line_step ∙ go_on b (caption_lines text false (drop (k + 1) (spans_of ws))) z
      ∙ ap (λ (t : Bool). caption_lines text t (drop (k + 1) (spans_of ws)) b) (sym (ne_eqb (k + 1) 0 (λ e. omega arith)))

-- ---- the caption
caption-some : (text : List ℕ) (m : Met) (ls : List Span) (s : State) (l : Span) (rest : List Span) → ls ≡ l ∷ rest →
    caption_of text m ls s ≡ go (enter_of (node 19 m.start m.end 0 0 0 0) s) (λ a. go (caption_lines text true ls a) (exit_of m.from m.to))
unfolding caption_of
caption-some text m ls s l rest e = rw e

pub caption-none : (text : List ℕ) (m : Met) (ws : List ℕ) (s : State) → length ws < 2 → s ≡ caption_of text m (spans_of ws) s
unfolding caption_of
caption-none text m ws s h = let e : spans_of ws ≡ [] = span-end ws 0 (omega arith) in rw e

module _ (text : List ℕ) (m : Met) (ws : List ℕ) (s : State) (h : 2 ≤ length ws) (x : Node) (n : x ≡ node 19 m.start m.end 0 0 0 0) (a : State) (p : a ≡ enter_of x s) where
  entered : caption_of text m (spans_of ws) s ≡ go a (λ b. go (caption_lines text true (spans_of ws) b) (exit_of m.from m.to))
  entered =
      caption-some text m (spans_of ws) s (span (get_or ws 0 0) (get_or ws 1 0)) (drop 1 (spans_of ws)) (span-at ws 0 (omega arith))
      ∙ ap (λ (c : State). go c (λ b. go (caption_lines text true (spans_of ws) b) (exit_of m.from m.to))) (sym (p ∙ ap (λ (y : Node). enter_of y s) n))

  pub caption-1 : (a.number ≡ 0 → ⊥) → a ≡ caption_of text m (spans_of ws) s
  caption-1 z = sym (entered ∙ go-stop a _ z)

  module _ (za : a.number ≡ 0) (b : State) (q : b ≡ caption_lines text true (spans_of ws) a) where
    lined : caption_of text m (spans_of ws) s ≡ go b (exit_of m.from m.to)
    lined = entered ∙ go_on a _ za ∙ ap (λ (c : State). go c (exit_of m.from m.to)) (sym q)

    pub caption-2 : (b.number ≡ 0 → ⊥) → b ≡ caption_of text m (spans_of ws) s
    caption-2 z = sym (lined ∙ go-stop b (exit_of m.from m.to) z)

    pub caption-3 : b.number ≡ 0 → exit_of m.from m.to b ≡ caption_of text m (spans_of ws) s
    caption-3 z = sym (lined ∙ go_on b (exit_of m.from m.to) z)

-- ---- the table
-- the lines that are lent from a line on
spans-rest : (c : ℕ) (ws : List ℕ) → spans_of (take (length ws - c * 2) (drop (c * 2) ws)) ≡ drop c (spans_of ws)
spans-rest c ws = ap (λ (l : List ℕ). spans_of l) (whole_drop ws (c * 2)) ∙ spans-drop c ws (c * 2) (omega arith)

table_is : (text : List ℕ) (m : Met) (ls : List Span) (s : State) (c : ℕ) → c ≡ caption_line text ls →
    table_of text m ls s ≡ go (enter_of (node 12 m.start m.end 0 0 0 0) s) (λ a. go (caption_of text m (drop c ls) a) (λ b. go (rows_of text (take c ls) (rows b [] 0 0)).st (exit_of m.from m.to)))
unfolding table_of
table_is text m ls s c e = rw e

module _ (text : List ℕ) (m : Met) (ws : List ℕ) (s : State) (x : Node) (n : x ≡ node 12 m.start m.end 0 0 0 0) (a : State) (p : a ≡ enter_of x s) where
  opened : (c : ℕ) → c ≡ caption_line text (spans_of ws) →
      table_of text m (spans_of ws) s ≡ go a (λ b. go (caption_of text m (drop c (spans_of ws)) b) (λ d. go (rows_of text (take c (spans_of ws)) (rows d [] 0 0)).st (exit_of m.from m.to)))
  opened c e =
      table_is text m (spans_of ws) s c e
      ∙ ap (λ (y : State). go y (λ b. go (caption_of text m (drop c (spans_of ws)) b) (λ d. go (rows_of text (take c (spans_of ws)) (rows d [] 0 0)).st (exit_of m.from m.to)))) (sym (p ∙ ap (λ (y : Node). enter_of y s) n))

  pub table-1 : (a.number ≡ 0 → ⊥) → a ≡ table_of text m (spans_of ws) s
  table-1 z = sym (opened (caption_line text (spans_of ws)) refl ∙ go-stop a _ z)

  module _ (za : a.number ≡ 0) (c : ℕ) (e : c ≡ caption_line text (spans_of ws)) (b : State) (q : b ≡ caption_of text m (spans_of (take (length ws - c * 2) (drop (c * 2) ws))) a) where
    captioned : table_of text m (spans_of ws) s ≡ go b (λ d. go (rows_of text (take c (spans_of ws)) (rows d [] 0 0)).st (exit_of m.from m.to))
    captioned =
        opened c e ∙ go_on a _ za
        ∙ ap (λ (y : State). go y (λ d. go (rows_of text (take c (spans_of ws)) (rows d [] 0 0)).st (exit_of m.from m.to))) (sym (q ∙ ap (λ (ls : List Span). caption_of text m ls a) (spans-rest c ws)))

    pub table-2 : (b.number ≡ 0 → ⊥) → b ≡ table_of text m (spans_of ws) s
    table-2 z = sym (captioned ∙ go-stop b _ z)

    module _ (zb : b.number ≡ 0) (d : State) (r : d ≡ (rows_of text (spans_of (take (c * 2) ws)) (rows b [] 0 0)).st) where
      filled : table_of text m (spans_of ws) s ≡ go d (exit_of m.from m.to)
      filled =
          captioned ∙ go_on b _ zb
          ∙ ap (λ (y : State). go y (exit_of m.from m.to)) (sym (r ∙ ap (λ (ls : List Span). (rows_of text ls (rows b [] 0 0)).st) (spans-take c ws (c * 2) (omega arith))))

      pub table-3 : (d.number ≡ 0 → ⊥) → d ≡ table_of text m (spans_of ws) s
      table-3 z = sym (filled ∙ go-stop d (exit_of m.from m.to) z)

      pub table-4 : d.number ≡ 0 → exit_of m.from m.to d ≡ table_of text m (spans_of ws) s
      table-4 z = sym (filled ∙ go_on d (exit_of m.from m.to) z)
