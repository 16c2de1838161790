-- The lines that words hold: the first, the last, and those inside. Assumes nothing.
use Prim.Native.Nat.{ℕ, zero, suc, ◌+◌, ◌-◌, ◌*◌, ◌/◌, ◌%◌, ◌≤◌}
use mathlib.Core.Path.{◌≡◌, refl, ap, ◌∙◌}
use mathlib.Core.List.{List, [], ◌∷◌}
use native.Mathlib.Omega.{arith}
use lib.ListN.{length, take, drop, get_or}
use borrow.Author.Tests.{eq-eqb, ne_eqb}
use Rattle.lines.specs.Lines.{Span, span, spans_of}
use Rattle.lines.proofs.SpanLaws.{span-count, spans-take, spans-drop}
use Rattle.walk.specs.Tree.{first_line, last_line}

pub first-start : (ws : List ℕ) → 2 ≤ length ws → (first_line (spans_of ws)).start ≡ get_or ws 0 0
unfolding spans_of
first-start [] h = absurd (omega arith)
first-start (a ∷ []) h = absurd (omega arith)
first-start (a ∷ b ∷ ws) h = refl

last_one : (l : Span) (ls : List Span) → length ls ≡ 0 → last_line (l ∷ ls) ≡ l
unfolding last_line
last_one l ls e = rw (eq-eqb (length ls) 0 e)

last_more : (l : Span) (ls : List Span) → (length ls ≡ 0 → ⊥) → last_line (l ∷ ls) ≡ last_line ls
unfolding last_line
last_more l ls e = rw (ne_eqb (length ls) 0 e)

-- of an even number of words
last-at : (ws : List ℕ) (k : ℕ) → length ws ≡ k + 2 → k % 2 ≡ 0 → last_line (spans_of ws) ≡ span (get_or ws k 0) (get_or ws (suc k) 0)
unfolding spans_of
last-at [] k h e = absurd (omega arith)
last-at (a ∷ []) k h e = absurd (omega arith)
last-at (a ∷ b ∷ ws) zero h e = last_one (span a b) (spans_of ws) (omega (arith, span-count ws))
last-at (a ∷ b ∷ ws) (suc zero) h e = absurd (omega arith)
last-at (a ∷ b ∷ ws) (suc (suc k)) h e =
    last_more (span a b) (spans_of ws) (λ z. omega (arith, span-count ws)) ∙ last-at ws k (omega arith) (omega arith)

pub last_line_lem : (ws : List ℕ) → 2 ≤ length ws → length ws % 2 ≡ 0 → last_line (spans_of ws) ≡ span (get_or ws (length ws - 2) 0) (get_or ws (length ws - 1) 0)
last_line_lem ws h e =
    let n : suc (length ws - 2) ≡ length ws - 1 = omega arith in
    last-at ws (length ws - 2) (omega arith) (omega arith) ∙ ap (λ (i : ℕ). span (get_or ws (length ws - 2) 0) (get_or ws i 0)) n

-- the lines after the first, without the last c
pub inside : (ws : List ℕ) (c i : ℕ) → i ≡ (length ws / 2 - 1 - c) * 2 → spans_of (take i (drop 2 ws)) ≡ take (length (spans_of ws) - 1 - c) (drop 1 (spans_of ws))
inside ws c i p =
    let e : i ≡ (length (spans_of ws) - 1 - c) * 2 = omega (arith, span-count ws, p) in
    ap (λ (j : ℕ). spans_of (take j (drop 2 ws))) e
    ∙ spans-take (length (spans_of ws) - 1 - c) (drop 2 ws) ((length (spans_of ws) - 1 - c) * 2) (omega arith)
    ∙ ap (λ (x : List Span). take (length (spans_of ws) - 1 - c) x) (spans-drop 1 ws 2 refl)
