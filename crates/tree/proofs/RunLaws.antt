-- The blocks of a list of lines, one at a time. Assumes nothing.
use Prim.Native.Nat.{ℕ, zero, suc, ◌+◌, ◌-◌, ◌*◌, ◌≤◌, ◌<◌}
use mathlib.Core.Path.{◌≡◌, refl, sym, ap, fun_ext, ◌∙◌}
use mathlib.Core.List.{List, [], ◌∷◌}
use native.Mathlib.Omega.{arith}
use lib.ListN.{length, take, drop, length-drop}
use lib.Seq.{drop-drop}
use Rattle.lines.specs.Lines.{Span, spans_of}
use Rattle.lines.proofs.SpanLaws.{span-at, span-end, spans-take, spans-drop}
use Rattle.measure.specs.Measure.{measure_of}
use Rattle.measure.specs.declared.Measured.{Measured}
use Rattle.events.specs.State.{State, go}
use Rattle.events.proofs.GoLaws.{go_on, go-stop}
use Rattle.walk.specs.Tree.{run_of}

module _ (text : List ℕ) (block : Measured → List Span → State → State) where
  -- lines that are taken already are passed over
  skip : (k : ℕ) (ls : List Span) (s : State) → run_of text block ls k s ≡ run_of text block (drop k ls) 0 s
  unfolding run_of
  skip zero [] s = refl
  skip zero (l ∷ ls) s = refl
  skip (suc k) [] s = refl
  skip (suc k) (l ∷ ls) s = skip k ls s

  step : (l : Span) (ls : List Span) (s : State) (m : Measured) (n : ℕ) → m ≡ measure_of text (l ∷ ls) → n ≡ m.lines - m.given → 1 ≤ n
      → run_of text block (l ∷ ls) 0 s ≡ go (block m (take n (l ∷ ls)) s) (λ r. run_of text block (drop n (l ∷ ls)) 0 r)
  unfolding run_of
  step l ls s m n e f h =
      let q : n ≡ suc (n - 1) = omega arith in
      let d : drop n (l ∷ ls) ≡ drop (n - 1) ls = ap (λ (k : ℕ). drop k (l ∷ ls)) q in
      rw (← e, ← f, d) (ap (λ (g : State → State). go (block m (take n (l ∷ ls)) s) g) (fun_ext (λ r. skip (n - 1) ls r)))

  module _ (ws ps qs : List ℕ) (at n : ℕ) (s : State) (m : Measured) (h : 2 ≤ length ws - at) (ep : ps ≡ drop at ws) (em : m ≡ measure_of text (spans_of ps))
      (en : n ≡ m.lines - m.given) (one : 1 ≤ n) (eq : qs ≡ take (2 * n) (drop at ws)) (r : State) (er : r ≡ block m (spans_of qs) s) where
    turn : run_of text block (spans_of (drop at ws)) 0 s ≡ go r (λ x. run_of text block (drop n (spans_of (drop at ws))) 0 x)
    turn =
        let c = span-at (drop at ws) 0 (omega (arith, length-drop at ws)) in
        let em' : m ≡ measure_of text (spans_of (drop at ws)) = em ∙ rw ep in
        let es : spans_of qs ≡ take n (spans_of (drop at ws)) = rw eq (spans-take n (drop at ws) (2 * n) refl) in
        let t : run_of text block (spans_of (drop at ws)) 0 s ≡ go (block m (take n (spans_of (drop at ws))) s) (λ x. run_of text block (drop n (spans_of (drop at ws))) 0 x)
        = rw c (step _ _ s m n (em' ∙ rw c) en one) in
        t ∙ rw (← es, ← er)

    pub run-stop : (r.number ≡ 0 → ⊥) → run_of text block (spans_of (drop at ws)) 0 s ≡ r
    run-stop z = turn ∙ go-stop r _ z

    pub run_on : (vs : List ℕ) (to : ℕ) → to ≡ at + 2 * n → drop to vs ≡ drop to ws → r.number ≡ 0
        → run_of text block (spans_of (drop at ws)) 0 s ≡ run_of text block (spans_of (drop to vs)) 0 r
    run_on vs to f e z =
        let d : drop n (spans_of (drop at ws)) ≡ spans_of (drop to vs) = sym (spans-drop n (drop at ws) (2 * n) refl) ∙ rw (drop-drop, ← f, e) in
        turn ∙ go_on r _ z ∙ rw d

  pub run_end : (ws : List ℕ) (at : ℕ) (s : State) → length ws - at < 2 → s ≡ run_of text block (spans_of (drop at ws)) 0 s
  unfolding run_of
  run_end ws at s h = rw (span-end (drop at ws) 0 (omega (arith, length-drop at ws)))
