-- Labels and where they stand. Assumes nothing.
use mathlib.Core.Path.{◌≡◌, refl, sym, ◌∙◌}
use mathlib.Core.Bool.{Bool, true, false}
use mathlib.Core.List.{List, [], ◌∷◌}
use Prim.Native.Nat.{ℕ, ◌+◌, ◌-◌, ◌≤◌}
use native.Mathlib.Omega.{arith}
use lib.Dec.{eqb}
use lib.ListN.{length, take, drop, get_or, get_or-eq_default, length-take, length-drop}
use borrow.Author.Tests.{eqb-true, ne_eqb}
use Rattle.classes.specs.Choice.{pick, both}
use Rattle.classes.proofs.ChoiceLaws.{true-left}
use Rattle.lines.specs.Lines.{place_of}
use Rattle.lines.proofs.PlaceLaws.{place-le}
use Rattle.trim.specs.Trim.{part_of}
use Rattle.trim.specs.Label.{close_at, defines_of, label_start, label_of}

-- no colon behind the first `]`, and no `]`
pub not-colon : (t : List ℕ) (c : ℕ) → c ≡ close_at t → (get_or t (c + 1) 0 ≡ 58 → ⊥) → defines_of t ≡ false
unfolding defines_of
not-colon t c p e = rw (← p, ne_eqb (get_or t (c + 1) 0) 58 e) (by-test (eqb (get_or t 0 0) 91))
  where
    by-test : (x : Bool) → both x false ≡ false
    by-test true = refl
    by-test false = refl

pub not-closed : (t : List ℕ) → close_at t ≡ length t → defines_of t ≡ false
not-closed t e = not-colon t (close_at t) refl (λ p. omega (arith, sym p ∙ get_or-eq_default t 0 (omega (arith, e))))

pub no_label : (t : List ℕ) → defines_of t ≡ false → [] ≡ label_of t
unfolding label_of
no_label t e = rw e

pub label-part : (t : List ℕ) (a e : ℕ) → defines_of t ≡ true → a ≡ label_start t → e ≡ close_at t → part_of t a e ≡ label_of t
unfolding label_of
label-part t a e d p q = rw (d, p, q)

pub label-start-le : (t : List ℕ) → label_start t ≤ 2
unfolding label_start
label-start-le t = by-test (eqb (get_or t 1 0) 94)
  where
    by-test : (x : Bool) → pick {A = ℕ} x 2 1 ≤ 2
    by-test true = omega arith
    by-test false = omega arith

-- a label starts before its `]`
label-before : (t : List ℕ) → get_or t 0 0 ≡ 91 → label_start t ≤ close_at t
unfolding label_start place_of
label-before [] p = absurd (omega arith)
label-before (b ∷ []) p = rw (ne_eqb b 93 (λ e. omega arith)) (omega arith)
label-before (b ∷ c ∷ cs) p = rw (ne_eqb b 93 (λ e. omega arith)) (by-test (eqb c 94) (λ e. ne_eqb c 93 (λ d. omega (arith, eqb-true c 94 e, d))))
  where
    by-test : (x : Bool) → (x ≡ true → eqb c 93 ≡ false) → pick {A = ℕ} x 2 1 ≤ 1 + pick (eqb c 93) 0 (1 + place_of 93 cs)
    by-test true h = rw (h refl) (omega arith)
    by-test false h = omega arith

-- and ends there, in the line: its offsets are its start s and its length n
pub label-ends : (t : List ℕ) (s n : ℕ) → defines_of t ≡ true → s ≡ label_start t → n ≡ length (label_of t) → (s + n ≡ close_at t) × (s + n ≤ length t)
unfolding defines_of label_of part_of
label-ends t s n d p q =
    let b = label-before t (eqb-true (get_or t 0 0) 91 (true-left (eqb (get_or t 0 0) 91) _ d)) in
    let e : length (take (close_at t - label_start t) (drop (label_start t) t)) ≡ close_at t - label_start t = simp (length-take, length-drop) (omega (arith, place-le 93 t, b)) in
    let k : n ≡ close_at t - label_start t = q ∙ rw d e in
    (omega (arith, k, b, p), omega (arith, k, b, p, place-le 93 t))
