-- From the two runs to the part between them. Assumes nothing.
use Prim.Native.Nat.{ℕ, ◌+◌, ◌-◌, ◌≤◌}
use mathlib.Core.Path.{◌≡◌, ap, ap₂, ◌∙◌}
use mathlib.Core.List.{List}
use native.Mathlib.Omega.{arith}
use lib.ListN.{length, length-map}
use borrow.Author.Tests.{eq-eqb, ne_eqb}
use Rattle.events.specs.Pack.{all_of}
use Rattle.walk.specs.declared.Limits.{Limits}
use Rattle.tops.specs.Tops.{line_start, starts_of}
use Rattle.tops.specs.Places.{starts_at, start_behind}
use Rattle.editions.specs.Editions.{refused_in, part_in, back_run, between_of, between, changed_of, fault_of, change_of}
use Rattle.editions.specs.declared.Fault.{Fault}
use Rattle.editions.specs.declared.Which.{Which}
use Rattle.editions.specs.declared.Which.TheVariants.{Older, Newer}
use Rattle.editions.specs.View.{front_at, back_at}
use Rattle.editions.proofs.RunLaws.{runs_fit}

module _ (older os newer ns : List ℕ) (k r : ℕ) (e : k ≡ front_at older os newer ns) (d : r ≡ back_at older os newer ns) where
  abbrev ss : List ℕ
  ss = starts_at older os

  abbrev ts : List ℕ
  ts = starts_at newer ns

  fits : (k + r ≤ length os) × (k + r ≤ length ns)
  fits = runs_fit older os newer ns k e r d

  -- how many blocks are between the runs
  taken : between_of older newer ss ts ss ≡ length os - (k + r)
  taken = omega (arith, e, d, length-map os (line_start older))

  put : between_of older newer ss ts ts ≡ length ns - (k + r)
  put = omega (arith, e, d, length-map ns (line_start newer))

  -- a part begins behind the one run and ends where the other begins
  part-here : (w : Which) (text ps : List ℕ) (i j : ℕ) → i ≡ start_behind text ps k → j ≡ start_behind text ps (length ps - r) → part_in w i j ≡ between older newer ss ts w text (starts_at text ps)
  part-here w text ps i j u v =
      let n : length ps - r ≡ length (starts_at text ps) - back_run older newer ss ts = omega (arith, d, length-map ps (line_start text)) in
      ap₂ (part_in w) (u ∙ ap (start_behind text ps) e) (v ∙ ap (start_behind text ps) n)

  module _ (i j : ℕ) where
    pub part-older : i ≡ start_behind older os k → j ≡ start_behind older os (length os - r) → k + r ≡ length ns → (k + r ≡ length os → ⊥) → part_in Older i j ≡ changed_of older newer ss ts
    unfolding changed_of
    part-older u v h g =
        rw (eq-eqb (between_of older newer ss ts ts) 0 (omega (arith, put, h)), ne_eqb (between_of older newer ss ts ss) 0 (λ z. g (omega (arith, z, taken, fits.0))))
        (part-here Older older os i j u v)

    module _ (u : i ≡ start_behind newer ns k) (v : j ≡ start_behind newer ns (length ns - r)) where
      pub part-new : (k + r ≡ length ns → ⊥) → part_in Newer i j ≡ changed_of older newer ss ts
      unfolding changed_of
      part-new h = rw (ne_eqb (between_of older newer ss ts ts) 0 (λ z. h (omega (arith, z, put, fits.1)))) (part-here Newer newer ns i j u v)

      pub part_same : k + r ≡ length ns → k + r ≡ length os → part_in Newer i j ≡ changed_of older newer ss ts
      unfolding changed_of
      part_same h g =
          rw (eq-eqb (between_of older newer ss ts ts) 0 (omega (arith, put, h)), eq-eqb (between_of older newer ss ts ss) 0 (omega (arith, taken, g)))
          (part-here Newer newer ns i j u v)

-- ---- the whole answer
module _ (limit : ℕ) (lim : Limits) (l e : ℕ) (older og newer ng : List ℕ) (a : Fault) (p : a ≡ fault_of limit lim l e older og) where
  pub change-older : (a.number ≡ 0 → ⊥) → refused_in Older a ≡ change_of limit lim l e older og newer ng
  unfolding change_of
  change-older z = rw (← p, ne_eqb a.number 0 z)

  module _ (z : a.number ≡ 0) (m k : ℕ) (i : m ≡ l) (j : k ≡ e) (b : Fault) (q : b ≡ fault_of limit lim m k newer ng) where
    second : b ≡ fault_of limit lim l e newer ng
    second = q ∙ ap₂ (λ (x y : ℕ). fault_of limit lim x y newer ng) i j

    pub change-newer : (b.number ≡ 0 → ⊥) → refused_in Newer b ≡ change_of limit lim l e older og newer ng
    unfolding change_of
    change-newer y = rw (← p, ← second, eq-eqb a.number 0 z, ne_eqb b.number 0 y)

    pub change-done : b.number ≡ 0 → changed_of older newer (starts_of older (all_of og)) (starts_of newer (all_of ng)) ≡ change_of limit lim l e older og newer ng
    unfolding change_of
    change-done y = rw (← p, ← second, eq-eqb a.number 0 z, eq-eqb b.number 0 y)
