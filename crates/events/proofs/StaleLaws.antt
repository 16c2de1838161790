-- Which events are Stale, and what is left without them. Assumes nothing.
use mathlib.Core.Path.{◌≡◌}
use mathlib.Core.Bool.{Bool, true, false}
use mathlib.Core.List.{List, ◌∷◌}
use Prim.Native.Nat.{ℕ}
use native.Mathlib.Omega.{arith}
use lib.Dec.{eqb}
use borrow.Author.Tests.{eq-eqb, ne_eqb, eqb-true}
use Rattle.classes.specs.Choice.{both}
use Rattle.classes.proofs.ChoiceLaws.{true-left, true-right}
use Rattle.events.specs.Pack.{is_stale, live_of}
use Rattle.events.specs.declared.Event.{Event}

-- ---- one event
-- a word that is not zero: the words before it are
module _ (x : Event) where
  pub stale-1 : (x.role ≡ 0 → ⊥) → false ≡ is_stale x
  unfolding is_stale
  stale-1 h = rw (ne_eqb x.role 0 h)

  module _ (e1 : x.role ≡ 0) where
    pub stale-2 : (x.node ≡ 0 → ⊥) → false ≡ is_stale x
    unfolding is_stale
    stale-2 h = rw (eq-eqb x.role 0 e1, ne_eqb x.node 0 h)

    module _ (e2 : x.node ≡ 0) where
      pub stale-3 : (x.start ≡ 0 → ⊥) → false ≡ is_stale x
      unfolding is_stale
      stale-3 h = rw (eq-eqb x.role 0 e1, eq-eqb x.node 0 e2, ne_eqb x.start 0 h)

      module _ (e3 : x.start ≡ 0) where
        pub stale-4 : (x.end ≡ 0 → ⊥) → false ≡ is_stale x
        unfolding is_stale
        stale-4 h = rw (eq-eqb x.role 0 e1, eq-eqb x.node 0 e2, eq-eqb x.start 0 e3, ne_eqb x.end 0 h)

        module _ (e4 : x.end ≡ 0) where
          pub stale-5 : (x.a ≡ 0 → ⊥) → false ≡ is_stale x
          unfolding is_stale
          stale-5 h = rw (eq-eqb x.role 0 e1, eq-eqb x.node 0 e2, eq-eqb x.start 0 e3, eq-eqb x.end 0 e4, ne_eqb x.a 0 h)

          module _ (e5 : x.a ≡ 0) where
            pub stale-6 : (x.b ≡ 0 → ⊥) → false ≡ is_stale x
            unfolding is_stale
            stale-6 h = rw (eq-eqb x.role 0 e1, eq-eqb x.node 0 e2, eq-eqb x.start 0 e3, eq-eqb x.end 0 e4, eq-eqb x.a 0 e5, ne_eqb x.b 0 h)

            module _ (e6 : x.b ≡ 0) where
              pub stale-7 : (x.c ≡ 0 → ⊥) → false ≡ is_stale x
              unfolding is_stale
              stale-7 h = rw (eq-eqb x.role 0 e1, eq-eqb x.node 0 e2, eq-eqb x.start 0 e3, eq-eqb x.end 0 e4, eq-eqb x.a 0 e5, eq-eqb x.b 0 e6, ne_eqb x.c 0 h)

              pub stale-8 : x.c ≡ 0 → eqb x.d 0 ≡ is_stale x
              unfolding is_stale
              stale-8 e7 = rw (eq-eqb x.role 0 e1, eq-eqb x.node 0 e2, eq-eqb x.start 0 e3, eq-eqb x.end 0 e4, eq-eqb x.a 0 e5, eq-eqb x.b 0 e6, eq-eqb x.c 0 e7)

-- an event with a role
pub role-live : (x : Event) → (x.role ≡ 0 → ⊥) → is_stale x ≡ false
unfolding is_stale
role-live x h = rw (ne_eqb x.role 0 h)

pub enter-live : (x : Event) → x.role ≡ 1 → is_stale x ≡ false
enter-live x r = role-live x (λ z. omega (arith, r, z))

pub exit_live : (x : Event) → x.role ≡ 2 → is_stale x ≡ false
exit_live x r = role-live x (λ z. omega (arith, r, z))

zero-both : (v : ℕ) (t : Bool) → both (eqb v 0) t ≡ true → (v ≡ 0) × (t ≡ true)
zero-both v t e = (eqb-true v 0 (true-left (eqb v 0) t e), true-right (eqb v 0) t e)

-- of a Stale event
pub stale-words : (x : Event) → is_stale x ≡ true
    → (x.role ≡ 0) × (x.node ≡ 0) × (x.start ≡ 0) × (x.end ≡ 0) × (x.a ≡ 0) × (x.b ≡ 0) × (x.c ≡ 0) × (x.d ≡ 0)
unfolding is_stale
stale-words x e =
    let p = zero-both x.role _ e in
    let q = zero-both x.node _ p.1 in
    let r = zero-both x.start _ q.1 in
    let s = zero-both x.end _ r.1 in
    let t = zero-both x.a _ s.1 in
    let u = zero-both x.b _ t.1 in
    let v = zero-both x.c _ u.1 in
    (p.0, q.0, r.0, s.0, t.0, u.0, v.0, eqb-true x.d 0 v.1)

-- ---- one event left out, or kept
module _ (x : Event) (xs : List Event) where
  pub live-stale : is_stale x ≡ true → live_of (x ∷ xs) ≡ live_of xs
  unfolding live_of
  live-stale p = rw p

  pub live-keep : is_stale x ≡ false → live_of (x ∷ xs) ≡ x ∷ live_of xs
  unfolding live_of
  live-keep p = rw p
