-- A block before its own events, one law a return. Assumes nothing.
use Prim.Native.Nat.{ℕ}
use mathlib.Core.Path.{◌≡◌, sym, ◌∙◌}
use mathlib.Core.Bool.{Bool}
use Rattle.events.specs.State.{State, go}
use Rattle.events.proofs.GoLaws.{go_on, go-stop}
use Rattle.walk.specs.Tree.{count_of, admit_of, settle_of, loosen_of, ready_of}
use Rattle.walk.specs.declared.Limits.{Limits}
use Rattle.walk.specs.declared.Met.{Met}

module _ (lim : Limits) (left : ℕ) (top : Bool) (m : Met) (at n : ℕ) (s a : State) (p : a ≡ count_of at n s) where
  counted : ready_of lim left top m at n s ≡ go a (λ x. go (admit_of lim left top m x) (λ y. go (settle_of m y) (loosen_of m)))
  unfolding ready_of
  counted = rw (← p)

  pub ready-1 : (a.number ≡ 0 → ⊥) → a ≡ ready_of lim left top m at n s
  ready-1 z = sym (counted ∙ go-stop a _ z)

  module _ (za : a.number ≡ 0) (b : State) (q : b ≡ admit_of lim left top m a) where
    admitted : ready_of lim left top m at n s ≡ go b (λ y. go (settle_of m y) (loosen_of m))
    admitted = counted ∙ go_on a _ za ∙ rw (← q)

    pub ready-2 : (b.number ≡ 0 → ⊥) → b ≡ ready_of lim left top m at n s
    ready-2 z = sym (admitted ∙ go-stop b _ z)

    module _ (zb : b.number ≡ 0) (c : State) (r : c ≡ settle_of m b) where
      settled : ready_of lim left top m at n s ≡ go c (loosen_of m)
      settled = admitted ∙ go_on b _ zb ∙ rw (← r)

      pub ready-3 : (c.number ≡ 0 → ⊥) → c ≡ ready_of lim left top m at n s
      ready-3 z = sym (settled ∙ go-stop c _ z)

      pub ready-4 : c.number ≡ 0 → loosen_of m c ≡ ready_of lim left top m at n s
      ready-4 z = sym (settled ∙ go_on c _ z)
