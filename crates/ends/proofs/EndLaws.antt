-- The final closings: one law a turn, one a return. Assumes nothing.
use Prim.Native.Nat.{ℕ, suc, ◌-◌, ◌*◌, ◌/◌, ◌≤◌, ◌<◌}
use mathlib.Core.Path.{◌≡◌, refl, sym, ap, ◌∙◌}
use mathlib.Core.List.{List}
use native.Mathlib.Omega.{arith}
use lib.ListN.{length, take}
use lib.Seq.{length-take-le}
use Rattle.events.specs.State.{State, with_at, go}
use Rattle.events.specs.Events.{exit_of}
use Rattle.events.specs.View.{view, Fits}
use Rattle.events.specs.declared.St.{St}
use Rattle.events.proofs.GoLaws.{go_on, go-stop}
use Rattle.lists.specs.Lists.{close_list_of}
use Rattle.lists.proofs.ListLaws.{view-lists}
use Rattle.walk.specs.Document.{close_lists, close_sections, close_all}

-- ---- lists
lists-step : (pos n : ℕ) (s : State) → close_lists pos (suc n) s ≡ go (close_list_of pos s) (close_lists pos n)
unfolding close_lists
lists-step pos n s = refl

lists-none : (pos : ℕ) (s : State) → close_lists pos 0 s ≡ s
unfolding close_lists
lists-none pos s = refl

module _ (pos left : ℕ) (s : State) where
  pub lists-end : left ≤ 0 → close_lists pos left s ≡ s
  lists-end h = let e : left ≡ 0 = omega arith in ap (λ (n : ℕ). close_lists pos n s) e ∙ lists-none pos s

  module _ (h : 0 < left) (b : State) (p : b ≡ close_list_of pos s) where
    lists-go : close_lists pos left s ≡ go b (close_lists pos (left - 1))
    lists-go =
        let e : left ≡ suc (left - 1) = omega arith in
        ap (λ (n : ℕ). close_lists pos n s) e ∙ lists-step pos (left - 1) s ∙ ap (λ (y : State). go y (close_lists pos (left - 1))) (sym p)

    pub lists-on : b.number ≡ 0 → close_lists pos left s ≡ close_lists pos (left - 1) b
    lists-on z = lists-go ∙ go_on b (close_lists pos (left - 1)) z

    pub lists-stop : (b.number ≡ 0 → ⊥) → close_lists pos left s ≡ b
    lists-stop z = lists-go ∙ go-stop b (close_lists pos (left - 1)) z

-- what is left to close gives the same
pub record Lists (pos : ℕ) (ev0 sk ls : List ℕ) (st : St) (n : ℕ) (ev : List ℕ) (a : St) (left : ℕ) : Type 0 where
  pub size : length ev ≡ length ev0
  pub fits : Fits a ev sk
  pub lists : a.lists * 5 ≤ length ls
  pub sections : a.sections ≡ st.sections
  pub same : (v : List ℕ) → close_lists pos left (view a ev sk ls v) ≡ close_lists pos n (view st ev0 sk ls v)

-- ---- sections
sections-step : (pos n : ℕ) (s : State) → close_sections pos (suc n) s ≡ go (exit_of pos pos s) (close_sections pos n)
unfolding close_sections
sections-step pos n s = refl

sections-none : (pos : ℕ) (s : State) → close_sections pos 0 s ≡ s
unfolding close_sections
sections-none pos s = refl

module _ (pos left : ℕ) (s : State) where
  pub sections-end : left ≤ 0 → close_sections pos left s ≡ s
  sections-end h = let e : left ≡ 0 = omega arith in ap (λ (n : ℕ). close_sections pos n s) e ∙ sections-none pos s

  module _ (h : 0 < left) (b : State) (p : b ≡ exit_of pos pos s) where
    sections-go : close_sections pos left s ≡ go b (close_sections pos (left - 1))
    sections-go =
        let e : left ≡ suc (left - 1) = omega arith in
        ap (λ (n : ℕ). close_sections pos n s) e ∙ sections-step pos (left - 1) s ∙ ap (λ (y : State). go y (close_sections pos (left - 1))) (sym p)

    pub sections-on : b.number ≡ 0 → close_sections pos left s ≡ close_sections pos (left - 1) b
    sections-on z = sections-go ∙ go_on b (close_sections pos (left - 1)) z

    pub sections-stop : (b.number ≡ 0 → ⊥) → close_sections pos left s ≡ b
    sections-stop z = sections-go ∙ go-stop b (close_sections pos (left - 1)) z

-- ---- the Document
module _ (e : ℕ) (st : St) (ev sk ls v : List ℕ) (h : st.lists * 5 ≤ length ls) (d : St) (ev1 : List ℕ)
    (p : view d ev1 sk ls v ≡ close_lists e st.lists (with_at e (view st ev sk ls v))) where
  closing : close_all e (view st ev sk ls v) ≡ go (view d ev1 sk ls v) (λ (a : State). go (close_sections e (length a.sec) a) (exit_of e e))
  unfolding close_all
  closing =
      let q = view-lists st ls h ev sk v in
      let n : length (take (st.lists * 5) ls) / 5 ≡ st.lists = omega (arith, q) in
      rw (n, ← p)

  pub close-lists-stop : (d.number ≡ 0 → ⊥) → view d ev1 sk ls v ≡ close_all e (view st ev sk ls v)
  close-lists-stop z = sym (closing ∙ go-stop (view d ev1 sk ls v) _ z)

  module _ (z : d.number ≡ 0) (g : d.sections ≤ length v) (f : State) (q : f ≡ close_sections e d.sections (view d ev1 sk ls v)) where
    ending : close_all e (view st ev sk ls v) ≡ go f (exit_of e e)
    ending =
        let n : length (take d.sections v) ≡ d.sections = length-take-le d.sections v g in
        closing ∙ go_on (view d ev1 sk ls v) _ z ∙ rw (n, ← q)

    pub close-sections-stop : (f.number ≡ 0 → ⊥) → f ≡ close_all e (view st ev sk ls v)
    close-sections-stop y = sym (ending ∙ go-stop f (exit_of e e) y)

    pub close-on : f.number ≡ 0 → exit_of e e f ≡ close_all e (view st ev sk ls v)
    close-on y = sym (ending ∙ go_on f (exit_of e e) y)
