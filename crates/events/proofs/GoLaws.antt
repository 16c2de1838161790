-- A step goes on, or a refusal stops it. Assumes nothing.
use mathlib.Core.Path.{◌≡◌}
use borrow.Author.Tests.{eq-eqb, ne_eqb}
use Rattle.events.specs.State.{State, go}

pub go_on : (s : State) (f : State → State) → s.number ≡ 0 → go s f ≡ f s
unfolding go
go_on s f e = rw (eq-eqb s.number 0 e)

pub go-stop : (s : State) (f : State → State) → (s.number ≡ 0 → ⊥) → go s f ≡ s
unfolding go
go-stop s f e = rw (ne_eqb s.number 0 e)
