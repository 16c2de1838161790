-- What the code's state and the event words show of the definition's state, once the stacks are gone. Assumes nothing.
use Rattle.std.specs.Prelude.{ℕ, ◌≤◌, ◌≡◌, List, length, take}
use Rattle.events.specs.State.{State}
use Rattle.events.specs.declared.St.{St}

pub record Shows (r : St) (e : List ℕ) (s : State) : Type 0 where
  pub words : r.words ≤ length e
  pub evs : take r.words e ≡ s.evs
  pub looks : r.looks ≡ s.looks
  pub place : r.at ≡ s.at
  pub number : r.number ≡ s.number
