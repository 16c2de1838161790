-- What is open at a level of the walk: its own events, at the top the sections', and at most one list. Assumes nothing.
use mathlib.Core.Path.{◌≡◌}
use mathlib.Core.Logic.{◌⊎◌}
use mathlib.Core.Bool.{Bool, true, false}
use mathlib.Core.List.{List, [], ◌∷◌, ◌++◌}
use Prim.Native.Nat.{ℕ, ◌+◌, ◌-◌, ◌<◌}
use lib.ListN.{length, get_or}
use Rattle.classes.specs.Choice.{pick}
use Rattle.kinds.specs.declared.Kind.{Kind}
use Rattle.measure.specs.Continue.{kind_num}
use Rattle.events.specs.State.{State}
use Rattle.lists.specs.Lists.{list_words}
use Rattle.lists.specs.declared.OpenList.{OpenList}
use Rattle.theorems.specs.Lists.{goes_on}

-- the innermost of the lists around a level has its Enter further out than n open events
abbrev pub Around : List ℕ → ℕ → Type 0
Around l n = (length l ≡ 0 → ⊥) → get_or l (length l - 5 + 4) 0 < n

-- no list is open at the level that has the open events p and the lists l around it
pub record None (top : Bool) (p l : List ℕ) (s : State) : Type 0 where
  pub secs : List ℕ
  pub opn : s.opn ≡ p ++ secs
  pub count : length secs ≡ pick top (length s.sec) 0
  pub lst : s.lst ≡ l

-- one is, behind those events
pub record Here (top : Bool) (p l : List ℕ) (s : State) : Type 0 where
  pub secs : List ℕ
  pub enter : ℕ
  pub list : OpenList
  pub opn : s.opn ≡ p ++ (secs ++ (enter ∷ []))
  pub count : length secs ≡ pick top (length s.sec) 0
  pub lst : s.lst ≡ l ++ list_words list
  pub depth : list.depth ≡ length s.opn

abbrev pub Level : Bool → List ℕ → List ℕ → State → Type 0
Level top p l s = None top p l s ⊎ Here top p l s

-- a block of kind k between two states of a level
pub record Between (top : Bool) (p l : List ℕ) (k : Kind) (s r : State) : Type 0 where
  pub level : Level top p l r
  -- a list is open behind an item only
  pub none : (kind_num k ≡ 9 → ⊥) → None top p l r
  -- one that goes on has the same Enter
  pub on : Here top p l s → goes_on k s ≡ true → Here top p l r × (r.opn ≡ s.opn)
  -- sections change at the top only
  pub secs : top ≡ false → r.sec ≡ s.sec
