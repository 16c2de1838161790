-- The tree at a level of the walk, between two of its blocks: no list is open there, or one. Assumes nothing.
use mathlib.Core.Path.{◌≡◌}
use mathlib.Core.Logic.{◌⊎◌}
use mathlib.Core.Bool.{Bool, true, false}
use mathlib.Core.List.{List, [], ◌∷◌}
use Prim.Native.Nat.{ℕ, suc, ◌+◌, ◌-◌, ◌*◌, ◌≤◌, ◌<◌}
use lib.ListN.{length}
use Rattle.kinds.specs.declared.Kind.{Kind}
use Rattle.measure.specs.Continue.{kind_num, level_of}
use Rattle.events.specs.State.{State}
use Rattle.events.specs.declared.Event.{Event}
use Rattle.lists.specs.declared.OpenList.{OpenList}
use Rattle.walk.specs.Fields.{is_container}
use Rattle.theorems.proofs.Nests.{Frame}
use Rattle.theorems.proofs.Trees.{Tree, Alike, Typed, AllTyped, lists_words, Led, Attributed}

-- the innermost list around has its Enter outside of n open events
abbrev pub Outside : List OpenList → ℕ → Type 0
Outside [] n = Unit {0}
Outside (o ∷ os) n = o.depth < n

-- fs are the open events of a level that began with those of own, with so much nesting left: Document's and the sections' at the top
pub record Stands (top : Bool) (own fs : List Frame) (left : ℕ) (s : State) : Type 0 where
  pub alike : top ≡ false → Alike own fs
  pub secs : top ≡ true → (length fs ≡ suc (length s.sec)) × (length s.sec ≤ 32)
  pub some : 1 ≤ length fs
  pub room : length fs + 2 * left ≤ 97

-- no list is open at the level; os are the lists around it
pub record Bare (text : List ℕ) (top : Bool) (own : List Frame) (os : List OpenList) (left : ℕ) (s : State) : Type 0 where
  pub frames : List Frame
  pub behind : List Event
  pub tree : Tree text frames behind s
  pub stands : Stands top own frames left s
  pub typed : AllTyped frames os
  pub outside : Outside os (length frames)
  pub lst : s.lst ≡ lists_words os
  pub led : Led (100 - length frames) behind
  pub attrs : top ≡ true → Attributed frames behind s

-- a list is open: its Enter is the innermost open event, and no attributes are just before
pub record Listing (text : List ℕ) (top : Bool) (own : List Frame) (os : List OpenList) (left : ℕ) (s : State) : Type 0 where
  pub frame : Frame
  pub frames : List Frame
  pub behind : List Event
  pub list : OpenList
  pub tree : Tree text (frame ∷ frames) behind s
  pub stands : Stands top own frames left s
  pub typed : AllTyped frames os
  pub outside : Outside os (length frames)
  pub this : Typed (frame ∷ frames) list
  pub depth : list.depth ≡ suc (length frames)
  pub lst : s.lst ≡ lists_words (list ∷ os)
  pub led : Led (100 - length frames) frame.before
  pub attr : top ≡ true → s.attr ≡ 0

abbrev pub Grows : List ℕ → Bool → List Frame → List OpenList → ℕ → State → Type 0
Grows text top own os left s = Bare text top own os left s ⊎ Listing text top own os left s

-- a block of kind k that is ready for its own events: what is no item closed the list, if one was open
pub record Ready (text : List ℕ) (top : Bool) (own : List Frame) (os : List OpenList) (left : ℕ) (k : Kind) (s a : State) : Type 0 where
  pub grows : Grows text top own os left a
  pub bare : (kind_num k ≡ 9 → ⊥) → Bare text top own os left a
  pub level : kind_num k ≡ 5 → level_of k ≤ 65535
  pub more : is_container k ≡ true → left ≡ 0 → ⊥
  pub sec : a.sec ≡ s.sec

-- a block, or many: sections change at the top only
pub record Walked (text : List ℕ) (top : Bool) (own : List Frame) (os : List OpenList) (left : ℕ) (s r : State) : Type 0 where
  pub grows : Grows text top own os left r
  pub sec : top ≡ false → r.sec ≡ s.sec
