-- What the walk's events show of the top-level blocks, between two blocks of the text's own level. Assumes nothing.
use mathlib.Core.Path.{◌≡◌}
use mathlib.Core.Logic.{◌⊎◌}
use mathlib.Core.Bool.{true}
use mathlib.Core.List.{List, [], ◌∷◌, ◌++◌}
use Prim.Native.Nat.{ℕ}
use Rattle.events.specs.State.{State}
use Rattle.events.specs.declared.Event.{Event}
use Rattle.tops.specs.Tops.{is_around, open_of, starts_from}
use Rattle.theorems.proofs.Nests.{Frame, flat}
use Rattle.theorems.proofs.TreeLevel.{Bare, Listing}

-- how many nodes other than Document and Sections are open behind these events
unfoldable pub open_all : ℕ → List Event → ℕ
open_all n [] = n
open_all n (x ∷ xs) = open_all (open_of n x) xs

-- these events begin blocks at ss, and leave n such nodes open
pub record Shows (text ss : List ℕ) (n : ℕ) (xs : List Event) : Type 0 where
  pub starts : starts_from text 0 xs ≡ ss
  pub opn : open_all 0 xs ≡ n

-- every open event is Document's or a Section's
abbrev pub Arounds : List Frame → Type 0
Arounds [] = Unit {0}
Arounds (f ∷ fs) = (is_around f.enter.node ≡ true) × Arounds fs

-- no list is open
pub record TopBare (text ss : List ℕ) (left : ℕ) (s : State) : Type 0 where
  pub bare : Bare text true [] [] left s
  pub arounds : Arounds bare.frames
  pub shows : Shows text ss 0 (flat bare.frames ++ bare.behind)

-- a list is open
pub record TopListing (text ss : List ℕ) (left : ℕ) (s : State) : Type 0 where
  pub listing : Listing text true [] [] left s
  pub arounds : Arounds listing.frames
  pub shows : Shows text ss 1 (flat (listing.frame ∷ listing.frames) ++ listing.behind)

abbrev pub TopGrows : List ℕ → List ℕ → ℕ → State → Type 0
TopGrows text ss left s = TopBare text ss left s ⊎ TopListing text ss left s
