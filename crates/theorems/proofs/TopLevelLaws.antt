-- The text's own level after a step that leaves what is open, but for bodies: which top-level blocks its events show. Assumes nothing.
use mathlib.Core.Path.{◌≡◌, ◌∙◌}
use mathlib.Core.Logic.{inl, inr}
use mathlib.Core.Bool.{true}
use mathlib.Core.List.{List, [], ◌∷◌, ◌++◌}
use Prim.Native.Nat.{ℕ, ◌-◌}
use lib.ListN.{length}
use Rattle.events.specs.State.{State}
use Rattle.events.specs.declared.Event.{Event}
use Rattle.theorems.proofs.Nests.{Frame, flat}
use Rattle.theorems.proofs.Trees.{Tree, Alike, Led, Attributed}
use Rattle.theorems.proofs.TreeSteps.{tree-beside, Besides}
use Rattle.theorems.proofs.ListTree.{alike_refl}
use Rattle.theorems.proofs.TreeLevelLaws.{bare-on, listing-on, bare-as}
use Rattle.theorems.proofs.Tops.{Shows, TopBare, TopListing, TopGrows}
use Rattle.theorems.proofs.TopLaws.{shows_alike, arounds-alike}

-- ---- the same level but for its events and the bodies of what is open
module _ (text ss : List ℕ) (left : ℕ) (s r : State) where
  -- ts are the blocks after it
  pub bare-on-tops : (ts : List ℕ) (b : TopBare text ss left s) (es : List Frame) (g : List Event) → Alike b.bare.frames es → Tree text es g r → r.lst ≡ s.lst → r.sec ≡ s.sec
      → Led (100 - length es) g → (true ≡ true → Attributed es g r) → Shows text ts 0 (flat es ++ g) → TopBare text ts left r
  unfolding bare-on
  bare-on-tops ts b es g a t e k h z p = record { bare = bare-on text true [] [] left s r b.bare es g a t e k h z; arounds = arounds-alike b.bare.frames es a b.arounds; shows = p }

  pub listing-on-tops : (ts : List ℕ) (b : TopListing text ss left s) (es : List Frame) (g : List Event) → Alike (b.listing.frame ∷ b.listing.frames) es → Tree text es g r → r.lst ≡ s.lst
      → r.sec ≡ s.sec → (true ≡ true → r.attr ≡ 0) → Shows text ts 1 (flat es ++ g) → TopListing text ts left r
  unfolding listing-on
  listing-on-tops ts b [] g a t e k z p = absurd a
  listing-on-tops ts b (f ∷ es) g a t e k z p =
      record { listing = listing-on text true [] [] left s r b.listing (f ∷ es) g a t e k z; arounds = arounds-alike b.listing.frames es a.2 b.arounds; shows = p }

  -- the same events
  pub bare-as-tops : (es : List Frame) (b : TopBare text ss left s) → Tree text es b.bare.behind r → Alike b.bare.frames es → Besides s r → TopBare text ss left r
  unfolding bare-as bare-on
  bare-as-tops es b t a e = record {
    bare = bare-as text true [] [] left s r es b.bare t a e;
    arounds = arounds-alike b.bare.frames es a b.arounds;
    shows = shows_alike text ss 0 b.bare.frames es b.bare.behind a b.shows;
  }

  pub listing-as-tops : (es : List Frame) (b : TopListing text ss left s) → Tree text es b.listing.behind r → Alike (b.listing.frame ∷ b.listing.frames) es → Besides s r
      → TopListing text ss left r
  listing-as-tops es b t a e =
      let l = b.listing in
      listing-on-tops ss b es l.behind a t e.0 e.1 (λ p. e.2 ∙ l.attr p) (shows_alike text ss 1 (l.frame ∷ l.frames) es l.behind a b.shows)

  -- what is open too
  pub bare-beside-tops : r.evs ≡ s.evs → r.opn ≡ s.opn → Besides s r → TopBare text ss left s → TopBare text ss left r
  bare-beside-tops p q e b =
      let fs = b.bare.frames in
      bare-as-tops fs b (tree-beside text fs b.bare.behind s r p q b.bare.tree) (alike_refl fs) e

  pub grows-beside-tops : r.evs ≡ s.evs → r.opn ≡ s.opn → Besides s r → TopGrows text ss left s → TopGrows text ss left r
  grows-beside-tops p q e (inl b) = inl (bare-beside-tops p q e b)
  grows-beside-tops p q e (inr b) =
      let l = b.listing in
      let fs = l.frame ∷ l.frames in
      inr (listing-as-tops fs b (tree-beside text fs l.behind s r p q l.tree) (alike_refl fs) e)
