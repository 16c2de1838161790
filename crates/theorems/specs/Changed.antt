-- What an accepted comparison of two editions says of both texts and their events (RULES Z1 to Z5). Assumes nothing.
use Rattle.std.specs.Prelude.{◌≡◌, List, ◌++◌, ℕ, ◌+◌, ◌-◌, ◌*◌, ◌≤◌, length, take, drop}
use Rattle.trim.specs.Trim.{part_of}
use Rattle.events.specs.Names.{largest}
use Rattle.events.specs.Events.{width}
use Rattle.events.specs.Pack.{all_of, live_in}
use Rattle.walk.specs.declared.Limits.{Limits}
use Rattle.tops.specs.Tops.{starts_of, blocks_of}
use Rattle.editions.specs.Editions.{again_of, place_behind, front_run, back_run, between_of, between}
use Rattle.editions.specs.declared.Which.TheVariants.{Older, Newer}
use Rattle.editions.specs.declared.Change.{Change}
use Rattle.theorems.specs.Covers.{Covers, joined}

-- the bytes before start are a text's first blocks, those from end on its last, and the part is the others; ss: where its blocks start
pub record Parted (text ss : List ℕ) (front back start end : ℕ) : Type 0 where
  pub before : take start text ≡ joined (take front (blocks_of text ss))
  pub part : part_of text start end ≡ joined (take (length ss - front - back) (drop front (blocks_of text ss)))
  pub behind : drop end text ≡ joined (drop (length ss - back) (blocks_of text ss))
  pub whole : take start text ++ (part_of text start end ++ drop end text) ≡ text
  pub order : start ≤ end
  pub within : end ≤ length text

-- a text that is accepted, with its parse's events, Stale aside; their blocks cover it (Z5)
pub record Edition (lim : Limits) (l e : ℕ) (text given : List ℕ) : Type 0 where
  pub accepted : (again_of largest lim l e text).answer.number ≡ 0
  pub events : let p = again_of largest lim l e text in live_in given ≡ live_in (take (width * p.answer.count) p.events)
  pub covers : Covers (length text) (starts_of text (all_of given))

-- of two texts whose blocks start at os and ns
module _ (older newer os ns : List ℕ) where
  abbrev F : ℕ
  F = front_run older newer os ns

  abbrev B : ℕ
  B = back_run older newer os ns

  -- the two runs are equal blocks, each as many as there can be, the second of what the first leaves; they do not overlap, and part both texts (Z3)
  pub record Runs : Type 0 where
    pub front : take F (blocks_of older os) ≡ take F (blocks_of newer ns)
    pub back : drop (length os - B) (blocks_of older os) ≡ drop (length ns - B) (blocks_of newer ns)
    pub front-most : (k : ℕ) → k ≤ length os → k ≤ length ns → take k (blocks_of older os) ≡ take k (blocks_of newer ns) → k ≤ F
    pub back-most : (k : ℕ) → F + k ≤ length os → F + k ≤ length ns → drop (length os - k) (blocks_of older os) ≡ drop (length ns - k) (blocks_of newer ns) → k ≤ B
    pub apart : (F + B ≤ length os) × (F + B ≤ length ns)
    pub older-parted : Parted older os F B (place_behind older os F) (place_behind older os (length os - B))
    pub newer-parted : Parted newer ns F B (place_behind newer ns F) (place_behind newer ns (length ns - B))

  -- the answer is the part of the text that it names: of the older one where it has blocks between the runs and the newer one has none (Z4)
  pub record Told (c : Change) : Type 0 where
    pub older-told : c.which ≡ Older → (c ≡ between older newer os ns Older older os) × (between_of older newer os ns ns ≡ 0) × (between_of older newer os ns os ≡ 0 → ⊥)
    pub newer-told : c.which ≡ Newer → (c ≡ between older newer os ns Newer newer ns) × (between_of older newer os ns ns ≡ 0 → between_of older newer os ns os ≡ 0)

-- a comparison in l line words and e event words that was answered by the part c
pub record Compared (lim : Limits) (l e : ℕ) (older og newer ng : List ℕ) (c : Change) : Type 0 where
  pub older-is : Edition lim l e older og
  pub newer-is : Edition lim l e newer ng
  pub runs : Runs older newer (starts_of older (all_of og)) (starts_of newer (all_of ng))
  pub told : Told older newer (starts_of older (all_of og)) (starts_of newer (all_of ng)) c
