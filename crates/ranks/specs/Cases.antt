-- Ranks by the definition (RULES J9). Assumes nothing.
use Rattle.std.specs.Prelude.{◌≡◌, refl, [], ◌∷◌, ℕ}
use Rattle.trim.specs.Trim.{part_of}
use Rattle.sets.specs.Layout.{Listed}
use Rattle.keys.specs.Keys.{key_by, is_keyed}
use Rattle.equals.specs.Same.{same}
use Rattle.ranks.specs.Ranks.{seen, last_place, ranks_from, ranks_of}

abbrev element : ℕ → ℕ → ℕ → Listed
element k a e = record { kind = k; from = a; to = e; first = 0; past = 0 }

pub cases :
    -- `{(k=1.a k=2 %c%).b j=3 k=4}`, the bytes being `kj`: k shows at 0 and is last at 6, `class` shows at 1 and is last at 4, j shows at 5
    (ranks_of (107 ∷ 106 ∷ []) (element 3 0 1 ∷ element 1 1 1 ∷ element 3 0 1 ∷ element 4 1 1 ∷ element 1 1 1 ∷ element 3 1 2 ∷ element 3 0 1 ∷ []) ≡ 7 ∷ 5 ∷ 0 ∷ 0 ∷ 0 ∷ 6 ∷ 0 ∷ [])
    -- `{#a.b id=c}`: a pair's key may be an id's
    × (ranks_of (105 ∷ 100 ∷ []) (element 2 0 0 ∷ element 1 0 0 ∷ element 3 0 2 ∷ []) ≡ 3 ∷ 2 ∷ 0 ∷ [])
    -- a comment has no key, be it that of its bytes
    × (ranks_of (107 ∷ []) (element 4 0 1 ∷ element 3 0 1 ∷ []) ≡ 0 ∷ 2 ∷ [])
unfolding part_of key_by is_keyed same seen last_place ranks_from
cases = (refl, refl, refl)
