-- What changed between some editions whose blocks start at the places given, and which event is astray, computed by the definition. Assumes nothing.
use Rattle.std.specs.Prelude.{◌≡◌, refl, List, [], ◌∷◌, ℕ}
use Rattle.equals.specs.Same.{same}
use Rattle.trim.specs.Trim.{part_of}
use Rattle.events.specs.Pack.{is_stale}
use Rattle.events.specs.declared.Event.{Event}
use Rattle.tops.specs.Tops.{blocks_of}
use Rattle.editions.specs.Editions.{fault, stray, same_event, against_of, front_of, back_of, part_in, front_run, back_run, changed_of}
use Rattle.editions.specs.declared.Which.TheVariants.{Older, Newer}

-- `a\n`, `b\n`, `a\n\na\n`, `a\n\nb\n`, `a\n\nc\n\nb\n`
abbrev a : List ℕ
a = 97 ∷ 10 ∷ []

abbrev b : List ℕ
b = 98 ∷ 10 ∷ []

abbrev twice : List ℕ
twice = 97 ∷ 10 ∷ 10 ∷ 97 ∷ 10 ∷ []

abbrev two : List ℕ
two = 97 ∷ 10 ∷ 10 ∷ 98 ∷ 10 ∷ []

abbrev three : List ℕ
three = 97 ∷ 10 ∷ 10 ∷ 99 ∷ 10 ∷ 10 ∷ 98 ∷ 10 ∷ []

abbrev starts : List ℕ
starts = 0 ∷ 2 ∷ 3 ∷ []

abbrev more : List ℕ
more = 0 ∷ 2 ∷ 3 ∷ 5 ∷ 6 ∷ []

pub changes :
    -- the same, also of nothing: an empty part at the end of the newer (Z4)
    (changed_of two two starts starts ≡ part_in Newer 5 5)
    × (changed_of [] [] [] [] ≡ part_in Newer 0 0)
    -- a block changed; a block and a blank line put in, and taken out (Z4)
    × (changed_of a b (0 ∷ []) (0 ∷ []) ≡ part_in Newer 0 2)
    × (changed_of two three starts more ≡ part_in Newer 3 6)
    × (changed_of three two more starts ≡ part_in Older 3 6)
    -- all put in, all taken out
    × (changed_of [] a [] (0 ∷ []) ≡ part_in Newer 0 2)
    × (changed_of a [] (0 ∷ []) [] ≡ part_in Older 0 2)
    -- the front run first: it is the second `a` that was taken out (Z3)
    × (changed_of twice a starts (0 ∷ []) ≡ part_in Older 2 5)
unfolding same part_of blocks_of front_of back_of front_run back_run changed_of
changes = (refl, refl, refl, refl, refl, refl, refl, refl)

-- a Stale event, an Inline, and what has role 0 and is not Stale
abbrev event : ℕ → ℕ → Event
event role start = record { role = role; node = 0; start = start; end = start; a = 0; b = 0; c = 0; d = 0 }

pub strays :
    (against_of 0 (event 0 0 ∷ event 3 1 ∷ event 0 0 ∷ []) (event 3 1 ∷ []) ≡ fault 0 0)
    -- the index counts Stale events; a list that ends early is astray where it ends (Z5)
    × (against_of 0 (event 0 0 ∷ event 3 1 ∷ []) (event 3 2 ∷ []) ≡ stray 1)
    × (against_of 0 (event 3 1 ∷ event 0 0 ∷ []) (event 3 1 ∷ event 3 2 ∷ []) ≡ stray 2)
    × (against_of 0 (event 3 1 ∷ event 3 2 ∷ []) (event 3 1 ∷ []) ≡ stray 1)
    × (against_of 0 (event 0 1 ∷ event 3 1 ∷ []) (event 3 1 ∷ []) ≡ stray 0)
unfolding is_stale same_event against_of
strays = (refl, refl, refl, refl, refl)
