-- Pairs by the definition (RULES J9, J16). Assumes nothing.
use Rattle.std.specs.Prelude.{◌≡◌, refl, List, [], ◌∷◌, ℕ, replicate}
use Rattle.classes.specs.Classes.{within, is_space, is_name}
use Rattle.trim.specs.Trim.{kept, trim_end, part_of}
use Rattle.attrs.specs.Machine.{sign_class, class_of, next_of, step_of}
use Rattle.sets.specs.Given.{stays, left_by, given_from, verdict_from}
use Rattle.sets.specs.Opened.{finish, hold_all, open_of}
use Rattle.sets.specs.Layout.{listed, words_of}
use Rattle.keys.specs.Keys.{key_by, is_keyed, has_key}
use Rattle.equals.specs.Same.{same}
use Rattle.ranks.specs.Ranks.{seen}
use Rattle.pairs.specs.Pairs.{last_like, shown, pairs_from, pairs_of}

-- `{(#a k=b).c %d% id=e class=f}`: `id` at its first place with `e`, `k`, `class` with `c`, and `f` that joins it
abbrev mixed : List ℕ
mixed =
    123 ∷ 35 ∷ 97 ∷ 32 ∷ 107 ∷ 61 ∷ 98 ∷ 32 ∷ 46 ∷ 99 ∷ 32 ∷ 37 ∷ 100 ∷ 37 ∷ 32 ∷ 105 ∷ 100 ∷ 61 ∷ 101 ∷ 32 ∷
    99 ∷ 108 ∷ 97 ∷ 115 ∷ 115 ∷ 61 ∷ 102 ∷ 125 ∷ []

pub cases :
    ((pairs_of mixed 30 12 6).elements ≡ 2 ∷ 3 ∷ 3 ∷ 4 ∷ 5 ∷ 3 ∷ 4 ∷ 5 ∷ 1 ∷ 2 ∷ 1 ∷ 10 ∷ 10 ∷ 2 ∷ 3 ∷ 5 ∷ 20 ∷ 25 ∷ 5 ∷ 6 ∷ replicate 10 0)
    × ((pairs_of mixed 30 12 6).answer.count ≡ 4)
    -- five places for six elements: the last is known at its `=`
    × ((pairs_of mixed 30 12 5).answer ≡ record { number = 13; position = 25; count = 0 })
unfolding within is_space is_name kept trim_end part_of sign_class class_of next_of step_of stays left_by given_from verdict_from finish hold_all open_of listed words_of key_by is_keyed same has_key seen last_like shown pairs_from pairs_of
cases = (refl, refl, refl)
