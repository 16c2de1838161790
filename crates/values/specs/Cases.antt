-- Values by the definition (RULES J8, J15). Assumes nothing.
use Rattle.std.specs.Prelude.{◌≡◌, refl, List, [], ◌∷◌, ℕ, replicate}
use Rattle.classes.specs.Classes.{within, is_space, is_name}
use Rattle.trim.specs.Trim.{kept, trim_end, part_of}
use Rattle.attrs.specs.Machine.{sign_class, class_of, next_of, step_of}
use Rattle.sets.specs.Given.{stays, left_by, given_from, verdict_from}
use Rattle.sets.specs.Opened.{finish, hold_all, open_of}
use Rattle.sets.specs.Layout.{listed, words_of}
use Rattle.keys.specs.Keys.{class_key, id_key, key_by, is_keyed, has_key}
use Rattle.equals.specs.Same.{same}
use Rattle.values.specs.Values.{all_with, last_with, adds, value_in, value_of}

-- `{.a id=b class=c #d %e%}`: `class` joins its two, `id` keeps the last, `k` is not there; `{class=""}` has no value
abbrev mixed : List ℕ
mixed = 123 ∷ 46 ∷ 97 ∷ 32 ∷ 105 ∷ 100 ∷ 61 ∷ 98 ∷ 32 ∷ 99 ∷ 108 ∷ 97 ∷ 115 ∷ 115 ∷ 61 ∷ 99 ∷ 32 ∷ 35 ∷ 100 ∷ 32 ∷ 37 ∷ 101 ∷ 37 ∷ 125 ∷ []

pub cases :
    ((value_of mixed class_key 25 10).elements ≡ 1 ∷ 3 ∷ 3 ∷ 0 ∷ 1 ∷ 3 ∷ 9 ∷ 14 ∷ 2 ∷ 3 ∷ replicate 15 0)
    × ((value_of mixed id_key 25 10).elements ≡ 2 ∷ 19 ∷ 19 ∷ 3 ∷ 4 ∷ replicate 20 0)
    × ((value_of mixed (107 ∷ []) 25 10).elements ≡ replicate 25 0)
    × ((value_of (123 ∷ 99 ∷ 108 ∷ 97 ∷ 115 ∷ 115 ∷ 61 ∷ 34 ∷ 34 ∷ 125 ∷ []) class_key 5 2).answer.count ≡ 0)
unfolding within is_space is_name kept trim_end part_of sign_class class_of next_of step_of stays left_by given_from verdict_from finish hold_all open_of listed words_of key_by is_keyed same has_key all_with last_with adds value_in value_of
cases = (refl, refl, refl, refl)
