-- Joined values by the definition (RULES J6, J17, J18). Assumes nothing.
use Rattle.std.specs.Prelude.{◌≡◌, refl, List, [], ◌∷◌, ℕ, replicate}
use Rattle.classes.specs.Classes.{within, is_space, is_name}
use Rattle.trim.specs.Trim.{kept, trim_end, part_of}
use Rattle.attrs.specs.Machine.{sign_class, class_of, next_of, step_of}
use Rattle.sets.specs.Given.{stays, left_by, given_from, verdict_from}
use Rattle.sets.specs.Opened.{finish, hold_all, open_of}
use Rattle.sets.specs.Layout.{listed, spanned, words_of}
use Rattle.keys.specs.Keys.{class_key, key_by, is_keyed, has_key}
use Rattle.equals.specs.Same.{same}
use Rattle.values.specs.Values.{all_with, last_with, adds, value_in, value_of}
use Rattle.joins.specs.Joins.{Joined, extend_by, joined_from, pieces_of, is_tight, over_at, filled_by, joined_in, join_of, one_of, text_of}

-- `{.a class=b}`, `{k="v⏎w"}`, `{%a⏎b%}`
abbrev classes : List ℕ
classes = 123 ∷ 46 ∷ 97 ∷ 32 ∷ 99 ∷ 108 ∷ 97 ∷ 115 ∷ 115 ∷ 61 ∷ 98 ∷ 125 ∷ []

abbrev quoted : List ℕ
quoted = 123 ∷ 107 ∷ 61 ∷ 34 ∷ 118 ∷ 10 ∷ 119 ∷ 34 ∷ 125 ∷ []

abbrev comment : List ℕ
comment = 123 ∷ 37 ∷ 97 ∷ 10 ∷ 98 ∷ 37 ∷ 125 ∷ []

-- a buffer of n bytes that are 7; the byte behind a text stays
abbrev sevens : ℕ → List ℕ
sevens n = replicate n 7

abbrev gives : Joined → ℕ → ℕ → ℕ → List ℕ → Type 0
gives j number position count out = (j.answer ≡ record { number = number; position = position; count = count }) × (j.out ≡ out)

-- `a b`; `v w`; a comment keeps its newline; no room for `b`, and none is written; no element, no text; no set
pub cases :
    gives (join_of classes class_key 10 4 (sevens 4)) 0 12 3 (97 ∷ 32 ∷ 98 ∷ 7 ∷ [])
    × gives (join_of quoted (107 ∷ []) 5 4 (sevens 4)) 0 9 3 (118 ∷ 32 ∷ 119 ∷ 7 ∷ [])
    × gives (text_of comment 0 5 6 (sevens 4)) 0 7 3 (97 ∷ 10 ∷ 98 ∷ 7 ∷ [])
    × gives (join_of classes class_key 10 4 (sevens 2)) 8 10 0 (sevens 2)
    × gives (text_of classes 2 10 4 (sevens 2)) 0 12 0 (sevens 2)
    × gives (text_of (97 ∷ []) 0 10 4 (sevens 2)) 14 0 0 (sevens 2)
unfolding within is_space is_name kept trim_end part_of sign_class class_of next_of step_of stays left_by given_from verdict_from finish hold_all open_of listed spanned words_of key_by is_keyed same has_key all_with last_with adds value_in value_of extend_by joined_from pieces_of is_tight over_at filled_by joined_in one_of
cases = ((refl, refl), (refl, refl), (refl, refl), (refl, refl), (refl, refl), (refl, refl))
