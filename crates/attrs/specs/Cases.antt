-- W7, and the smallest texts of DIFFERENCES A7, computed by the definitions. Assumes nothing.
use Rattle.std.specs.Prelude.{◌≡◌, refl, [], ◌∷◌}
use Rattle.classes.specs.Classes.{within, is_space, is_name}
use Rattle.attrs.specs.Machine.{sign_class, class_of, next_of, step_of, valid_from, valid_of}

-- W7: `{.a}` is 4 bytes, `{.}` none (Q3)
pub W7 : (valid_of (123 ∷ 46 ∷ 97 ∷ 125 ∷ []) ≡ 4) × (valid_of (123 ∷ 46 ∷ 125 ∷ []) ≡ 0)
unfolding within is_space is_name sign_class class_of next_of step_of valid_from valid_of
W7 = (refl, refl)

-- A7: `{%}` is 3 bytes, and of `{%}%}` the first 3 are the set (Q3, Q4)
pub A7 : (valid_of (123 ∷ 37 ∷ 125 ∷ []) ≡ 3) × (valid_of (123 ∷ 37 ∷ 125 ∷ 37 ∷ 125 ∷ []) ≡ 3)
unfolding within is_space is_name sign_class class_of next_of step_of valid_from valid_of
A7 = (refl, refl)
