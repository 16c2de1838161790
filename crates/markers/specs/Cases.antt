-- W4 and W5, computed by the definitions. Assumes nothing.
use Rattle.std.specs.Prelude.{◌≡◌, refl, [], ◌∷◌, ◌++◌, replicate}
use Rattle.classes.specs.Classes.{within, is_space, is_bullet}
use Rattle.numbers.specs.Numbers.{digit_of, decimal_of, letter_of, roman_of, alpha_of, numeral_of, run_by, begins_of}
use Rattle.numbers.specs.declared.Numbering.TheVariants.{Decimal, RomanLower}
use Rattle.markers.specs.Markers.{ends_at, style_of, begun_of, numbered_of, ordered_of, marker_of, marked_as, none}
use Rattle.markers.specs.declared.Style.TheVariants.{Period, Paren}
use Rattle.markers.specs.declared.Marker.TheVariants.{Ordered}

-- W4: `xiv.` is 14, `i)` is 1, roman (M6, M7). W5: nineteen 9s and a period are a marker, twenty are not (M3)
pub W4-W5 :
    (marker_of (120 ∷ 105 ∷ 118 ∷ 46 ∷ []) ≡ marked_as (Ordered RomanLower Period 14) 4) ×
    (marker_of (105 ∷ 41 ∷ []) ≡ marked_as (Ordered RomanLower Paren 1) 2) ×
    (marker_of (replicate 19 57 ++ 46 ∷ []) ≡ marked_as (Ordered Decimal Period 9999999999999999999) 20) ×
    (marker_of (replicate 20 57 ++ 46 ∷ []) ≡ none)
unfolding within is_space is_bullet digit_of decimal_of letter_of roman_of alpha_of numeral_of run_by begins_of ends_at style_of begun_of numbered_of ordered_of marker_of
W4-W5 = (refl, refl, refl, refl)
