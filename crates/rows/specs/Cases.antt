-- W6, and rows with runs and escapes, computed by the definitions. Assumes nothing.
use Rattle.std.specs.Prelude.{◌≡◌, refl, true, false, Ok, [], ◌∷◌}
use Rattle.classes.specs.Classes.{within, is_punct}
use Rattle.rows.specs.Rows.{ticks_of, after_run, hides_at, row_end, cell_from, cell_of, dashes_of, dashed, separator_of}

-- W6: cells `-`, `:-`, `::`, empty: yes, yes, no, no (X7)
pub W6 : (separator_of (45 ∷ []) ≡ true) × (separator_of (58 ∷ 45 ∷ []) ≡ true) × (separator_of (58 ∷ 58 ∷ []) ≡ false) × (separator_of [] ≡ false)
unfolding dashes_of dashed separator_of
W6 = (refl, refl, refl, refl)

-- a pipe inside a run, after a backslash, and after a run left open (X4, X5): two backticks, pipe, one, pipe, two, pipe; backslash, pipe, pipe; backtick, pipe
pub cells :
    (cell_of (96 ∷ 96 ∷ 124 ∷ 96 ∷ 124 ∷ 96 ∷ 96 ∷ 124 ∷ []) 0 ≡ Ok 7) ×
    (cell_of (92 ∷ 124 ∷ 124 ∷ []) 0 ≡ Ok 2) ×
    (cell_of (96 ∷ 124 ∷ []) 0 ≡ row_end true) ×
    (cell_of (97 ∷ []) 0 ≡ row_end false)
unfolding within is_punct ticks_of after_run hides_at cell_from cell_of
cells = (refl, refl, refl, refl)
