-- Sets opened by the definition. Assumes nothing.
use Rattle.std.specs.Prelude.{◌≡◌, refl, [], ◌∷◌, ℕ, replicate}
use Rattle.classes.specs.Classes.{within, is_space, is_name}
use Rattle.trim.specs.Trim.{kept, trim_end}
use Rattle.attrs.specs.Machine.{sign_class, class_of, next_of, step_of}
use Rattle.sets.specs.Given.{stays, left_by, given_from, verdict_from}
use Rattle.sets.specs.Opened.{Answer, finish, hold_all, open_of}

abbrev told : ℕ → ℕ → ℕ → Answer
told n p c = record { number = n; position = p; count = c }

pub cases :
    -- `{.a}`: a class (J11 to J14)
    (open_of (123 ∷ 46 ∷ 97 ∷ 125 ∷ []) 6 3 ≡ record { answer = told 0 4 1; elements = 1 ∷ 3 ∷ 3 ∷ 0 ∷ 1 ∷ 0 ∷ []; pieces = 2 ∷ 3 ∷ 0 ∷ [] })
    -- `{k="v\nw"}{#b} `: a pair of two pieces, and an id (J4, J5)
    × (open_of (123 ∷ 107 ∷ 61 ∷ 34 ∷ 118 ∷ 10 ∷ 119 ∷ 34 ∷ 125 ∷ 123 ∷ 35 ∷ 98 ∷ 125 ∷ 32 ∷ []) 10 6
    ≡ record { answer = told 0 14 2; elements = 3 ∷ 1 ∷ 2 ∷ 0 ∷ 2 ∷ 2 ∷ 12 ∷ 12 ∷ 2 ∷ 3 ∷ []; pieces = 4 ∷ 5 ∷ 6 ∷ 7 ∷ 11 ∷ 12 ∷ [] })
    -- `{%a\n\nb%}`: a comment of three pieces, the second the first newline (J5)
    × (open_of (123 ∷ 37 ∷ 97 ∷ 10 ∷ 10 ∷ 98 ∷ 37 ∷ 125 ∷ []) 5 6 ≡ record { answer = told 0 8 1; elements = 4 ∷ 2 ∷ 2 ∷ 0 ∷ 3 ∷ []; pieces = 2 ∷ 3 ∷ 3 ∷ 4 ∷ 5 ∷ 6 ∷ [] })
    -- `{a="b\⏎c"}`: what stands before an escaped newline is lost (J5; C15)
    × (open_of (123 ∷ 97 ∷ 61 ∷ 34 ∷ 98 ∷ 92 ∷ 10 ∷ 99 ∷ 34 ∷ 125 ∷ []) 5 2 ≡ record { answer = told 0 10 1; elements = 3 ∷ 1 ∷ 2 ∷ 0 ∷ 1 ∷ []; pieces = 7 ∷ 8 ∷ [] })
    -- 14: `{.a} x` at 4, `{.a}{` at 5, nothing at 0; 13: `{.a}` at 3, for want of an element's words, then of a piece's (J10)
    × ((open_of (123 ∷ 46 ∷ 97 ∷ 125 ∷ 32 ∷ 120 ∷ []) 6 3).answer ≡ told 14 4 0)
    × ((open_of (123 ∷ 46 ∷ 97 ∷ 125 ∷ 123 ∷ []) 6 3).answer ≡ told 14 5 0)
    × ((open_of [] 6 3).answer ≡ told 14 0 0)
    × (open_of (123 ∷ 46 ∷ 97 ∷ 125 ∷ []) 4 3 ≡ record { answer = told 13 3 0; elements = replicate 4 0; pieces = replicate 3 0 })
    × ((open_of (123 ∷ 46 ∷ 97 ∷ 125 ∷ []) 5 1).answer ≡ told 13 3 0)
unfolding within is_space is_name kept trim_end sign_class class_of next_of step_of stays left_by given_from verdict_from finish hold_all open_of
cases = (refl, refl, refl, refl, refl, refl, refl, refl, refl)
