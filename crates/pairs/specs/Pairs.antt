-- Each key of a set once, where it first shows, with its value (RULES J9, J16). Assumes nothing.
use Rattle.std.specs.Prelude.{not, List, [], ◌∷◌, ◌++◌, ℕ, eqb, ltb, length, get_or}
use Rattle.classes.specs.Choice.{pick, either}
use Rattle.sets.specs.Opened.{Outcome, refused_as, open_of}
use Rattle.sets.specs.Layout.{Listed, element_in}
use Rattle.keys.specs.Keys.{class_key, is_keyed, has_key}
use Rattle.ranks.specs.Ranks.{alike, seen}
use Rattle.values.specs.Values.{handed, elements_of}

-- a class after the first: its pieces join the first one's (J16)
abbrev pub further_num : ℕ
further_num = 5

abbrev pub further : Listed → Listed
further x = record { kind = further_num; from = x.from; to = x.to; first = x.first; past = x.past }

-- the key of x with the value of y (J16)
abbrev pub valued : Listed → Listed → Listed
valued x y = record { kind = x.kind; from = x.from; to = x.to; first = y.first; past = y.past }

-- the last element with x's key, or y where none follows (J16)
unfoldable pub last_like : List ℕ → Listed → Listed → List Listed → Listed
last_like bytes x y [] = y
last_like bytes x y (z ∷ zs) = last_like bytes x (pick (alike bytes x z) z y) zs

-- classes stay where they are and join, another key shows at its first place with its last value, a comment is left out (J9, J16)
unfoldable pub shown : List ℕ → List Listed → Listed → List Listed → List Listed
shown bytes before x after =
    pick (has_key bytes class_key x) (pick (seen bytes x before) (further x ∷ []) (x ∷ []))
    (pick (either (not (is_keyed x)) (seen bytes x before)) []
    (valued x (last_like bytes x x after) ∷ []))

unfoldable pub pairs_from : List ℕ → List Listed → List Listed → List Listed
pairs_from bytes before [] = []
pairs_from bytes before (x ∷ xs) = shown bytes before x xs ++ pairs_from bytes (before ++ x ∷ []) xs

abbrev pub pairs_in : List ℕ → List Listed → List Listed
pairs_in bytes xs = pairs_from bytes [] xs

-- the lesser of two, which is the room of two buffers
abbrev pub lesser : ℕ → ℕ → ℕ
lesser a b = pick (ltb a b) a b

-- each element needs a place to be sorted by; the first without one is refused where it was known (J16)
abbrev pub lacked_at : ℕ → Outcome → ℕ
lacked_at room o = (get_or (elements_of o) room (element_in [])).to

unfoldable pub pairs_of : List ℕ → ℕ → ℕ → ℕ → Outcome
pairs_of bytes ne np room =
    let o = open_of bytes ne np in
    pick (eqb o.answer.number 0)
    (pick (ltb room o.answer.count) (refused_as ne np 13 (lacked_at room o)) (handed (length bytes) ne o (pairs_in bytes (elements_of o))))
    o
