-- Where each key of a set shows, and the last place that has it (RULES J9). Assumes nothing.
use Rattle.std.specs.Prelude.{Bool, false, not, List, [], ◌∷◌, ◌++◌, ℕ, suc, length}
use Rattle.classes.specs.Choice.{pick, both, either}
use Rattle.sets.specs.Layout.{Listed}
use Rattle.keys.specs.Keys.{key_of, is_keyed}
use Rattle.equals.specs.Same.{same}

abbrev pub alike : List ℕ → Listed → Listed → Bool
alike bytes x y = both (is_keyed x) (both (is_keyed y) (same (key_of bytes x) (key_of bytes y)))

unfoldable pub seen : List ℕ → Listed → List Listed → Bool
seen bytes x [] = false
seen bytes x (y ∷ ys) = either (alike bytes x y) (seen bytes x ys)

-- the last place with x's key among elements that stand from place j on; d where there is none (J9)
unfoldable pub last_place : List ℕ → Listed → ℕ → ℕ → List Listed → ℕ
last_place bytes x j d [] = d
last_place bytes x j d (y ∷ ys) = last_place bytes x (suc j) (pick (alike bytes x y) j d) ys

-- 0 where an element shows no key: a comment, or its key is shown before; else one more than the place of the last element with its key (J9)
abbrev pub rank_of : List ℕ → List Listed → Listed → List Listed → ℕ
rank_of bytes before x after = pick (either (not (is_keyed x)) (seen bytes x before)) 0 (suc (last_place bytes x (suc (length before)) (length before) after))

unfoldable pub ranks_from : List ℕ → List Listed → List Listed → List ℕ
ranks_from bytes before [] = []
ranks_from bytes before (x ∷ xs) = rank_of bytes before x xs ∷ ranks_from bytes (before ++ x ∷ []) xs

abbrev pub ranks_of : List ℕ → List Listed → List ℕ
ranks_of bytes xs = ranks_from bytes [] xs
