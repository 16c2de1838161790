-- The elements that make up a key's value, and the words in which they are handed back (RULES J8, J15). Assumes nothing.
use Rattle.std.specs.Prelude.{Bool, List, [], ◌∷◌, ◌++◌, ℕ, ◌-◌, ◌*◌, eqb, ltb, length, replicate}
use Rattle.classes.specs.Choice.{pick, both}
use Rattle.sets.specs.Opened.{Outcome, element_width, open_of}
use Rattle.sets.specs.Layout.{Listed, listed, words_of}
use Rattle.keys.specs.Keys.{class_key, has_key}
use Rattle.equals.specs.Same.{same}

-- all elements that pass a test, in order; the last one, or else those that are given
unfoldable pub all_with : (Listed → Bool) → List Listed → List Listed
all_with f [] = []
all_with f (x ∷ xs) = pick (f x) (x ∷ all_with f xs) (all_with f xs)

unfoldable pub last_with : (Listed → Bool) → List Listed → List Listed → List Listed
last_with f [] ys = ys
last_with f (x ∷ xs) ys = last_with f xs (pick (f x) (x ∷ []) ys)

-- an element with the key and at least one piece (J8)
unfoldable pub adds : List ℕ → List ℕ → Listed → Bool
adds bytes key x = both (has_key bytes key x) (ltb x.first x.past)

-- classes join, other keys keep the last value; classes without a piece are no value (J8, DECISIONS 1.6)
unfoldable pub value_in : List ℕ → List ℕ → List Listed → List Listed
value_in bytes key xs = pick (same key class_key) (all_with (adds bytes key) xs) (last_with (has_key bytes key) xs [])

-- some elements instead of those that were read: their words stand first, zeros behind them; the pieces stay (J15)
abbrev pub handed : ℕ → ℕ → Outcome → List Listed → Outcome
handed lent ne o xs = record {
  answer = record { number = 0; position = lent; count = length xs };
  elements = words_of xs ++ replicate (ne - length xs * element_width) 0;
  pieces = o.pieces;
}

-- the elements that an opened set has
abbrev pub elements_of : Outcome → List Listed
elements_of o = listed o.answer.count o.elements

-- what is refused is refused as the reader refuses it (J15)
unfoldable pub value_of : List ℕ → List ℕ → ℕ → ℕ → Outcome
value_of bytes key ne np =
    let o = open_of bytes ne np in
    pick (eqb o.answer.number 0) (handed (length bytes) ne o (value_in bytes key (elements_of o))) o
