-- What the parts of the code make of an element and its rank. Assumes nothing.
use Rattle.std.specs.Prelude.{List, [], ◌∷◌, ℕ, eqb, ltb, length, get_or, Option, Some, None}
use Rattle.sets.specs.Words.{listed_as}
use Rattle.sets.specs.declared.Element.{Element}
use Rattle.classes.specs.Choice.{pick}
use Rattle.sets.specs.Opened.{Outcome, refused_as}
use Rattle.sets.specs.Layout.{Listed, element_in, listed}
use Rattle.keys.specs.Keys.{class_key, has_key}
use Rattle.values.specs.Values.{handed}
use Rattle.pairs.specs.Pairs.{further, valued, pairs_in}

-- what an element shows: one, or none
abbrev pub shows : Option Element → List Listed
shows None = []
shows (Some e) = listed_as e ∷ []

-- what x shows by its rank, y being the last element of its key
abbrev pub shown_by : List ℕ → Listed → ℕ → Listed → List Listed
shown_by bytes x rank y =
    pick (has_key bytes class_key x) (pick (eqb rank 0) (further x ∷ []) (x ∷ []))
    (pick (eqb rank 0) [] (valued x y ∷ []))

-- what is answered for n elements in the words es, and pieces ps, with room for some places
abbrev pub paired_by : List ℕ → List ℕ → List ℕ → ℕ → ℕ → Outcome
paired_by bytes es ps room n =
    pick (ltb room n) (refused_as (length es) (length ps) 13 (get_or (listed n es) room (element_in [])).to)
    (handed (length bytes) (length es) (record { answer = record { number = 0; position = 0; count = n }; elements = es; pieces = ps }) (pairs_in bytes (listed n es)))
