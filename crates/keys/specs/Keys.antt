-- The keys of elements (RULES J7). Assumes nothing.
use Rattle.std.specs.Prelude.{Bool, not, List, [], ◌∷◌, ℕ, eqb}
use Rattle.classes.specs.Choice.{pick, both}
use Rattle.equals.specs.Same.{same}
use Rattle.trim.specs.Trim.{part_of}
use Rattle.sets.specs.Given.{kind_num, AClass, AnId, AComment}
use Rattle.sets.specs.Layout.{Listed}

-- `class` and `id` (J7)
abbrev pub class_key : List ℕ
class_key = 99 ∷ 108 ∷ 97 ∷ 115 ∷ 115 ∷ []

abbrev pub id_key : List ℕ
id_key = 105 ∷ 100 ∷ []

-- the key of an element that is no comment: a class's is c, an id's is d, a pair's are its bytes (J7)
unfoldable pub key_by : List ℕ → List ℕ → List ℕ → Listed → List ℕ
key_by bytes c d x = pick (eqb x.kind (kind_num AClass)) c (pick (eqb x.kind (kind_num AnId)) d (part_of bytes x.from x.to))

abbrev pub key_of : List ℕ → Listed → List ℕ
key_of bytes x = key_by bytes class_key id_key x

-- a comment has none (J7)
unfoldable pub is_keyed : Listed → Bool
is_keyed x = not (eqb x.kind (kind_num AComment))

unfoldable pub has_key : List ℕ → List ℕ → Listed → Bool
has_key bytes key x = both (is_keyed x) (same (key_of bytes x) key)
