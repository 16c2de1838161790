-- The byte classes (RULES G1 to G4, K10). A byte from 128 on is in none of them. Assumes nothing.
use Rattle.std.specs.Prelude.{Bool, ℕ, eqb, leb}
use Rattle.classes.specs.Choice.{both, either}

unfoldable pub within : ℕ → ℕ → ℕ → Bool
within lo hi b = both (leb lo b) (leb b hi)

-- whitespace: space, tab, LF, FF, CR (G2)
unfoldable pub is_space : ℕ → Bool
is_space b = either (eqb b 32) (either (eqb b 9) (either (eqb b 10) (either (eqb b 12) (eqb b 13))))

-- a name byte: letter, digit, `_`, `-`, `:` (G3)
unfoldable pub is_name : ℕ → Bool
is_name b = either (within 97 122 b) (either (within 65 90 b) (either (within 48 57 b) (either (eqb b 95) (either (eqb b 45) (eqb b 58)))))

-- a bullet: `-`, `*`, `+` (K10)
unfoldable pub is_bullet : ℕ → Bool
is_bullet b = either (eqb b 45) (either (eqb b 42) (eqb b 43))

-- ASCII punctuation (G4)
unfoldable pub is_punct : ℕ → Bool
is_punct b = either (within 33 47 b) (either (within 58 64 b) (either (within 91 96 b) (within 123 126 b)))
