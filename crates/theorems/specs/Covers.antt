-- The first lines of a text's top-level blocks (RULES Z1): they begin at 0, rise, and cover the text without a gap. Assumes nothing.
use Rattle.std.specs.Prelude.{◌≡◌, List, [], ◌∷◌, ◌++◌, ℕ, ◌<◌}
use Rattle.tops.specs.Tops.{first_or}

-- each place is below the next one, and the last below the end
abbrev pub Rising : ℕ → List ℕ → Type 0
Rising end [] = Unit {0}
Rising end (s ∷ ss) = (s < first_or end ss) × Rising end ss

-- the first is 0 (where there is none, the text is empty), and each block goes on to the next one (Z1)
pub record Covers (end : ℕ) (ss : List ℕ) : Type 0 where
  pub first : first_or end ss ≡ 0
  pub rising : Rising end ss

-- the bytes of these parts, one after another
unfoldable pub joined : List (List ℕ) → List ℕ
joined [] = []
joined (x ∷ xs) = x ++ joined xs
