-- The key of an element as code has it: none for a comment. Assumes nothing.
use Rattle.std.specs.Prelude.{◌≡◌, true, false, List, ℕ, Option, Some, None}
use Rattle.sets.specs.Layout.{Listed}
use Rattle.keys.specs.Keys.{key_of, is_keyed}

abbrev pub KeyOf : List ℕ → Listed → Option (List ℕ) → Type 0
KeyOf bytes x None = is_keyed x ≡ false
KeyOf bytes x (Some k) = (is_keyed x ≡ true) × (k ≡ key_of bytes x)
