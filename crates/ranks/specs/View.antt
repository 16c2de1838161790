-- What the code's elements and bytes stand for. Assumes nothing.
use Rattle.std.specs.Prelude.{◌≡◌, Bool, List, ℕ, Option}
use Rattle.std.specs.declared.cmp.Ordering.{Ordering}
use Rattle.std.specs.Ordering.{is_lt}
use Rattle.ranks.specs.Sorting.{keyed_at, key_at, place_le, place_cmp, like_at}
use Rattle.ranks.specs.declared.Keyed.{Keyed}

abbrev pub has_in : Keyed → ℕ → Bool
has_in k p = keyed_at k.elements.words.now k.elements.count p

abbrev pub le_in : Keyed → ℕ → ℕ → Bool
le_in k p q = place_le k.bytes.now k.elements.words.now k.elements.count p q

abbrev pub like_in : Keyed → ℕ → ℕ → Bool
like_in k p q = like_at k.bytes.now k.elements.words.now k.elements.count p q

abbrev pub compare_in : Keyed → ℕ → ℕ → Ordering
compare_in k p q = place_cmp k.bytes.now k.elements.words.now k.elements.count p q

abbrev pub less_in : Keyed → ℕ → ℕ → Bool
less_in k p q = is_lt (compare_in k p q)

abbrev pub KeyIn : Keyed → ℕ → Option (List ℕ) → Type 0
KeyIn k p o = key_at k.bytes.now k.elements.words.now k.elements.count p ≡ o
