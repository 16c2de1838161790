-- The last byte that passes a test. Assumes nothing.
use Rattle.std.specs.Prelude.{◌≡◌, Bool, true, false, List, ℕ, ◌<◌, length, get_or, Option, MatchOption}

-- i is the place of the last byte that passes p, and none is where none does
abbrev pub IsLast : (ℕ → Bool) → List ℕ → Option ℕ → Type 0
IsLast p s i = MatchOption i ((k : ℕ) → k < length s → p (get_or s k 0) ≡ false)
    (λ i. (i < length s) × (p (get_or s i 0) ≡ true) × ((k : ℕ) → i < k → k < length s → p (get_or s k 0) ≡ false))
