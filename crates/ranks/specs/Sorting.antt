-- How the code finds the ranks: places sorted by key, and what is told of a sorted place. No contract of what is exported names it. Assumes nothing.
use Rattle.std.specs.Prelude.{◌≡◌, Bool, true, false, not, List, [], ◌∷◌, ℕ, zero, suc, ◌+◌, ◌-◌, ◌*◌, ◌<◌, ltb, length, get_or, drop, cond, Option, Some, None}
use Rattle.std.specs.declared.cmp.Ordering.{Ordering}
use Rattle.std.specs.Ordering.{nat_cmp, is_le, ordering_then}
use Rattle.std.specs.Option.{option_cmp}
use Rattle.std.specs.List.Sorted.{IsPermutation, IsSortedBy}
use Rattle.std.specs.Cmp.Lexicographic.{slice_cmp}
use Rattle.classes.specs.Choice.{pick, both, either}
use Rattle.sets.specs.Layout.{Listed, element_in}
use Rattle.keys.specs.Keys.{key_of, is_keyed}
use Rattle.equals.specs.Same.{same}

-- of n elements in the words es, the one at place p
abbrev pub element_at : List ℕ → ℕ → Listed
element_at es p = element_in (drop (p * 5) es)

unfoldable pub keyed_at : List ℕ → ℕ → ℕ → Bool
keyed_at es n p = both (ltb p n) (is_keyed (element_at es p))

-- its key, if it has one
unfoldable pub key_at : List ℕ → List ℕ → ℕ → ℕ → Option (List ℕ)
key_at bytes es n p = cond (keyed_at es n p) (Some (key_of bytes (element_at es p))) None

-- those without a key stand first, keys byte by byte
abbrev pub key_cmp : Option (List ℕ) → Option (List ℕ) → Ordering
key_cmp = option_cmp (slice_cmp nat_cmp)

abbrev pub place_le : List ℕ → List ℕ → ℕ → ℕ → ℕ → Bool
place_le bytes es n p q = is_le (key_cmp (key_at bytes es n p) (key_at bytes es n q))

abbrev pub place_cmp : List ℕ → List ℕ → ℕ → ℕ → ℕ → Ordering
place_cmp bytes es n p q = ordering_then (key_cmp (key_at bytes es n p) (key_at bytes es n q)) (nat_cmp p q)

unfoldable pub like_at : List ℕ → List ℕ → ℕ → ℕ → ℕ → Bool
like_at bytes es n p q = both (keyed_at es n p) (both (keyed_at es n q) (same (key_of bytes (element_at es p)) (key_of bytes (element_at es q))))

-- n places from j on
unfoldable pub upto : ℕ → ℕ → List ℕ
upto j zero = []
upto j (suc n) = j ∷ upto (suc j) n

-- where one stands in a list
pub record At (l : List ℕ) (p : ℕ) : Type 0 where
  pub index : ℕ
  pub within : index < length l
  pub is : get_or l index 0 ≡ p

-- the places ps of n elements, sorted: all of them, each once, in order, those of one key from the first to the last
pub record Sorted (le : ℕ → ℕ → Bool) (n : ℕ) (ps : List ℕ) : Type 0 where
  pub size : length ps ≡ n
  pub small : (i : ℕ) → i < n → get_or ps i 0 < n
  pub every : (p : ℕ) → p < n → At ps p
  pub order : (i j : ℕ) → i < j → j < n → le (get_or ps i 0) (get_or ps j 0) ≡ true
  pub ties : (i j : ℕ) → i < j → j < n → le (get_or ps j 0) (get_or ps i 0) ≡ true → get_or ps i 0 < get_or ps j 0

module _ (less : ℕ → ℕ → Bool) where
  -- whether the next of two sorted lists is one of the first
  unfoldable pub left_first : List ℕ → List ℕ → Bool
  left_first [] ys = false
  left_first (x ∷ xs) [] = true
  left_first (x ∷ xs) (y ∷ ys) = not (less y x)

  -- x and what rest makes, what stands before x in ys aside
  unfoldable pub into : (List ℕ → List ℕ) → ℕ → List ℕ → List ℕ
  into rest x [] = x ∷ rest []
  into rest x (y ∷ ys) = pick (less y x) (y ∷ into rest x ys) (x ∷ rest (y ∷ ys))

  unfoldable pub merge : List ℕ → List ℕ → List ℕ
  merge [] ys = ys
  merge (x ∷ xs) ys = into (merge xs) x ys

  -- the same places, in order
  pub record Arranged (old now : List ℕ) : Type 0 where
    pub moved : IsPermutation old now
    pub order : IsSortedBy less now

module _ (like : ℕ → ℕ → Bool) (ps : List ℕ) where
  -- whether sorted place i has the key of the one before it
  abbrev pub joined : ℕ → Bool
  joined i = both (ltb 0 i) (like (get_or ps (i - 1) 0) (get_or ps i 0))

  -- the last place of its key, where that of the next one is known
  abbrev pub last_by : ℕ → ℕ → ℕ
  last_by i last = pick (both (ltb (i + 1) (length ps)) (joined (i + 1))) last (get_or ps i 0)

  abbrev pub worth : (ℕ → Bool) → ℕ → ℕ → ℕ
  worth has i last = pick (either (not (has (get_or ps i 0))) (joined i)) 0 (last + 1)
