-- What the rules for a line (RULES K) ask of its bytes. Assumes nothing.
use Rattle.std.specs.Prelude.{Bool, false, not, List, [], ◌∷◌, ℕ, ◌+◌, ◌-◌, eqb, leb, length, get_or}
use Rattle.classes.specs.Choice.{pick, both, either}
use Rattle.classes.specs.Classes.{is_space}

-- the byte b, for counting a run of them
abbrev pub same : ℕ → ℕ → Bool
same b c = eqb c b

-- a code fence's spec has no whitespace or backtick (K13)
unfoldable pub is_spec_byte : ℕ → Bool
is_spec_byte b = both (not (eqb b 96)) (not (is_space b))

-- what a break is made of
abbrev pub is_mark : ℕ → Bool
is_mark b = either (eqb b 45) (eqb b 42)

-- only `-`, `*` and whitespace, three marks or more, n of them counted already (K9)
unfoldable pub break_of : ℕ → List ℕ → Bool
break_of n [] = leb 3 n
break_of n (b ∷ bs) =
    let mark = break_of (n + 1) bs in
    let gap = break_of n bs in
    pick (eqb b 45) mark (pick (eqb b 42) mark (pick (is_space b) gap false))

-- a trimmed line that ends in `|` but not in `\|` (K6, H13, X6)
unfoldable pub bar_end : List ℕ → Bool
bar_end s = both (eqb (get_or s (length s - 1) 0) 124) (not (eqb (get_or s (length s - 2) 0) 92))
