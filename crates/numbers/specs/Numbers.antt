-- The numbers of ordered markers (RULES M2 to M7, E7). Assumes nothing.
use Rattle.std.specs.Prelude.{Bool, List, [], ◌∷◌, ℕ, zero, suc, ◌+◌, ◌-◌, ◌*◌, eqb, leb, ltb, get_or, Option, Some, None}
use Rattle.classes.specs.Choice.{pick, either}
use Rattle.classes.specs.Classes.{within}
use Rattle.numbers.specs.declared.Numbering.{Numbering}
use Rattle.numbers.specs.declared.Numbering.TheVariants.{Decimal, AlphaLower, AlphaUpper, RomanLower, RomanUpper}

-- a decimal digit's value, and 0 for any other byte (M3)
unfoldable pub digit_of : ℕ → ℕ
digit_of b = pick (ltb b 48) 0 (pick (ltb 57 b) 0 (b - 48))

-- the digits' value, after those before them have made v (M3)
unfoldable pub decimal_of : ℕ → List ℕ → ℕ
decimal_of v [] = v
decimal_of v (b ∷ bs) = decimal_of (v * 10 + digit_of b) bs

-- a number that says by 0 that there is none
abbrev pub nonzero : ℕ → Option ℕ
nonzero n = pick (eqb n 0) None (Some n)

-- a roman digit's value, of either case, and 0 for any other byte (M6)
unfoldable pub letter_of : ℕ → ℕ
letter_of b =
    pick (either (eqb b 105) (eqb b 73)) 1
    (pick (either (eqb b 118) (eqb b 86)) 5
    (pick (either (eqb b 120) (eqb b 88)) 10
    (pick (either (eqb b 108) (eqb b 76)) 50
    (pick (either (eqb b 99) (eqb b 67)) 100
    (pick (either (eqb b 100) (eqb b 68)) 500
    (pick (either (eqb b 109) (eqb b 77)) 1000
    0))))))

-- a digit that is smaller than its right neighbour is subtracted, others are added (M6)
unfoldable pub roman_of : List ℕ → ℕ
roman_of [] = 0
roman_of (b ∷ bs) = let r = roman_of bs in pick (ltb (letter_of b) (letter_of (get_or bs 0 0))) (r - letter_of b) (r + letter_of b)

-- a letter's place, 1 to 26, in either case (M4)
unfoldable pub alpha_of : ℕ → ℕ
alpha_of b = pick (leb 97 b) (b - 96) (b - 64)

-- the longest number in bytes: 19 decimal digits, 13 roman, one letter (M3 to M5)
abbrev pub max_of : Numbering → ℕ
max_of Decimal = 19
max_of AlphaLower = 1
max_of AlphaUpper = 1
max_of RomanLower = 13
max_of RomanUpper = 13

-- a numbering's number (E7)
abbrev pub num_of : Numbering → ℕ
num_of Decimal = 1
num_of AlphaLower = 2
num_of AlphaUpper = 3
num_of RomanLower = 4
num_of RomanUpper = 5

-- the number of the numbering that a byte is a digit of, 0: none (M2). A roman letter is tried as roman (M7)
unfoldable pub numeral_of : ℕ → ℕ
numeral_of b =
    pick (within 48 57 b) 1
    (pick (within 97 122 b) (pick (eqb (letter_of b) 0) 2 4)
    (pick (within 65 90 b) (pick (eqb (letter_of b) 0) 3 5)
    0))

-- and the numbering of such a number (E7)
abbrev pub begins_by : ℕ → Option Numbering
begins_by n =
    pick (eqb n 1) (Some Decimal)
    (pick (eqb n 2) (Some AlphaLower)
    (pick (eqb n 3) (Some AlphaUpper)
    (pick (eqb n 4) (Some RomanLower)
    (pick (eqb n 5) (Some RomanUpper)
    None))))

-- the numbering that a byte begins (M2)
unfoldable pub begins_of : ℕ → Option Numbering
begins_of c = begins_by (numeral_of c)

-- whether a byte is a digit of the numbering
abbrev pub is_digit_of : Numbering → ℕ → Bool
is_digit_of k b = eqb (numeral_of b) (num_of k)

-- how many bytes at the front are digits of the numbering with the number `own`, counting no more than m (M2)
unfoldable pub run_by : ℕ → ℕ → List ℕ → ℕ
run_by own zero bs = 0
run_by own (suc m) [] = 0
run_by own (suc m) (b ∷ bs) = let r = suc (run_by own m bs) in pick (eqb (numeral_of b) own) r 0

-- up to the longest (M2 to M5)
abbrev pub run_of : Numbering → List ℕ → ℕ
run_of k bs = run_by (num_of k) (max_of k) bs

-- a number's value (M3, M4, M6)
abbrev pub value_of : Numbering → List ℕ → ℕ
value_of Decimal s = decimal_of 0 s
value_of AlphaLower s = alpha_of (get_or s 0 0)
value_of AlphaUpper s = alpha_of (get_or s 0 0)
value_of RomanLower s = roman_of s
value_of RomanUpper s = roman_of s
