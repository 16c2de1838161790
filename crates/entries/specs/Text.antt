-- Texts and numbers as bytes. Assumes nothing.
use Rattle.std.specs.Prelude.{List, [], ◌∷◌, ◌++◌, ℕ, zero, suc, ◌+◌, ◌/◌, ◌%◌, ltb}
use Prim.Native.Char.{code}
use Prim.Native.String as s
use Rattle.classes.specs.Choice.{pick}

-- the bytes of an ASCII text
unfoldable pub text : s.String → List ℕ
text s.[] = []
text (s.◌∷◌ c cs) = code c ∷ text cs

-- a number of at most k digits in decimal (V1)
unfoldable pub numeral : ℕ → ℕ → List ℕ
numeral zero n = []
numeral (suc k) n = let front = numeral k (n / 10) in pick (ltb n 10) ((48 + n) ∷ []) (front ++ ((48 + n % 10) ∷ []))

-- any 64-bit number has at most 20
unfoldable pub decimal_of : ℕ → List ℕ
decimal_of n = numeral 20 n
