-- The lines of a text, and the words that hold them (RULES G5, G9, R2, R6, R7, R13, R17). Assumes nothing.
use Rattle.std.specs.Prelude.{Result, Ok, Err, ℕ, ◌+◌, ◌*◌, List, [], ◌∷◌, ◌++◌, eqb, ltb, length, drop}
use Rattle.classes.specs.Choice.{pick}
use Rattle.lines.specs.declared.Span as declared
use Rattle.refusals.specs.Numbers.{number_of}
use Rattle.refusals.specs.declared.Refusal.{Refusal}
use Rattle.refusals.specs.declared.Refusal.TheVariants.{TextTooLong, LinesFull}

-- a part of a text, of numbers
abbrev pub Span : Type 0
Span = declared.Span ℕ

-- a start and an end (G9)
abbrev pub span : ℕ → ℕ → Span
span s e = record { start = s; end = e }

-- the lines of the bytes from p on, of which the first starts at s: a line ends after its newline or at the end of text (G5)
unfoldable pub lines_from : ℕ → ℕ → List ℕ → List Span
lines_from s p [] = pick (eqb s p) [] (span s p ∷ [])
lines_from s p (b ∷ bs) = pick (eqb b 10) (span s (p + 1) ∷ lines_from (p + 1) (p + 1) bs) (lines_from s (p + 1) bs)

-- of a whole text (G5)
unfoldable pub lines_of : List ℕ → List Span
lines_of text = lines_from 0 0 text

-- how many newlines there are
unfoldable pub newlines_of : List ℕ → ℕ
newlines_of [] = 0
newlines_of (b ∷ bs) = pick (eqb b 10) (1 + newlines_of bs) (newlines_of bs)

-- the place of the first b, or the length
unfoldable pub place_of : ℕ → List ℕ → ℕ
place_of b [] = 0
place_of b (x ∷ s) = pick (eqb x b) 0 (1 + place_of b s)

-- two words a line (R2)
unfoldable pub words_of : List Span → List ℕ
words_of [] = []
words_of (l ∷ ls) = l.start ∷ l.end ∷ words_of ls

-- and back: the lines that words hold, an odd last word counting for nothing (R2)
unfoldable pub spans_of : List ℕ → List Span
spans_of [] = []
spans_of (a ∷ []) = []
spans_of (a ∷ b ∷ ws) = span a b ∷ spans_of ws

-- how many lines there are, or why they have no room
abbrev pub Split : Type 0
Split = Result ℕ Refusal

-- the answer, for a text of at most `limit` bytes and `room` words: first the length, then the room (R6, R7, R13)
unfoldable pub split_of : List ℕ → ℕ → ℕ → Split
split_of text limit room =
    pick (ltb limit (length text)) (Err TextTooLong)
    (pick (ltb room (2 * length (lines_of text))) (Err LinesFull)
    (Ok (length (lines_of text))))

-- the words after it: the lines first, what was lent behind them as found; or all as found (R17)
abbrev pub filled : List ℕ → List ℕ → Split → List ℕ
filled text words (Ok n) = words_of (lines_of text) ++ drop (2 * n) words
filled text words (Err r) = words

unfoldable pub split_words : List ℕ → ℕ → List ℕ → List ℕ
split_words text limit words = filled text words (split_of text limit (length words))

-- the number of an answer (R4, R6, R7)
abbrev pub refusal : Split → ℕ
refusal (Ok n) = 0
refusal (Err r) = number_of r
