-- The first line of a file that asks for the full listing (RULES V12, V13; DECISIONS 2.1, 2.1a). Assumes nothing.
use Rattle.std.specs.Prelude.{Bool, List, ℕ, take, drop}
use Rattle.classes.specs.Choice.{pick, either}
use Rattle.entries.specs.Text.{text}
use Rattle.equals.specs.Same.{same}
use Rattle.listing.specs.Listing.{short, full}

-- the word, and the line of it (V12)
abbrev pub word : List ℕ
word = text "full"

abbrev pub line : List ℕ
line = text "full\n"

-- a file asks for the full listing if it is the word, or begins with the line (V12)
unfoldable pub asks_full : List ℕ → Bool
asks_full file = either (same file word) (same (take 5 file) line)

-- the mode's number (V11, V12)
unfoldable pub mode_of : List ℕ → ℕ
mode_of file = pick (asks_full file) full short

-- what is parsed, or read as a stream: what stands behind the line, nothing behind the word alone; else the whole file (V12, V13)
unfoldable pub text_of : List ℕ → List ℕ
text_of file = pick (asks_full file) (drop 5 file) file
