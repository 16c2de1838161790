-- What a program holds back of what it prints, and writes as its buffer gets full. Assumes nothing.
use Rattle.std.specs.Prelude.{ℕ, zero, suc, ◌+◌, ◌-◌, ◌/◌, List, [], ◌∷◌, ◌++◌, length, take, drop, leb, if◌then◌else◌}

-- the bytes that are held, and how many the buffer has room for
pub record Held : Type 0 where
  pub bytes : List ℕ
  pub room : ℕ

abbrev pub none_held : ℕ → Held
none_held n = record { bytes = []; room = n }

-- those before a piece stay where 64 bytes are free, else they are written
abbrev pub kept : Held → List ℕ
kept h = (if leb 64 (h.room - length h.bytes) then h.bytes else [])

-- the piece stands behind them; one that there is no room for is written at once
abbrev pub after_piece : Held → List ℕ → Held
after_piece h piece = record h { bytes = (if leb (length (kept h) + length piece) h.room then kept h ++ piece else []) }

-- so many whole pieces of 64 bytes, and what is behind them
abbrev pub after_pieces : ℕ → Held → List ℕ → Held
after_pieces zero h s = after_piece h s
after_pieces (suc n) h s = after_pieces n (after_piece h (take 64 s)) (drop 64 s)

-- bytes are put in pieces of 64, of which the last may be shorter; none are one piece, too
abbrev pub after_put : Held → List ℕ → Held
after_put h s = after_pieces ((length s - 1) / 64) h s

-- a number's text and a space
abbrev pub after_number : Held → List ℕ → Held
after_number h text = after_put (after_put h text) (32 ∷ [])

-- the same for each of them
abbrev pub after_numbers : Held → List (List ℕ) → Held
after_numbers h [] = h
after_numbers h (text ∷ more) = after_numbers (after_number h text) more
