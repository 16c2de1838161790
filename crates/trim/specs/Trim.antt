-- What trimming leaves: counts, parts by take and drop, and spans (RULES G6, G7, G9). Assumes nothing.
use Rattle.std.specs.Prelude.{Bool, not, List, [], ◌∷◌, ℕ, suc, ◌+◌, ◌-◌, eqb, take, drop}
use Rattle.classes.specs.Choice.{pick, both}
use Rattle.classes.specs.Classes.{is_space}
use Rattle.lines.specs.Lines.{Span, span}

-- how many bytes at the front pass a test
unfoldable pub front : (ℕ → Bool) → List ℕ → ℕ
front f [] = 0
front f (b ∷ bs) = let r = suc (front f bs) in pick (f b) r 0

-- whitespace at the front (G7)
abbrev pub lead : List ℕ → ℕ
lead s = front is_space s

-- whitespace other than newline (G6)
unfoldable pub is_gap : ℕ → Bool
is_gap b = both (not (eqb b 10)) (is_space b)

-- a line's indent: leading whitespace other than newline (G6)
abbrev pub indent : List ℕ → ℕ
indent s = front is_gap s

-- how many bytes are left when the whitespace at the end is taken off (G7)
unfoldable pub kept : List ℕ → ℕ
kept [] = 0
kept (b ∷ bs) = let r = kept bs in pick (eqb r 0) (pick (is_space b) 0 1) (suc r)

-- the front, the end (G7)
unfoldable pub trim_start : List ℕ → List ℕ
trim_start s = drop (lead s) s

unfoldable pub trim_end : List ℕ → List ℕ
trim_end s = take (kept s) s

-- the front first (G7)
unfoldable pub trim_both : List ℕ → List ℕ
trim_both s = trim_end (trim_start s)

-- the part from a up to e, as far as the text reaches (G9)
unfoldable pub part_of : List ℕ → ℕ → ℕ → List ℕ
part_of s a e = take (e - a) (drop a s)

-- the part from a up to e, trimmed (G7): the front first, then what is left from there on (proofs: the bytes there are `trim_both` of the part)
unfoldable pub trim_span : List ℕ → ℕ → ℕ → Span
trim_span s a e =
    let i = a + lead (part_of s a e) in
    span i (i + kept (part_of s i e))
