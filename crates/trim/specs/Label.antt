-- The label of a definition, from its `[` on (RULES K7, K8; DIFFERENCES A4). Assumes nothing.
use Rattle.std.specs.Prelude.{Bool, List, [], ℕ, ◌+◌, eqb, get_or}
use Rattle.classes.specs.Choice.{pick, both}
use Rattle.lines.specs.Lines.{place_of}
use Rattle.trim.specs.Trim.{part_of}

-- the place of the first `]`, or the length (K7)
abbrev pub close_at : List ℕ → ℕ
close_at t = place_of 93 t

-- `[` in front, and `:` behind the byte at c (K7)
abbrev pub closed_by : List ℕ → ℕ → Bool
closed_by t c = both (eqb (get_or t 0 0) 91) (eqb (get_or t (c + 1) 0) 58)

-- `[`, and the first `]` is followed by `:` (K7)
unfoldable pub defines_of : List ℕ → Bool
defines_of t = closed_by t (close_at t)

-- a footnote's `^` is dropped (K8)
unfoldable pub label_start : List ℕ → ℕ
label_start t = pick (eqb (get_or t 1 0) 94) 2 1

-- what stands between `[` or `[^` and the first `]`, and nothing where t is no definition (K7, K8)
unfoldable pub label_of : List ℕ → List ℕ
label_of t = pick (defines_of t) (part_of t (label_start t) (close_at t)) []
