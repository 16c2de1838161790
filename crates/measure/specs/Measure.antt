-- A block's lines, and the looks that they cost: one to begin, and one for each line tested to continue it, failing tests counted
-- (RULES H1, H15 to H17). Assumes nothing.
use Rattle.std.specs.Prelude.{List, [], ◌∷◌, ℕ, ◌+◌, ◌*◌, get_or}
use Rattle.classes.specs.Choice.{pick}
use Rattle.lines.specs.Lines.{Span, span}
use Rattle.trim.specs.Trim.{part_of}
use Rattle.kinds.specs.Identify.{identify_of}
use Rattle.kinds.specs.declared.Kind.{Kind}
use Rattle.kinds.specs.declared.Kind.TheVariants.{Blankline, Attributes, ThematicBreak, Paragraph, Heading, Fenced, Definition, Blockquote, ListItem, Table}
use Rattle.measure.specs.Continue.{continues_of}
use Rattle.measure.specs.declared.Measured.{Measured}

-- the blank lines at a table's end, once a line more is taken: a table that has met a blank line and no caption has taken a blank one (H15)
abbrev pub gives_back : Kind → ℕ → ℕ
gives_back Blankline g = 0
gives_back Attributes g = 0
gives_back ThematicBreak g = 0
gives_back Paragraph g = 0
gives_back (Heading l) g = 0
gives_back (Fenced i l m s c n) g = 0
gives_back (Definition i f s b) g = 0
gives_back Blockquote g = 0
gives_back (ListItem i m b) g = 0
gives_back (Table c b) g = pick c 0 (pick b (g + 1) 0)

abbrev pub line_in : List ℕ → Span → List ℕ
line_in text l = part_of text l.start l.end

-- line k of line words
unfoldable pub line_of : List ℕ → List ℕ → ℕ → List ℕ
line_of text ws k = part_of text (get_or ws (k * 2) 0) (get_or ws (k * 2 + 1) 0)

abbrev pub measured_as : Kind → ℕ → ℕ → ℕ → ℕ → ℕ → Measured
measured_as k s e l g n = record { kind = k; opening = span s e; lines = l; given = g; looks = n }

-- the lines that continue a block of kind k, with l taken, g of them blank at its end, and n looks (H1, H16, H17)
unfoldable pub extend_of : List ℕ → ℕ → ℕ → Kind → List Span → ℕ → ℕ → ℕ → Measured
extend_of text s e k [] l g n = measured_as k s e l g n
extend_of text s e k (x ∷ xs) l g n =
    let t = continues_of k (line_in text x) in
    let more = extend_of text s e t.kind xs (l + 1) (gives_back t.kind g) (n + 1) in
    pick t.taken more (measured_as k s e l g (n + 1))

-- the block that the first line begins; no lines: none taken, no look (H1, H16)
unfoldable pub measure_of : List ℕ → List Span → Measured
measure_of text [] = measured_as Blankline 0 0 0 0 0
measure_of text (x ∷ xs) =
    let b = identify_of (line_in text x) in
    extend_of text b.opening.start b.opening.end b.kind xs 1 0 1
