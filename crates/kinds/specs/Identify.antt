-- What a line begins, the first rule that fits (RULES K), and its opening span (O1).
-- n is the indent, t the line from there on, its newline included. Offsets are from the line's start. Assumes nothing.
use Rattle.std.specs.Prelude.{Bool, false, List, ℕ, ◌+◌, Option, Some, None, eqb, leb, ltb, length, get_or, drop}
use Rattle.classes.specs.Choice.{pick, both}
use Rattle.classes.specs.Classes.{is_name}
use Rattle.lines.specs.Lines.{span}
use Rattle.trim.specs.Trim.{front, lead, indent, kept, trim_end, part_of}
use Rattle.trim.specs.Label.{close_at, defines_of, label_start}
use Rattle.attrs.specs.Machine.{valid_of}
use Rattle.markers.specs.Markers.{ends_at, marker_of}
use Rattle.markers.specs.declared.Marked.{Marked}
use Rattle.kinds.specs.Bytes.{same, is_spec_byte, break_of, bar_end}
use Rattle.kinds.specs.declared.Kind.{Kind}
use Rattle.kinds.specs.declared.Kind.TheVariants.{Blankline, Attributes, ThematicBreak, Paragraph, Heading, Fenced, Definition, Blockquote, ListItem, Table}
use Rattle.kinds.specs.declared.Identified.{Identified}

abbrev pub identified_as : Kind → ℕ → ℕ → Identified
identified_as k s e = record { kind = k; opening = span s e }

-- everything else: empty at the indent (K16)
abbrev pub paragraph_at : ℕ → Identified
paragraph_at n = identified_as Paragraph n n

-- a `#` run, then whitespace or the end; the opening span is the marks (K3)
unfoldable pub heading_of : ℕ → List ℕ → Identified
heading_of n t = let level = front (same 35) t in pick (ends_at t level) (identified_as (Heading level) n (n + level)) (paragraph_at n)

-- `>`, then whitespace or the end (K4)
unfoldable pub quote_of : ℕ → List ℕ → Identified
quote_of n t = pick (ends_at t 1) (identified_as Blockquote n (n + 1)) (paragraph_at n)

-- `{`, with the machine reaching Done first at the end of t without trailing whitespace; the opening span is to the line's end (K5)
unfoldable pub attributes_of : ℕ → List ℕ → Identified
attributes_of n t = pick (eqb (valid_of t) (kept t)) (identified_as Attributes n (n + length t)) (paragraph_at n)

-- `|`, with 2 bytes or more, ending in `|` but not `\|`; the opening span is empty at the indent (K6)
unfoldable pub table_of : ℕ → List ℕ → Identified
table_of n t = pick (both (leb 2 (length (trim_end t))) (bar_end (trim_end t))) (identified_as (Table false false) n n) (paragraph_at n)

-- `[`, with the first `]` followed by `:`; a label that starts with `^` makes a footnote, and the `^` is dropped; the opening span runs from the line's start through the `]:` (K7, K8; A4, A5)
unfoldable pub definition_of : ℕ → List ℕ → Identified
definition_of n t =
    pick (defines_of t)
    (identified_as (Definition n (eqb (get_or t 1 0) 94) (span (n + label_start t) (n + close_at t)) false) 0 (n + close_at t + 2))
    (paragraph_at n)

-- an item where a marker was read; its opening span is the marker (K10 to K12, K15)
abbrev pub item_by : ℕ → Option Marked → Identified
item_by n None = paragraph_at n
item_by n (Some m) = identified_as (ListItem n m.marker false) n (n + m.len)

unfoldable pub item_of : ℕ → List ℕ → Identified
item_of n t = item_by n (marker_of t)

-- `-` or `*`: a break, its opening span t without trailing whitespace; else an item (K9, K10)
unfoldable pub rule_of : ℕ → List ℕ → Identified
rule_of n t = pick (break_of 0 t) (identified_as ThematicBreak n (n + kept t)) (item_of n t)

-- where the spec starts in t, after so many marks: trimmed, and at t's end if it is empty (K13, K14, K17)
unfoldable pub spec_start : List ℕ → ℕ → ℕ
spec_start t marks = marks + lead (part_of t marks (kept t))

-- a spec has no whitespace or backtick, a class only name bytes (K13, K14)
unfoldable pub spec_ok : ℕ → List ℕ → Bool
spec_ok mark s = pick (eqb mark 58) (eqb (front is_name s) (length s)) (eqb (front is_spec_byte s) (length s))

-- a fence, if its spec or class is one (K13, K14)
abbrev pub fenced_of : ℕ → List ℕ → ℕ → ℕ → ℕ → Identified
fenced_of n t mark len start =
    pick (spec_ok mark (part_of t start (kept t)))
    (identified_as (Fenced n len mark (span (n + start) (n + kept t)) false None) n (n + length t))
    (paragraph_at n)

-- three or more backticks, tildes or colons, then at most a spec or class; the opening span is to the line's end (K13, K14)
unfoldable pub fence_of : ℕ → List ℕ → Identified
fence_of n t =
    let mark = get_or t 0 0 in
    let len = front (same mark) t in
    pick (ltb len 3) (paragraph_at n) (fenced_of n t mark len (spec_start t len))

-- `:`, then whitespace or the end: a description item; else a div (K12, K14)
unfoldable pub colon_of : ℕ → List ℕ → Identified
colon_of n t = pick (ends_at t 1) (item_of n t) (fence_of n t)

-- by the first byte (K1)
unfoldable pub begin_of : ℕ → List ℕ → ℕ → Identified
begin_of n t b =
    pick (eqb b 10) (identified_as Blankline n (n + 1))
    (pick (eqb b 35) (heading_of n t)
    (pick (eqb b 62) (quote_of n t)
    (pick (eqb b 123) (attributes_of n t)
    (pick (eqb b 124) (table_of n t)
    (pick (eqb b 91) (definition_of n t)
    (pick (eqb b 45) (rule_of n t)
    (pick (eqb b 42) (rule_of n t)
    (pick (eqb b 58) (colon_of n t)
    (pick (eqb b 96) (fence_of n t)
    (pick (eqb b 126) (fence_of n t)
    (item_of n t)))))))))))

-- an empty line is blank, its opening span to the line's end (K2)
abbrev pub lined_of : ℕ → List ℕ → Identified
lined_of n t = pick (eqb (length t) 0) (identified_as Blankline n n) (begin_of n t (get_or t 0 0))

-- behind the indent (K1)
unfoldable pub identify_of : List ℕ → Identified
identify_of line = lined_of (indent line) (drop (indent line) line)
