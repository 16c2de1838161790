-- Whether a line continues a block, and the block's kind after it (RULES H2 to H14; DIFFERENCES A10 to A12). Assumes nothing.
use Rattle.std.specs.Prelude.{Bool, true, false, not, Option, Some, None, List, ℕ, eqb, leb, ltb, length, get_or}
use Rattle.classes.specs.Choice.{pick, both, either}
use Rattle.lines.specs.Lines.{Span}
use Rattle.trim.specs.Trim.{lead, trim_both}
use Rattle.kinds.specs.Bytes.{bar_end}
use Rattle.kinds.specs.Identify.{identify_of}
use Rattle.kinds.specs.declared.Kind.{Kind}
use Rattle.kinds.specs.declared.Kind.TheVariants.{Blankline, Attributes, ThematicBreak, Paragraph, Heading, Fenced, Definition, Blockquote, ListItem, Table}
use Rattle.kinds.specs.declared.Nested.{Nested}
use Rattle.markers.specs.declared.Marker.{Marker}
use Rattle.measure.specs.declared.Fence.{Fence}
use Rattle.measure.specs.declared.Inner.{Inner}
-- the kinds' numbers are those of `kinds`
pub use Rattle.kinds.specs.Numbers.{blankline_kind, attributes_kind, thematic_break_kind, paragraph_kind, heading_kind, fenced_kind, definition_kind, blockquote_kind, list_item_kind, table_kind, kind_num}

-- whether a line continues a block, and the block's kind after it
pub record Taken : Type 0 where
  pub taken : Bool
  pub kind : Kind

abbrev pub taken_as : Bool → Kind → Taken
taken_as t k = record { taken = t; kind = k }

abbrev pub fence : ℕ → ℕ → Bool → Fence
fence m l b = record { mark = m; length = l; bare = b }

abbrev pub nested : ℕ → ℕ → Nested
nested m l = record { mark = m; length = l }

abbrev pub inner : Bool → Option Nested → Inner
inner c n = record { closed = c; nested = n }

-- a heading's level, 0: no heading (K3)
abbrev pub level_of : Kind → ℕ
level_of Blankline = 0
level_of Attributes = 0
level_of ThematicBreak = 0
level_of Paragraph = 0
level_of (Heading l) = l
level_of (Fenced i l m s c n) = 0
level_of (Definition i f s b) = 0
level_of Blockquote = 0
level_of (ListItem i m b) = 0
level_of (Table c b) = 0

-- a fence line's mark and length, and whether its spec is empty (H10)
abbrev pub fence_in : Kind → Option Fence
fence_in Blankline = None
fence_in Attributes = None
fence_in ThematicBreak = None
fence_in Paragraph = None
fence_in (Heading l) = None
fence_in (Fenced i l m s c n) = Some (fence m l (eqb s.start s.end))
fence_in (Definition i f s b) = None
fence_in Blockquote = None
fence_in (ListItem i m b) = None
fence_in (Table c b) = None

-- the number of the kind that a line begins
unfoldable pub num_of : List ℕ → ℕ
num_of line = kind_num (identify_of line).kind

-- whitespace alone (G8)
unfoldable pub blank_line : List ℕ → Bool
blank_line line = eqb (lead line) (length line)

-- Blockquote and Paragraph lines (H5)
unfoldable pub quote_on : List ℕ → Bool
quote_on line = either (eqb (num_of line) paragraph_kind) (eqb (num_of line) blockquote_kind)

-- Paragraph lines and headings of the same level (H4)
unfoldable pub heading_on : ℕ → List ℕ → Bool
heading_on level line =
    either (eqb (num_of line) paragraph_kind) (both (eqb (num_of line) heading_kind) (eqb (level_of (identify_of line).kind) level))

-- lines that start with a space and are not blank (H8; A10)
unfoldable pub link_on : List ℕ → Bool
link_on line = both (eqb (get_or line 0 0) 32) (not (blank_line line))

-- blanks, more indented lines, and Paragraph lines not after a blank; n is the number of the line's kind (H6, H7)
unfoldable pub indented_on : ℕ → Bool → ℕ → List ℕ → Bool
indented_on indent last n line = either (eqb n blankline_kind) (either (ltb indent (lead line)) (both (not last) (eqb n paragraph_kind)))

-- a row: `|`, and ending in `|` but not `\|`, one byte being enough (H13; A12)
unfoldable pub row_on : List ℕ → Bool
row_on row = both (eqb (get_or row 0 0) 124) (bar_end row)

-- `^ `, the line trimmed at both ends (H14; A11)
unfoldable pub caption_at : List ℕ → Bool
caption_at row = both (eqb (get_or row 0 0) 94) (eqb (get_or row 1 0) 32)

-- a fence of this kind in a block of this length and mark
abbrev pub by_fence : ℕ → ℕ → Option Nested → Fence → Inner
by_fence size mark (Some x) f = pick (both (eqb f.mark x.mark) (both (leb x.length f.length) f.bare)) (inner false None) (inner false (Some x))
by_fence size mark None f =
    pick (eqb f.mark mark) (inner (both (leb size f.length) f.bare) None)
    (pick (eqb mark 58) (inner false (Some (nested f.mark f.length)))
    (inner false None))

-- in an open fenced block: a code fence open inside it is closed by one as long, with no spec, of the same mark;
-- else a fence of the block's own mark closes it if it is as long, with no spec; else a code fence inside a div opens (H10 to H12)
unfoldable pub after_fence : ℕ → ℕ → Option Nested → Option Fence → Inner
after_fence size mark n None = inner false n
after_fence size mark n (Some f) = by_fence size mark n f

abbrev pub refence : ℕ → ℕ → ℕ → Span → Inner → Kind
refence i l m s x = Fenced i l m s x.closed x.nested

-- every line until the block is closed (H9)
unfoldable pub open_fence : ℕ → ℕ → ℕ → Span → Bool → Option Nested → List ℕ → Taken
open_fence i l m s c n line =
    pick c (taken_as false (Fenced i l m s c n)) (taken_as true (refence i l m s (after_fence l m n (fence_in (identify_of line).kind))))

-- a footnote as an item; a link definition (H6, H8)
unfoldable pub definition_on : ℕ → Bool → Span → Bool → List ℕ → Taken
definition_on i f s last line =
    pick f
    (pick (indented_on i last (num_of line) line) (taken_as true (Definition i f s (eqb (num_of line) blankline_kind))) (taken_as false (Definition i f s last)))
    (taken_as (link_on line) (Definition i f s last))

-- an item, which remembers a blank line (H6)
unfoldable pub item_on : ℕ → Marker → Bool → List ℕ → Taken
item_on i m last line =
    pick (indented_on i last (num_of line) line) (taken_as true (ListItem i m (eqb (num_of line) blankline_kind))) (taken_as false (ListItem i m last))

-- a caption's lines up to a blank; before it rows, then blanks, then `^ ` (H13, H14)
unfoldable pub table_on : Bool → Bool → List ℕ → Taken
table_on caption blank line =
    let row = trim_both line in
    pick caption (taken_as (not (eqb (length row) 0)) (Table caption blank))
    (pick (eqb (length row) 0) (taken_as true (Table caption true))
    (pick (caption_at row) (taken_as true (Table true blank))
    (pick blank (taken_as false (Table caption blank))
    (taken_as (row_on row) (Table caption blank)))))

-- atoms never; a paragraph until blank; the rest as above (H2 to H14)
unfoldable pub continues_of : Kind → List ℕ → Taken
continues_of Blankline line = taken_as false Blankline
continues_of Attributes line = taken_as false Attributes
continues_of ThematicBreak line = taken_as false ThematicBreak
continues_of Paragraph line = taken_as (not (blank_line line)) Paragraph
continues_of (Heading l) line = taken_as (heading_on l line) (Heading l)
continues_of (Fenced i l m s c n) line = open_fence i l m s c n line
continues_of (Definition i f s b) line = definition_on i f s b line
continues_of Blockquote line = taken_as (quote_on line) Blockquote
continues_of (ListItem i m b) line = item_on i m b line
continues_of (Table c b) line = table_on c b line
