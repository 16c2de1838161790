-- What the one test of a line tells, before the line's kind is known and by that kind: the same rules as in Continue (RULES H2 to H16). Assumes nothing.
use Rattle.std.specs.Prelude.{◌≡◌, Bool, true, false, Option, Some, None, List, ℕ, ◌+◌, eqb, get_or}
use Rattle.classes.specs.Choice.{pick, both, either}
use Rattle.lines.specs.Lines.{Span}
use Rattle.trim.specs.Trim.{indent}
use Rattle.kinds.specs.Identify.{identify_of}
use Rattle.kinds.specs.declared.Identified.{Identified}
use Rattle.kinds.specs.declared.Kind.{Kind}
use Rattle.kinds.specs.declared.Kind.TheVariants.{Blankline, Attributes, ThematicBreak, Paragraph, Heading, Fenced, Definition, Blockquote, ListItem, Table}
use Rattle.kinds.specs.declared.Nested.{Nested}
use Rattle.measure.specs.Continue.{Taken, taken_as, blankline_kind, paragraph_kind, heading_kind, blockquote_kind, kind_num, level_of, fence_in, num_of, indented_on, by_fence, refence, continues_of}
use Rattle.measure.specs.declared.Fence.{Fence}
use Rattle.measure.specs.declared.Measured.{Measured}

-- the first byte after the indent is `>`
unfoldable pub opens_quote : List ℕ → Bool
opens_quote line = eqb (get_or line (indent line) 0) 62

-- a fenced block, after a line that is a fence or none
abbrev pub late_fence : ℕ → ℕ → ℕ → Span → Bool → Option Nested → Option Fence → Kind
late_fence i l m s c n None = Fenced i l m s c n
late_fence i l m s c n (Some f) = refence i l m s (by_fence l m n f)

-- by the kind that the line begins, where that is asked for (H4 to H6, H9 to H12)
abbrev pub late_of : Kind → Kind → Taken
late_of Blankline k = taken_as (eqb (kind_num k) paragraph_kind) Blankline
late_of Attributes k = taken_as (eqb (kind_num k) paragraph_kind) Attributes
late_of ThematicBreak k = taken_as (eqb (kind_num k) paragraph_kind) ThematicBreak
late_of Paragraph k = taken_as (eqb (kind_num k) paragraph_kind) Paragraph
late_of (Heading l) k = taken_as (either (eqb (kind_num k) paragraph_kind) (both (eqb (kind_num k) heading_kind) (eqb (level_of k) l))) (Heading l)
late_of (Fenced i l m s c n) k = taken_as true (late_fence i l m s c n (fence_in k))
late_of (Definition i f s b) k = taken_as (eqb (kind_num k) paragraph_kind) (Definition i f s b)
late_of Blockquote k = taken_as (either (eqb (kind_num k) paragraph_kind) (eqb (kind_num k) blockquote_kind)) Blockquote
late_of (ListItem i m b) k = taken_as (eqb (kind_num k) paragraph_kind) (ListItem i m b)
late_of (Table c b) k = taken_as (eqb (kind_num k) paragraph_kind) (Table c b)

-- what is told early of a block and a line is right, and where nothing is told the line's kind decides
abbrev pub Tells : Kind → List ℕ → Option Bool → Kind → Type 0
Tells k line None after = (after ≡ k) × (continues_of k line ≡ late_of k (identify_of line).kind)
Tells k line (Some t) after = continues_of k line ≡ taken_as t after

-- an item's or a footnote's line: whether it is taken, and whether it is blank
abbrev pub Indented : ℕ → Bool → List ℕ → Option Bool → Bool → Type 0
Indented i last line None after = (after ≡ last) × (last ≡ eqb (num_of line) blankline_kind) × (indented_on i last (num_of line) line ≡ eqb (num_of line) paragraph_kind)
Indented i last line (Some true) after = (indented_on i last (num_of line) line ≡ true) × (after ≡ eqb (num_of line) blankline_kind)
Indented i last line (Some false) after = (indented_on i last (num_of line) line ≡ false) × (after ≡ last)

-- whether a line is taken, and the block after it
pub record Looked : Type 0 where
  pub taken : Bool
  pub block : Measured

abbrev pub looked_as : Bool → Measured → Looked
looked_as t m = record { taken = t; block = m }

abbrev pub begun_as : Measured → Identified → Looked
begun_as m x = looked_as true (record m { kind = x.kind; opening = x.opening; looks = m.looks + 1 })

abbrev pub goes_as : Measured → Taken → Looked
goes_as m t = looked_as t.taken (record m { kind = t.kind; looks = m.looks + 1 })

-- one look, counted: the line begins the block that has no line yet, or continues it, or does not (H16)
unfoldable pub look_of : Measured → List ℕ → Looked
look_of m line = pick (eqb m.lines 0) (begun_as m (identify_of line)) (goes_as m (continues_of m.kind line))
