-- The data of a kind, one function a field; where a kind has none, nothing. Assumes nothing.
use Rattle.std.specs.Prelude.{Bool, true, false, ℕ, eqb}
use Rattle.kinds.specs.declared.Kind.{Kind}
use Rattle.kinds.specs.declared.Kind.TheVariants.{Blankline, Attributes, ThematicBreak, Paragraph, Heading, Fenced, Definition, Blockquote, ListItem, Table}
use Rattle.markers.specs.declared.Marker.{Marker}
use Rattle.markers.specs.declared.Marker.TheVariants.{Nothing}

-- the indent of a fence, a definition or an item (H7, I6, P5)
abbrev pub indent_of : Kind → ℕ
indent_of Blankline = 0
indent_of Attributes = 0
indent_of ThematicBreak = 0
indent_of Paragraph = 0
indent_of (Heading l) = 0
indent_of (Fenced i l m s c n) = i
indent_of (Definition i f s b) = i
indent_of Blockquote = 0
indent_of (ListItem i m b) = i
indent_of (Table c b) = 0

-- where the spec, class or label starts, from the line's start (I8)
abbrev pub from_of : Kind → ℕ
from_of Blankline = 0
from_of Attributes = 0
from_of ThematicBreak = 0
from_of Paragraph = 0
from_of (Heading l) = 0
from_of (Fenced i l m s c n) = s.start
from_of (Definition i f s b) = s.start
from_of Blockquote = 0
from_of (ListItem i m b) = 0
from_of (Table c b) = 0

-- and where it ends (I8)
abbrev pub to_of : Kind → ℕ
to_of Blankline = 0
to_of Attributes = 0
to_of ThematicBreak = 0
to_of Paragraph = 0
to_of (Heading l) = 0
to_of (Fenced i l m s c n) = s.end
to_of (Definition i f s b) = s.end
to_of Blockquote = 0
to_of (ListItem i m b) = 0
to_of (Table c b) = 0

-- a fence that was closed (O2)
abbrev pub closed_of : Kind → Bool
closed_of Blankline = false
closed_of Attributes = false
closed_of ThematicBreak = false
closed_of Paragraph = false
closed_of (Heading l) = false
closed_of (Fenced i l m s c n) = c
closed_of (Definition i f s b) = false
closed_of Blockquote = false
closed_of (ListItem i m b) = false
closed_of (Table c b) = false

-- an item's marker (K10 to K12, K15)
abbrev pub marker_in : Kind → Marker
marker_in Blankline = Nothing
marker_in Attributes = Nothing
marker_in ThematicBreak = Nothing
marker_in Paragraph = Nothing
marker_in (Heading l) = Nothing
marker_in (Fenced i l m s c n) = Nothing
marker_in (Definition i f s b) = Nothing
marker_in Blockquote = Nothing
marker_in (ListItem i m b) = m
marker_in (Table c b) = Nothing

-- containers: Blockquote, Div, list item, Footnote (P1)
abbrev pub is_container : Kind → Bool
is_container Blankline = false
is_container Attributes = false
is_container ThematicBreak = false
is_container Paragraph = false
is_container (Heading l) = false
is_container (Fenced i l m s c n) = eqb m 58
is_container (Definition i f s b) = f
is_container Blockquote = true
is_container (ListItem i m b) = true
is_container (Table c b) = false
