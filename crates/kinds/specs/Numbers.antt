-- The kinds' numbers, in the order of `Kind`. Assumes nothing.
use Rattle.std.specs.Prelude.{ℕ}
use Rattle.kinds.specs.declared.Kind.{Kind}
use Rattle.kinds.specs.declared.Kind.TheVariants.{Blankline, Attributes, ThematicBreak, Paragraph, Heading, Fenced, Definition, Blockquote, ListItem, Table}

abbrev pub blankline_kind : ℕ
blankline_kind = 1

abbrev pub attributes_kind : ℕ
attributes_kind = 2

abbrev pub thematic_break_kind : ℕ
thematic_break_kind = 3

abbrev pub paragraph_kind : ℕ
paragraph_kind = 4

abbrev pub heading_kind : ℕ
heading_kind = 5

abbrev pub fenced_kind : ℕ
fenced_kind = 6

abbrev pub definition_kind : ℕ
definition_kind = 7

abbrev pub blockquote_kind : ℕ
blockquote_kind = 8

abbrev pub list_item_kind : ℕ
list_item_kind = 9

abbrev pub table_kind : ℕ
table_kind = 10

abbrev pub kind_num : Kind → ℕ
kind_num Blankline = blankline_kind
kind_num Attributes = attributes_kind
kind_num ThematicBreak = thematic_break_kind
kind_num Paragraph = paragraph_kind
kind_num (Heading l) = heading_kind
kind_num (Fenced i l m s c n) = fenced_kind
kind_num (Definition i f s b) = definition_kind
kind_num Blockquote = blockquote_kind
kind_num (ListItem i m b) = list_item_kind
kind_num (Table c b) = table_kind
