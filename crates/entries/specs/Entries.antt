-- The lines of the listing (RULES V1 to V4; DECISIONS B14). Assumes nothing.
use Rattle.std.specs.Prelude.{List, [], ◌∷◌, ◌++◌, ℕ, eqb, get_or}
use Prim.Native.String.{String}
use Rattle.classes.specs.Choice.{pick}
use Rattle.events.specs.Names.{stale_role, enter_role, inline_role, atom_role}
use Rattle.events.specs.declared.Event.{Event}
use Rattle.fields.specs.Fields.{field_of}
use Rattle.entries.specs.Text.{text, decimal_of}

-- nodes and atoms, from 1 on (V2, E3, E4)
abbrev pub nodes : List String
nodes =
    "" ∷ "Document" ∷ "Blockquote" ∷ "Div" ∷ "Unordered" ∷ "Ordered" ∷ "TaskList" ∷ "DescriptionList" ∷ "Item" ∷ "TaskItem" ∷ "DescriptionItem"
    ∷ "Footnote" ∷ "Table" ∷ "TableRow" ∷ "Section" ∷ "Paragraph" ∷ "Heading" ∷ "DescriptionTerm" ∷ "TableCell" ∷ "Caption" ∷ "LinkDefinition"
    ∷ "CodeBlock" ∷ []

abbrev pub atoms : List String
atoms = "" ∷ "Blankline" ∷ "Attributes" ∷ "ThematicBreak" ∷ []

unfoldable pub node_name : ℕ → List ℕ
node_name n = text (get_or nodes n "")

unfoldable pub atom_name : ℕ → List ℕ
atom_name n = text (get_or atoms n "")

-- a number after a space (V1)
unfoldable pub spaced : ℕ → List ℕ
spaced n = text " " ++ decimal_of n

-- a body word, where the node uses it (V1)
unfoldable pub used : ℕ → ℕ → List ℕ
used field n = pick (eqb field 0) [] (spaced n)

-- role, name and span (V1)
unfoldable pub head_of : Event → List ℕ
head_of x =
    pick (eqb x.role inline_role) (text "I")
    (pick (eqb x.role atom_role) (text "A " ++ atom_name x.node)
    (pick (eqb x.role enter_role) (text "E ") (text "X ") ++ node_name x.node))

unfoldable pub body_of : Event → List ℕ
body_of x =
    let f = field_of x.role x.node in
    used (f 0) x.a ++ used (f 1) x.b ++ used (f 2) x.c ++ used (f 3) x.d

-- Stale has no line (V1, V3)
unfoldable pub line_of : Event → List ℕ
line_of x = pick (eqb x.role stale_role) [] (head_of x ++ spaced x.start ++ spaced x.end ++ body_of x ++ text "\n")

-- of all events (V4)
unfoldable pub lines_of : List Event → List ℕ
lines_of [] = []
lines_of (x ∷ xs) = line_of x ++ lines_of xs

-- the last line of a parse, and the only one of a refused parse (V4)
unfoldable pub looks_line : ℕ → List ℕ
looks_line n = text "looks" ++ spaced n ++ text "\n"

unfoldable pub refused_line : ℕ → ℕ → List ℕ
refused_line number position = text "refused" ++ spaced number ++ text " at" ++ spaced position ++ text "\n"
