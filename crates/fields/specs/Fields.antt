-- What a record of each node holds, its widths and its ranges (RULES E3 to E8, N1, N3, N6, N7). Assumes nothing.
use Rattle.std.specs.Prelude.{Bool, true, false, not, List, [], ◌∷◌, ℕ, ◌+◌, ◌*◌, ◌%◌, eqb, leb, get_or}
use Rattle.classes.specs.Choice.{pick, both, either}
use Rattle.events.specs.Names.{enter_role, exit_role, inline_role, atom_role, document_node, code_block_node, blankline_atom, thematic_break_atom}
use Rattle.events.specs.declared.Event.{Event}

-- the bytes of an offset (N3); the largest that they hold is `largest`: request 9 will give a second width
abbrev pub offset : ℕ
offset = 3

-- what each of the four body words of a node is: nothing (0), an offset (1), a flag (2), a bullet (3), numbering x 4 + style (4),
-- half a value (5), a level (6), an alignment (7); by E3
unfoldable pub fields : List (List ℕ)
fields =
    (0 ∷ 0 ∷ 0 ∷ 0 ∷ [])  -- none
    ∷ (0 ∷ 0 ∷ 0 ∷ 0 ∷ [])  -- Document
    ∷ (0 ∷ 0 ∷ 0 ∷ 0 ∷ [])  -- Blockquote
    ∷ (1 ∷ 1 ∷ 0 ∷ 0 ∷ [])  -- Div
    ∷ (2 ∷ 3 ∷ 0 ∷ 0 ∷ [])  -- Unordered
    ∷ (2 ∷ 4 ∷ 5 ∷ 5 ∷ [])  -- Ordered
    ∷ (2 ∷ 3 ∷ 0 ∷ 0 ∷ [])  -- TaskList
    ∷ (2 ∷ 0 ∷ 0 ∷ 0 ∷ [])  -- DescriptionList
    ∷ (0 ∷ 0 ∷ 0 ∷ 0 ∷ [])  -- Item
    ∷ (2 ∷ 0 ∷ 0 ∷ 0 ∷ [])  -- TaskItem
    ∷ (0 ∷ 0 ∷ 0 ∷ 0 ∷ [])  -- DescriptionItem
    ∷ (1 ∷ 1 ∷ 0 ∷ 0 ∷ [])  -- Footnote
    ∷ (0 ∷ 0 ∷ 0 ∷ 0 ∷ [])  -- Table
    ∷ (2 ∷ 0 ∷ 0 ∷ 0 ∷ [])  -- TableRow
    ∷ (1 ∷ 0 ∷ 0 ∷ 0 ∷ [])  -- Section
    ∷ (0 ∷ 0 ∷ 0 ∷ 0 ∷ [])  -- Paragraph
    ∷ (6 ∷ 2 ∷ 1 ∷ 0 ∷ [])  -- Heading
    ∷ (0 ∷ 0 ∷ 0 ∷ 0 ∷ [])  -- DescriptionTerm
    ∷ (7 ∷ 0 ∷ 0 ∷ 0 ∷ [])  -- TableCell
    ∷ (0 ∷ 0 ∷ 0 ∷ 0 ∷ [])  -- Caption
    ∷ (1 ∷ 1 ∷ 0 ∷ 0 ∷ [])  -- LinkDefinition
    ∷ (1 ∷ 1 ∷ 0 ∷ 0 ∷ [])  -- CodeBlock
    ∷ []

unfoldable pub within : ℕ → ℕ → ℕ → Bool
within lo hi x = both (leb lo x) (leb x hi)

-- Enter and Exit of a node, an Inline, an Atom of the three (N6)
unfoldable pub is_listed : ℕ → ℕ → Bool
is_listed role node =
    pick (eqb role enter_role) (within document_node code_block_node node)
    (pick (eqb role exit_role) (within document_node code_block_node node)
    (pick (eqb role inline_role) (eqb node 0)
    (pick (eqb role atom_role) (within blankline_atom thematic_break_atom node)
    false)))

-- body word i of such an event: nothing in an Inline or an Atom (E3 to E5)
unfoldable pub field_of : ℕ → ℕ → ℕ → ℕ
field_of role node i = pick (within enter_role exit_role role) (get_or (get_or fields node []) i 0) 0

-- the four fields of an event, and each body word with its field
abbrev pub row_of : ℕ → ℕ → List ℕ
row_of role node = let f = field_of role node in f 0 ∷ f 1 ∷ f 2 ∷ f 3 ∷ []

abbrev pub pairs_of : Event → List (ℕ × ℕ)
pairs_of x = let f = field_of x.role x.node in (f 0, x.a) ∷ (f 1, x.b) ∷ (f 2, x.c) ∷ (f 3, x.d) ∷ []

-- the bytes of a field, where an offset has o (N3)
unfoldable pub width_of : ℕ → ℕ → ℕ
width_of o field =
    pick (eqb field 0) 0
    (pick (eqb field 1) o
    (pick (eqb field 5) 4
    (pick (eqb field 6) 2
    1)))

-- a bullet's byte (E6)
abbrev pub is_bullet : ℕ → Bool
is_bullet x = either (eqb x 42) (either (eqb x 43) (eqb x 45))

-- numbering is 1 to 5 and style 0 to 2 (E7)
abbrev pub is_type : ℕ → Bool
is_type x = both (within 4 22 x) (not (eqb (x % 4) 3))

-- and its range (N7), where the largest offset is `most`: flags are 0 or 1, bullets `*`, `+`, `-`, half a value is any word, a level is 1 or more
unfoldable pub in_range : ℕ → ℕ → ℕ → Bool
in_range most field x =
    pick (eqb field 0) (eqb x 0)
    (pick (eqb field 1) (leb x most)
    (pick (eqb field 2) (leb x 1)
    (pick (eqb field 3) (is_bullet x)
    (pick (eqb field 4) (is_type x)
    (pick (eqb field 5) true
    (pick (eqb field 6) (within 1 65535 x)
    (leb x 3)))))))

-- a body's pair is in order (N7)
abbrev pub in_order : Event → Bool
in_order x = either (not (eqb (field_of x.role x.node 0) 1)) (either (not (eqb (field_of x.role x.node 1) 1)) (leb x.a x.b))

-- every word in its range, the span in order, and a body's pair too (N7)
unfoldable pub is_ranged : ℕ → Event → Bool
is_ranged most x =
    let f = field_of x.role x.node in
    both (leb x.start x.end) (both (in_range most 1 x.end)
    (both (in_range most (f 0) x.a) (both (in_range most (f 1) x.b) (both (in_range most (f 2) x.c) (both (in_range most (f 3) x.d)
    (in_order x))))))

-- the record's bytes: kind, start, end, body (N1, N3)
unfoldable pub size_of : ℕ → ℕ → ℕ → ℕ
size_of o role node =
    let f = field_of role node in
    1 + o + o + width_of o (f 0) + width_of o (f 1) + width_of o (f 2) + width_of o (f 3)
