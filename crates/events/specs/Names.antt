-- Roles, nodes and atoms (RULES E2 to E4), the words of an event (E1), and limits (R1), each named once; src/lib.rt has the code's names. Assumes nothing.
use Rattle.std.specs.Prelude.{ℕ}

-- ---- roles (E2)
abbrev pub stale_role : ℕ
stale_role = 0

abbrev pub enter_role : ℕ
enter_role = 1

abbrev pub exit_role : ℕ
exit_role = 2

abbrev pub inline_role : ℕ
inline_role = 3

abbrev pub atom_role : ℕ
atom_role = 4

-- ---- the nodes of Enter and Exit (E3)
abbrev pub document_node : ℕ
document_node = 1

abbrev pub blockquote_node : ℕ
blockquote_node = 2

abbrev pub div_node : ℕ
div_node = 3

abbrev pub unordered_node : ℕ
unordered_node = 4

abbrev pub ordered_node : ℕ
ordered_node = 5

abbrev pub task_list_node : ℕ
task_list_node = 6

abbrev pub description_list_node : ℕ
description_list_node = 7

abbrev pub list_item_node : ℕ
list_item_node = 8

abbrev pub task_item_node : ℕ
task_item_node = 9

abbrev pub description_item_node : ℕ
description_item_node = 10

abbrev pub footnote_node : ℕ
footnote_node = 11

abbrev pub table_node : ℕ
table_node = 12

abbrev pub table_row_node : ℕ
table_row_node = 13

abbrev pub section_node : ℕ
section_node = 14

abbrev pub paragraph_node : ℕ
paragraph_node = 15

abbrev pub heading_node : ℕ
heading_node = 16

abbrev pub description_term_node : ℕ
description_term_node = 17

abbrev pub table_cell_node : ℕ
table_cell_node = 18

abbrev pub caption_node : ℕ
caption_node = 19

abbrev pub link_definition_node : ℕ
link_definition_node = 20

abbrev pub code_block_node : ℕ
code_block_node = 21

-- ---- the nodes of an Atom (E4)
abbrev pub blankline_atom : ℕ
blankline_atom = 1

abbrev pub attributes_atom : ℕ
attributes_atom = 2

abbrev pub thematic_break_atom : ℕ
thematic_break_atom = 3

-- ---- the words of an event (E1)
abbrev pub role_word : ℕ
role_word = 0

abbrev pub node_word : ℕ
node_word = 1

abbrev pub start_word : ℕ
start_word = 2

abbrev pub end_word : ℕ
end_word = 3

-- the body: a, b, c, d
abbrev pub body_word : ℕ
body_word = 4

abbrev pub body_word_b : ℕ
body_word_b = 5

abbrev pub body_word_c : ℕ
body_word_c = 6

abbrev pub body_word_d : ℕ
body_word_d = 7

-- ---- limits
-- the largest offset, and so the longest text (R1)
abbrev pub largest : ℕ
largest = 16777215

-- the most events that can be open (R1)
abbrev pub most : ℕ
most = 128

-- how deep containers, sections and lists nest at most (R1): a list is opened by an item, and inside a container one list is open at most
abbrev pub deepest : ℕ
deepest = 32

-- the words of an open list, and of as many as there can be
abbrev pub list_width : ℕ
list_width = 5

abbrev pub list_room : ℕ
list_room = 160
