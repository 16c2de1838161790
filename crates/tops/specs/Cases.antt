-- Where the blocks of some texts start, computed by the definition. Assumes nothing.
use Rattle.std.specs.Prelude.{◌≡◌, refl, List, [], ◌∷◌, ℕ}
use Rattle.trim.specs.Trim.{part_of}
use Rattle.events.specs.Names.{enter_role, exit_role, inline_role, atom_role, document_node, unordered_node, list_item_node, section_node, paragraph_node, heading_node, blankline_atom}
use Rattle.events.specs.declared.Event.{Event}
use Rattle.tops.specs.Tops.{is_around, open_of, begins_of, line_start, starts_from, starts_of, blocks_of}

abbrev event : ℕ → ℕ → ℕ → Event
event role node p = record { role = role; node = node; start = p; end = p; a = 0; b = 0; c = 0; d = 0 }

-- `a\n\n# b\n - c\n`: a Paragraph, a Blankline, a Heading in its Section, a list with its item (Z1)
abbrev text : List ℕ
text = 97 ∷ 10 ∷ 10 ∷ 35 ∷ 32 ∷ 98 ∷ 10 ∷ 32 ∷ 45 ∷ 32 ∷ 99 ∷ 10 ∷ []

abbrev events : List Event
events =
    event enter_role document_node 0 ∷ event enter_role paragraph_node 0 ∷ event inline_role 0 0 ∷ event exit_role paragraph_node 2 ∷ event atom_role blankline_atom 2
    ∷ event enter_role section_node 3 ∷ event enter_role heading_node 3 ∷ event inline_role 0 5 ∷ event exit_role heading_node 7 ∷ event enter_role unordered_node 8 ∷ event enter_role list_item_node 8 ∷ event enter_role paragraph_node 10 ∷ event inline_role 0 10 ∷ event exit_role paragraph_node 12 ∷ event exit_role list_item_node 12 ∷ event exit_role unordered_node 12
    ∷ event exit_role section_node 12 ∷ event exit_role document_node 12 ∷ []

pub cases :
    (starts_of text events ≡ 0 ∷ 2 ∷ 3 ∷ 7 ∷ [])
    × (blocks_of text (starts_of text events) ≡ (97 ∷ 10 ∷ []) ∷ (10 ∷ []) ∷ (35 ∷ 32 ∷ 98 ∷ 10 ∷ []) ∷ (32 ∷ 45 ∷ 32 ∷ 99 ∷ 10 ∷ []) ∷ [])
    -- the empty text: Document alone (E11)
    × (starts_of [] (event enter_role document_node 0 ∷ event exit_role document_node 0 ∷ []) ≡ [])
unfolding is_around open_of begins_of line_start starts_from blocks_of part_of
cases = (refl, refl, refl)
