-- A list that goes on, and one that does not: texts whose events are computed by the definition. Assumes nothing.
use mathlib.Core.Path.{◌≡◌, refl}
use mathlib.Core.List.{List, [], ◌∷◌}
use Prim.Native.Nat.{ℕ}
use lib.ListN.{replicate}
use Rattle.classes.specs.Classes.{within, is_space, is_name, is_bullet, is_punct}
use Rattle.lines.specs.Lines.{place_of, lines_from, lines_of, words_of, spans_of, split_of, split_words}
use Rattle.trim.specs.Label.{defines_of, label_start, label_of}
use Rattle.trim.specs.Trim.{front, is_gap, kept, trim_start, trim_end, trim_both, part_of, trim_span}
use Rattle.numbers.specs.Numbers.{digit_of, decimal_of, letter_of, roman_of, alpha_of, numeral_of, begins_of, run_by}
use Rattle.markers.specs.Markers.{ends_at, style_of, begun_of, numbered_of, ordered_of, bullet_ends, box_mark, task_at, bullet_of, description_of, marker_of}
use Rattle.markers.specs.Lists.{letter_rank, also_of, ambiguity_of, by_next, by_letters, ordered_on, unordered_on, task_on, description_on, continues_of}
use Rattle.attrs.specs.Machine.{sign_class, class_of, next_of, step_of, valid_from, valid_of}
use Rattle.rows.specs.Rows.{ticks_of, after_run, hides_at, cell_from, cell_of, dashes_of, dashed, separator_of, alignment_of}
use Rattle.kinds.specs.Identify.{heading_of, quote_of, attributes_of, table_of, definition_of, item_of, rule_of, spec_start, spec_ok, fence_of, colon_of, begin_of, identify_of}
use Rattle.kinds.specs.Bytes.{is_spec_byte, break_of, bar_end}
use Rattle.measure.specs.Continue.{num_of, blank_line, quote_on, heading_on, link_on, indented_on, row_on, caption_at, after_fence, open_fence, definition_on, item_on, table_on}
use Rattle.measure.specs.Continue as u1
use Rattle.measure.specs.Measure.{line_of, extend_of, measure_of}
use Rattle.events.specs.State.{go}
use Rattle.events.specs.Events.{push_of, patch_of, edit_of, cut_of, enter_of, close_of, exit_of}
use Rattle.lists.specs.Lists.{numbering_by, style_by, type_of, push_list_of, last_list_of, set_list_of, pop_list_of, retype_of, end_of, close_list_of}
use Rattle.lists.specs.Lists as u2
use Rattle.moves.specs.Moves.{first_from, find_of, other_of, shift_of, exits_of, all_before, sections_of}
use Rattle.events.specs.Names.{largest}
use Rattle.walk.specs.Leaf.{trim_marks, leaf_line, inline_of, line_event, inlines_of, kept_of, begin_section, end_sections, section_at, section_of, leaf_node, leaf_of}
use Rattle.walk.specs.Tree.{last_line, met_of, count_of, admit_of, settle_of, loose_at, loosen_of, quote_prefix, skip_of, prefix_of, strip_lines, open_list, open_term, item_node, container_node, open_container, clear_term, detail_start, place_detail, move_term, term_of, settle_term, close_inner, close_container, run_of, skip_opening, container_of, plain_of, body_of, ready_of, block_of, container_at}
use Rattle.walk.specs.Table.{caption_line, caption_lines, caption_of, cell_at, align_at, cell_events, cells_of, align_cells, head_of, separate_of, end_row, row_of, rows_of}
use Rattle.walk.specs.Table as u3
use Rattle.walk.specs.Document.{close_lists, close_sections, close_all, document_of}
use Rattle.parse.specs.Parse.{finish, parse_of}
use Rattle.parse.specs.Parse.{limits}

-- an event's words: role, node, start, end, four of body; of an Ordered list (5): tight, its type (4: decimal, a period), its value, in two words
-- `6. a\n\n7. b\n`: one list from 6, of two items
abbrev onward : List ℕ
onward = 54 ∷ 46 ∷ 32 ∷ 97 ∷ 10 ∷ 10 ∷ 55 ∷ 46 ∷ 32 ∷ 98 ∷ 10 ∷ []

abbrev one_list : List ℕ
one_list =
    1 ∷ 1 ∷ 0 ∷ 0 ∷ 0 ∷ 0 ∷ 0 ∷ 0 ∷
    1 ∷ 5 ∷ 0 ∷ 0 ∷ 0 ∷ 4 ∷ 6 ∷ 0 ∷
    1 ∷ 8 ∷ 0 ∷ 2 ∷ 0 ∷ 0 ∷ 0 ∷ 0 ∷
    1 ∷ 15 ∷ 3 ∷ 3 ∷ 0 ∷ 0 ∷ 0 ∷ 0 ∷
    3 ∷ 0 ∷ 3 ∷ 4 ∷ 0 ∷ 0 ∷ 0 ∷ 0 ∷
    2 ∷ 15 ∷ 5 ∷ 5 ∷ 0 ∷ 0 ∷ 0 ∷ 0 ∷
    4 ∷ 1 ∷ 5 ∷ 6 ∷ 0 ∷ 0 ∷ 0 ∷ 0 ∷
    2 ∷ 8 ∷ 6 ∷ 6 ∷ 0 ∷ 0 ∷ 0 ∷ 0 ∷
    1 ∷ 8 ∷ 6 ∷ 8 ∷ 0 ∷ 0 ∷ 0 ∷ 0 ∷
    1 ∷ 15 ∷ 9 ∷ 9 ∷ 0 ∷ 0 ∷ 0 ∷ 0 ∷
    3 ∷ 0 ∷ 9 ∷ 10 ∷ 0 ∷ 0 ∷ 0 ∷ 0 ∷
    2 ∷ 15 ∷ 11 ∷ 11 ∷ 0 ∷ 0 ∷ 0 ∷ 0 ∷
    2 ∷ 8 ∷ 11 ∷ 11 ∷ 0 ∷ 0 ∷ 0 ∷ 0 ∷
    2 ∷ 5 ∷ 11 ∷ 11 ∷ 0 ∷ 4 ∷ 6 ∷ 0 ∷
    2 ∷ 1 ∷ 11 ∷ 11 ∷ 0 ∷ 0 ∷ 0 ∷ 0 ∷
    []

-- `7. a\n\nb\n\n1. c\n`: a list from 7, a paragraph, a list from 1
abbrev anew : List ℕ
anew = 55 ∷ 46 ∷ 32 ∷ 97 ∷ 10 ∷ 10 ∷ 98 ∷ 10 ∷ 10 ∷ 49 ∷ 46 ∷ 32 ∷ 99 ∷ 10 ∷ []

abbrev two_lists : List ℕ
two_lists =
    1 ∷ 1 ∷ 0 ∷ 0 ∷ 0 ∷ 0 ∷ 0 ∷ 0 ∷
    1 ∷ 5 ∷ 0 ∷ 0 ∷ 1 ∷ 4 ∷ 7 ∷ 0 ∷
    1 ∷ 8 ∷ 0 ∷ 2 ∷ 0 ∷ 0 ∷ 0 ∷ 0 ∷
    1 ∷ 15 ∷ 3 ∷ 3 ∷ 0 ∷ 0 ∷ 0 ∷ 0 ∷
    3 ∷ 0 ∷ 3 ∷ 4 ∷ 0 ∷ 0 ∷ 0 ∷ 0 ∷
    2 ∷ 15 ∷ 5 ∷ 5 ∷ 0 ∷ 0 ∷ 0 ∷ 0 ∷
    4 ∷ 1 ∷ 5 ∷ 6 ∷ 0 ∷ 0 ∷ 0 ∷ 0 ∷
    2 ∷ 8 ∷ 6 ∷ 6 ∷ 0 ∷ 0 ∷ 0 ∷ 0 ∷
    2 ∷ 5 ∷ 6 ∷ 6 ∷ 1 ∷ 4 ∷ 7 ∷ 0 ∷
    1 ∷ 15 ∷ 6 ∷ 6 ∷ 0 ∷ 0 ∷ 0 ∷ 0 ∷
    3 ∷ 0 ∷ 6 ∷ 7 ∷ 0 ∷ 0 ∷ 0 ∷ 0 ∷
    2 ∷ 15 ∷ 8 ∷ 8 ∷ 0 ∷ 0 ∷ 0 ∷ 0 ∷
    4 ∷ 1 ∷ 8 ∷ 9 ∷ 0 ∷ 0 ∷ 0 ∷ 0 ∷
    1 ∷ 5 ∷ 9 ∷ 9 ∷ 1 ∷ 4 ∷ 1 ∷ 0 ∷
    1 ∷ 8 ∷ 9 ∷ 11 ∷ 0 ∷ 0 ∷ 0 ∷ 0 ∷
    1 ∷ 15 ∷ 12 ∷ 12 ∷ 0 ∷ 0 ∷ 0 ∷ 0 ∷
    3 ∷ 0 ∷ 12 ∷ 13 ∷ 0 ∷ 0 ∷ 0 ∷ 0 ∷
    2 ∷ 15 ∷ 14 ∷ 14 ∷ 0 ∷ 0 ∷ 0 ∷ 0 ∷
    2 ∷ 8 ∷ 14 ∷ 14 ∷ 0 ∷ 0 ∷ 0 ∷ 0 ∷
    2 ∷ 5 ∷ 14 ∷ 14 ∷ 1 ∷ 4 ∷ 1 ∷ 0 ∷
    2 ∷ 1 ∷ 14 ∷ 14 ∷ 0 ∷ 0 ∷ 0 ∷ 0 ∷
    []

computed : ((parse_of largest limits onward (replicate 6 0) (replicate 120 0)).events ≡ one_list) × ((parse_of largest limits anew (replicate 10 0) (replicate 168 0)).events ≡ two_lists)
unfolding within is_space is_name is_bullet is_punct place_of lines_from lines_of words_of spans_of split_of split_words defines_of label_start label_of front is_gap kept trim_start trim_end trim_both part_of trim_span digit_of decimal_of letter_of roman_of alpha_of numeral_of begins_of run_by ends_at style_of begun_of numbered_of ordered_of bullet_ends box_mark task_at bullet_of description_of marker_of letter_rank also_of ambiguity_of by_next by_letters ordered_on unordered_on task_on description_on continues_of sign_class class_of next_of step_of valid_from valid_of ticks_of after_run hides_at cell_from cell_of dashes_of dashed separator_of alignment_of heading_of quote_of attributes_of table_of definition_of item_of rule_of spec_start spec_ok fence_of colon_of begin_of identify_of is_spec_byte break_of bar_end num_of blank_line quote_on heading_on link_on indented_on row_on caption_at after_fence open_fence definition_on item_on table_on u1.continues_of line_of extend_of measure_of go push_of patch_of edit_of cut_of enter_of close_of exit_of numbering_by style_by type_of push_list_of last_list_of set_list_of pop_list_of retype_of end_of close_list_of u2.close_of first_from find_of other_of shift_of exits_of all_before sections_of trim_marks leaf_line inline_of line_event inlines_of kept_of begin_section end_sections section_at section_of leaf_node leaf_of last_line met_of count_of admit_of settle_of loose_at loosen_of quote_prefix skip_of prefix_of strip_lines open_list open_term item_node container_node open_container clear_term detail_start place_detail move_term term_of settle_term close_inner close_container run_of skip_opening container_of plain_of body_of ready_of block_of container_at caption_line caption_lines caption_of cell_at align_at cell_events cells_of align_cells head_of separate_of end_row row_of rows_of u3.table_of close_lists close_sections close_all document_of finish parse_of
computed = (refl, refl)

pub step-seven : (parse_of largest limits onward (replicate 6 0) (replicate 120 0)).events ≡ one_list
step-seven = computed.0

pub step-one : (parse_of largest limits anew (replicate 10 0) (replicate 168 0)).events ≡ two_lists
step-one = computed.1
