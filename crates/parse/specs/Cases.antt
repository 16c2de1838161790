-- W1, W2, W8, W9 and W10, and a text for each kind of block, computed by the definition. Assumes nothing.
use Rattle.std.specs.Prelude.{◌≡◌, refl, List, [], ◌∷◌, ◌++◌, ℕ, replicate}
use Rattle.classes.specs.Classes.{within, is_space, is_name, is_bullet, is_punct}
use Rattle.lines.specs.Lines.{place_of, lines_from, lines_of, words_of, spans_of, split_of, split_words}
use Rattle.trim.specs.Label.{defines_of, label_start, label_of}
use Rattle.trim.specs.Trim.{front, is_gap, kept, trim_start, trim_end, trim_both, part_of, trim_span}
use Rattle.numbers.specs.Numbers.{digit_of, decimal_of, letter_of, roman_of, alpha_of, numeral_of, begins_of, run_by}
use Rattle.markers.specs.Markers.{ends_at, style_of, begun_of, numbered_of, ordered_of, bullet_ends, box_mark, task_at, bullet_of, description_of, marker_of}
use Rattle.markers.specs.Lists.{letter_rank, also_of, ambiguity_of, by_next, by_letters, ordered_on, unordered_on, task_on, description_on, continues_of}
use Rattle.attrs.specs.Machine.{sign_class, class_of, next_of, step_of, valid_from, valid_of}
use Rattle.rows.specs.Rows.{ticks_of, after_run, hides_at, cell_from, cell_of, dashes_of, dashed, separator_of, alignment_of}
use Rattle.kinds.specs.Identify.{heading_of, quote_of, attributes_of, table_of, definition_of, item_of, rule_of, spec_start, spec_ok, fence_of, colon_of, begin_of, identify_of}
use Rattle.kinds.specs.Bytes.{is_spec_byte, break_of, bar_end}
use Rattle.measure.specs.Continue.{num_of, blank_line, quote_on, heading_on, link_on, indented_on, row_on, caption_at, after_fence, open_fence, definition_on, item_on, table_on}
use Rattle.measure.specs.Continue as u1
use Rattle.measure.specs.Measure.{line_of, extend_of, measure_of}
use Rattle.events.specs.Names.{largest}
use Rattle.events.specs.State.{go}
use Rattle.events.specs.Events.{push_of, patch_of, edit_of, cut_of, enter_of, close_of, exit_of}
use Rattle.lists.specs.Lists.{numbering_by, style_by, type_of, push_list_of, last_list_of, set_list_of, pop_list_of, retype_of, end_of, close_list_of}
use Rattle.lists.specs.Lists as u2
use Rattle.moves.specs.Moves.{first_from, find_of, other_of, shift_of, exits_of, all_before, sections_of}
use Rattle.walk.specs.Leaf.{trim_marks, leaf_line, inline_of, line_event, inlines_of, kept_of, begin_section, end_sections, section_at, section_of, leaf_node, leaf_of}
use Rattle.walk.specs.Tree.{last_line, met_of, count_of, admit_of, settle_of, loose_at, loosen_of, quote_prefix, skip_of, prefix_of, strip_lines, open_list, open_term, item_node, container_node, open_container, clear_term, detail_start, place_detail, move_term, term_of, settle_term, close_inner, close_container, run_of, skip_opening, container_of, plain_of, body_of, ready_of, block_of, container_at}
use Rattle.walk.specs.Table.{caption_line, caption_lines, caption_of, cell_at, align_at, cell_events, cells_of, align_cells, head_of, separate_of, end_row, row_of, rows_of}
use Rattle.walk.specs.Table as u3
use Rattle.walk.specs.Document.{close_lists, close_sections, close_all, document_of}
use Rattle.parse.specs.Parse.{finish, parse_of}
use Rattle.parse.specs.Parse.{limits, outcome}
use Rattle.parse.specs.declared.Answer.{Answer}

abbrev run : List ℕ → ℕ → ℕ → Answer
run text l e = (parse_of largest limits text (replicate l 7) (replicate e 9)).answer

-- each text with what the unchanged Rust answers, and every word that it leaves; of W9 only the answer, of W10 only the looks
pub cases :
    -- W1: the empty text, 2 events, looks 0 (E11, H16)
    (parse_of largest limits [] [] (replicate 16 9) ≡ outcome 0 0 2 0 [] ((1 ∷ 1 ∷ 0 ∷ 0 ∷ 0 ∷ 0 ∷ 0 ∷ 0 ∷ []) ++ (2 ∷ 1 ∷ 0 ∷ 0 ∷ 0 ∷ 0 ∷ 0 ∷ 0 ∷ [])))
    -- W2: `a\n` (E1, E2, R4)
    × (parse_of largest limits (97 ∷ 10 ∷ []) (7 ∷ 7 ∷ []) (replicate 48 9)
    ≡ outcome 0 2 5 1 (0 ∷ 0 ∷ [])
    ((1 ∷ 1 ∷ 0 ∷ 0 ∷ 0 ∷ 0 ∷ 0 ∷ 0 ∷ []) ++ (1 ∷ 15 ∷ 0 ∷ 0 ∷ 0 ∷ 0 ∷ 0 ∷ 0 ∷ []) ++ (3 ∷ 0 ∷ 0 ∷ 1 ∷ 0 ∷ 0 ∷ 0 ∷ 0 ∷ []) ++ (2 ∷ 15 ∷ 2 ∷ 2 ∷ 0 ∷ 0 ∷ 0 ∷ 0 ∷ []) ++ (2 ∷ 1 ∷ 2 ∷ 2 ∷ 0 ∷ 0 ∷ 0 ∷ 0 ∷ []) ++ replicate 8 0))
    -- W8: `# a\n## b\n# c\n` (S1 to S3)
    × (parse_of largest limits (35 ∷ 32 ∷ 97 ∷ 10 ∷ 35 ∷ 35 ∷ 32 ∷ 98 ∷ 10 ∷ 35 ∷ 32 ∷ 99 ∷ 10 ∷ []) (replicate 6 0) (replicate 176 0) ≡ outcome 0 13 17 5 (replicate 6 0)
    ((1 ∷ 1 ∷ 0 ∷ 0 ∷ 0 ∷ 0 ∷ 0 ∷ 0 ∷ []) ++ (1 ∷ 14 ∷ 0 ∷ 0 ∷ 0 ∷ 0 ∷ 0 ∷ 0 ∷ []) ++ (1 ∷ 16 ∷ 0 ∷ 1 ∷ 1 ∷ 1 ∷ 0 ∷ 0 ∷ []) ++ (3 ∷ 0 ∷ 2 ∷ 3 ∷ 0 ∷ 0 ∷ 0 ∷ 0 ∷ []) ++ (2 ∷ 16 ∷ 4 ∷ 4 ∷ 1 ∷ 1 ∷ 0 ∷ 0 ∷ []) ++ (1 ∷ 14 ∷ 4 ∷ 4 ∷ 4 ∷ 0 ∷ 0 ∷ 0 ∷ []) ++ (1 ∷ 16 ∷ 4 ∷ 6 ∷ 2 ∷ 1 ∷ 4 ∷ 0 ∷ []) ++ (3 ∷ 0 ∷ 7 ∷ 8 ∷ 0 ∷ 0 ∷ 0 ∷ 0 ∷ []) ++ (2 ∷ 16 ∷ 9 ∷ 9 ∷ 2 ∷ 1 ∷ 4 ∷ 0 ∷ []) ++ (2 ∷ 14 ∷ 9 ∷ 9 ∷ 4 ∷ 0 ∷ 0 ∷ 0 ∷ []) ++ (2 ∷ 14 ∷ 9 ∷ 9 ∷ 0 ∷ 0 ∷ 0 ∷ 0 ∷ []) ++ (1 ∷ 14 ∷ 9 ∷ 9 ∷ 9 ∷ 0 ∷ 0 ∷ 0 ∷ []) ++ (1 ∷ 16 ∷ 9 ∷ 10 ∷ 1 ∷ 1 ∷ 9 ∷ 0 ∷ []) ++ (3 ∷ 0 ∷ 11 ∷ 12 ∷ 0 ∷ 0 ∷ 0 ∷ 0 ∷ []) ++ (2 ∷ 16 ∷ 13 ∷ 13 ∷ 1 ∷ 1 ∷ 9 ∷ 0 ∷ []) ++ (2 ∷ 14 ∷ 13 ∷ 13 ∷ 9 ∷ 0 ∷ 0 ∷ 0 ∷ []) ++ (2 ∷ 1 ∷ 13 ∷ 13 ∷ 0 ∷ 0 ∷ 0 ∷ 0 ∷ []) ++ replicate 40 0))
    -- `: a\n\n  b\n` (U3 to U6)
    × (parse_of largest limits (58 ∷ 32 ∷ 97 ∷ 10 ∷ 10 ∷ 32 ∷ 32 ∷ 98 ∷ 10 ∷ []) (replicate 6 0) (replicate 160 0) ≡ outcome 0 9 15 8 (replicate 6 0)
    ((1 ∷ 1 ∷ 0 ∷ 0 ∷ 0 ∷ 0 ∷ 0 ∷ 0 ∷ []) ++ (1 ∷ 7 ∷ 0 ∷ 0 ∷ 1 ∷ 0 ∷ 0 ∷ 0 ∷ []) ++ (1 ∷ 17 ∷ 0 ∷ 1 ∷ 0 ∷ 0 ∷ 0 ∷ 0 ∷ []) ++ (0 ∷ 0 ∷ 0 ∷ 0 ∷ 0 ∷ 0 ∷ 0 ∷ 0 ∷ []) ++ (0 ∷ 0 ∷ 0 ∷ 0 ∷ 0 ∷ 0 ∷ 0 ∷ 0 ∷ []) ++ (3 ∷ 0 ∷ 2 ∷ 3 ∷ 0 ∷ 0 ∷ 0 ∷ 0 ∷ []) ++ (2 ∷ 17 ∷ 4 ∷ 4 ∷ 0 ∷ 0 ∷ 0 ∷ 0 ∷ []) ++ (4 ∷ 1 ∷ 4 ∷ 5 ∷ 0 ∷ 0 ∷ 0 ∷ 0 ∷ []) ++ (1 ∷ 10 ∷ 7 ∷ 7 ∷ 0 ∷ 0 ∷ 0 ∷ 0 ∷ []) ++ (1 ∷ 15 ∷ 7 ∷ 7 ∷ 0 ∷ 0 ∷ 0 ∷ 0 ∷ []) ++ (3 ∷ 0 ∷ 7 ∷ 8 ∷ 0 ∷ 0 ∷ 0 ∷ 0 ∷ []) ++ (2 ∷ 15 ∷ 9 ∷ 9 ∷ 0 ∷ 0 ∷ 0 ∷ 0 ∷ []) ++ (2 ∷ 10 ∷ 9 ∷ 9 ∷ 0 ∷ 0 ∷ 0 ∷ 0 ∷ []) ++ (2 ∷ 7 ∷ 9 ∷ 9 ∷ 1 ∷ 0 ∷ 0 ∷ 0 ∷ []) ++ (2 ∷ 1 ∷ 9 ∷ 9 ∷ 0 ∷ 0 ∷ 0 ∷ 0 ∷ []) ++ replicate 40 0))
    -- `|a|\n|-:|\n` (X9 to X12)
    × (parse_of largest limits (124 ∷ 97 ∷ 124 ∷ 10 ∷ 124 ∷ 45 ∷ 58 ∷ 124 ∷ 10 ∷ []) (replicate 4 0) (replicate 112 0) ≡ outcome 0 9 9 2 (replicate 4 0)
    ((1 ∷ 1 ∷ 0 ∷ 0 ∷ 0 ∷ 0 ∷ 0 ∷ 0 ∷ []) ++ (1 ∷ 12 ∷ 0 ∷ 0 ∷ 0 ∷ 0 ∷ 0 ∷ 0 ∷ []) ++ (1 ∷ 13 ∷ 0 ∷ 1 ∷ 1 ∷ 0 ∷ 0 ∷ 0 ∷ []) ++ (1 ∷ 18 ∷ 1 ∷ 1 ∷ 2 ∷ 0 ∷ 0 ∷ 0 ∷ []) ++ (3 ∷ 0 ∷ 1 ∷ 2 ∷ 0 ∷ 0 ∷ 0 ∷ 0 ∷ []) ++ (2 ∷ 18 ∷ 2 ∷ 3 ∷ 2 ∷ 0 ∷ 0 ∷ 0 ∷ []) ++ (2 ∷ 13 ∷ 3 ∷ 3 ∷ 1 ∷ 0 ∷ 0 ∷ 0 ∷ []) ++ (2 ∷ 12 ∷ 9 ∷ 9 ∷ 0 ∷ 0 ∷ 0 ∷ 0 ∷ []) ++ (2 ∷ 1 ∷ 9 ∷ 9 ∷ 0 ∷ 0 ∷ 0 ∷ 0 ∷ []) ++ replicate 40 0))
    -- `|a|\n\n^ b\n` (H14, X14)
    × (parse_of largest limits (124 ∷ 97 ∷ 124 ∷ 10 ∷ 10 ∷ 94 ∷ 32 ∷ 98 ∷ 10 ∷ []) (replicate 6 0) (replicate 136 0) ≡ outcome 0 9 12 3 (replicate 6 0)
    ((1 ∷ 1 ∷ 0 ∷ 0 ∷ 0 ∷ 0 ∷ 0 ∷ 0 ∷ []) ++ (1 ∷ 12 ∷ 0 ∷ 0 ∷ 0 ∷ 0 ∷ 0 ∷ 0 ∷ []) ++ (1 ∷ 19 ∷ 0 ∷ 0 ∷ 0 ∷ 0 ∷ 0 ∷ 0 ∷ []) ++ (3 ∷ 0 ∷ 7 ∷ 8 ∷ 0 ∷ 0 ∷ 0 ∷ 0 ∷ []) ++ (2 ∷ 19 ∷ 9 ∷ 9 ∷ 0 ∷ 0 ∷ 0 ∷ 0 ∷ []) ++ (1 ∷ 13 ∷ 0 ∷ 1 ∷ 0 ∷ 0 ∷ 0 ∷ 0 ∷ []) ++ (1 ∷ 18 ∷ 1 ∷ 1 ∷ 0 ∷ 0 ∷ 0 ∷ 0 ∷ []) ++ (3 ∷ 0 ∷ 1 ∷ 2 ∷ 0 ∷ 0 ∷ 0 ∷ 0 ∷ []) ++ (2 ∷ 18 ∷ 2 ∷ 3 ∷ 0 ∷ 0 ∷ 0 ∷ 0 ∷ []) ++ (2 ∷ 13 ∷ 3 ∷ 3 ∷ 0 ∷ 0 ∷ 0 ∷ 0 ∷ []) ++ (2 ∷ 12 ∷ 9 ∷ 9 ∷ 0 ∷ 0 ∷ 0 ∷ 0 ∷ []) ++ (2 ∷ 1 ∷ 9 ∷ 9 ∷ 0 ∷ 0 ∷ 0 ∷ 0 ∷ []) ++ replicate 40 0))
    -- `- [x] a\n` (K11)
    × (parse_of largest limits (45 ∷ 32 ∷ 91 ∷ 120 ∷ 93 ∷ 32 ∷ 97 ∷ 10 ∷ []) (replicate 2 0) (replicate 112 0) ≡ outcome 0 8 9 2 (replicate 2 0)
    ((1 ∷ 1 ∷ 0 ∷ 0 ∷ 0 ∷ 0 ∷ 0 ∷ 0 ∷ []) ++ (1 ∷ 6 ∷ 0 ∷ 0 ∷ 1 ∷ 45 ∷ 0 ∷ 0 ∷ []) ++ (1 ∷ 9 ∷ 0 ∷ 5 ∷ 1 ∷ 0 ∷ 0 ∷ 0 ∷ []) ++ (1 ∷ 15 ∷ 6 ∷ 6 ∷ 0 ∷ 0 ∷ 0 ∷ 0 ∷ []) ++ (3 ∷ 0 ∷ 6 ∷ 7 ∷ 0 ∷ 0 ∷ 0 ∷ 0 ∷ []) ++ (2 ∷ 15 ∷ 8 ∷ 8 ∷ 0 ∷ 0 ∷ 0 ∷ 0 ∷ []) ++ (2 ∷ 9 ∷ 8 ∷ 8 ∷ 1 ∷ 0 ∷ 0 ∷ 0 ∷ []) ++ (2 ∷ 6 ∷ 8 ∷ 8 ∷ 1 ∷ 45 ∷ 0 ∷ 0 ∷ []) ++ (2 ∷ 1 ∷ 8 ∷ 8 ∷ 0 ∷ 0 ∷ 0 ∷ 0 ∷ []) ++ replicate 40 0))
    -- `1. a\n\n2. b\n` (L4, T1)
    × (parse_of largest limits (49 ∷ 46 ∷ 32 ∷ 97 ∷ 10 ∷ 10 ∷ 50 ∷ 46 ∷ 32 ∷ 98 ∷ 10 ∷ []) (replicate 6 0) (replicate 160 0) ≡ outcome 0 11 15 8 (replicate 6 0)
    ((1 ∷ 1 ∷ 0 ∷ 0 ∷ 0 ∷ 0 ∷ 0 ∷ 0 ∷ []) ++ (1 ∷ 5 ∷ 0 ∷ 0 ∷ 0 ∷ 4 ∷ 1 ∷ 0 ∷ []) ++ (1 ∷ 8 ∷ 0 ∷ 2 ∷ 0 ∷ 0 ∷ 0 ∷ 0 ∷ []) ++ (1 ∷ 15 ∷ 3 ∷ 3 ∷ 0 ∷ 0 ∷ 0 ∷ 0 ∷ []) ++ (3 ∷ 0 ∷ 3 ∷ 4 ∷ 0 ∷ 0 ∷ 0 ∷ 0 ∷ []) ++ (2 ∷ 15 ∷ 5 ∷ 5 ∷ 0 ∷ 0 ∷ 0 ∷ 0 ∷ []) ++ (4 ∷ 1 ∷ 5 ∷ 6 ∷ 0 ∷ 0 ∷ 0 ∷ 0 ∷ []) ++ (2 ∷ 8 ∷ 6 ∷ 6 ∷ 0 ∷ 0 ∷ 0 ∷ 0 ∷ []) ++ (1 ∷ 8 ∷ 6 ∷ 8 ∷ 0 ∷ 0 ∷ 0 ∷ 0 ∷ []) ++ (1 ∷ 15 ∷ 9 ∷ 9 ∷ 0 ∷ 0 ∷ 0 ∷ 0 ∷ []) ++ (3 ∷ 0 ∷ 9 ∷ 10 ∷ 0 ∷ 0 ∷ 0 ∷ 0 ∷ []) ++ (2 ∷ 15 ∷ 11 ∷ 11 ∷ 0 ∷ 0 ∷ 0 ∷ 0 ∷ []) ++ (2 ∷ 8 ∷ 11 ∷ 11 ∷ 0 ∷ 0 ∷ 0 ∷ 0 ∷ []) ++ (2 ∷ 5 ∷ 11 ∷ 11 ∷ 0 ∷ 4 ∷ 1 ∷ 0 ∷ []) ++ (2 ∷ 1 ∷ 11 ∷ 11 ∷ 0 ∷ 0 ∷ 0 ∷ 0 ∷ []) ++ replicate 40 0))
    -- `:::\na\n:::\n` (H9, O2)
    × (parse_of largest limits (58 ∷ 58 ∷ 58 ∷ 10 ∷ 97 ∷ 10 ∷ 58 ∷ 58 ∷ 58 ∷ 10 ∷ []) (replicate 6 0) (replicate 96 0) ≡ outcome 0 10 7 4 (replicate 6 0)
    ((1 ∷ 1 ∷ 0 ∷ 0 ∷ 0 ∷ 0 ∷ 0 ∷ 0 ∷ []) ++ (1 ∷ 3 ∷ 0 ∷ 4 ∷ 3 ∷ 3 ∷ 0 ∷ 0 ∷ []) ++ (1 ∷ 15 ∷ 4 ∷ 4 ∷ 0 ∷ 0 ∷ 0 ∷ 0 ∷ []) ++ (3 ∷ 0 ∷ 4 ∷ 5 ∷ 0 ∷ 0 ∷ 0 ∷ 0 ∷ []) ++ (2 ∷ 15 ∷ 6 ∷ 6 ∷ 0 ∷ 0 ∷ 0 ∷ 0 ∷ []) ++ (2 ∷ 3 ∷ 6 ∷ 10 ∷ 3 ∷ 3 ∷ 0 ∷ 0 ∷ []) ++ (2 ∷ 1 ∷ 10 ∷ 10 ∷ 0 ∷ 0 ∷ 0 ∷ 0 ∷ []) ++ replicate 40 0))
    -- ````\n a\n```\n` (H9, I6)
    × (parse_of largest limits (96 ∷ 96 ∷ 96 ∷ 10 ∷ 32 ∷ 97 ∷ 10 ∷ 96 ∷ 96 ∷ 96 ∷ 10 ∷ []) (replicate 6 0) (replicate 80 0) ≡ outcome 0 11 5 3 (replicate 6 0)
    ((1 ∷ 1 ∷ 0 ∷ 0 ∷ 0 ∷ 0 ∷ 0 ∷ 0 ∷ []) ++ (1 ∷ 21 ∷ 0 ∷ 4 ∷ 3 ∷ 3 ∷ 0 ∷ 0 ∷ []) ++ (3 ∷ 0 ∷ 4 ∷ 7 ∷ 0 ∷ 0 ∷ 0 ∷ 0 ∷ []) ++ (2 ∷ 21 ∷ 7 ∷ 11 ∷ 3 ∷ 3 ∷ 0 ∷ 0 ∷ []) ++ (2 ∷ 1 ∷ 11 ∷ 11 ∷ 0 ∷ 0 ∷ 0 ∷ 0 ∷ []) ++ replicate 40 0))
    -- `{.a}\n# b\n` (K5, S1)
    × (parse_of largest limits (123 ∷ 46 ∷ 97 ∷ 125 ∷ 10 ∷ 35 ∷ 32 ∷ 98 ∷ 10 ∷ []) (replicate 4 0) (replicate 104 0) ≡ outcome 0 9 8 3 (replicate 4 0)
    ((1 ∷ 1 ∷ 0 ∷ 0 ∷ 0 ∷ 0 ∷ 0 ∷ 0 ∷ []) ++ (4 ∷ 2 ∷ 0 ∷ 5 ∷ 0 ∷ 0 ∷ 0 ∷ 0 ∷ []) ++ (1 ∷ 14 ∷ 5 ∷ 5 ∷ 5 ∷ 0 ∷ 0 ∷ 0 ∷ []) ++ (1 ∷ 16 ∷ 5 ∷ 6 ∷ 1 ∷ 1 ∷ 5 ∷ 0 ∷ []) ++ (3 ∷ 0 ∷ 7 ∷ 8 ∷ 0 ∷ 0 ∷ 0 ∷ 0 ∷ []) ++ (2 ∷ 16 ∷ 9 ∷ 9 ∷ 1 ∷ 1 ∷ 5 ∷ 0 ∷ []) ++ (2 ∷ 14 ∷ 9 ∷ 9 ∷ 5 ∷ 0 ∷ 0 ∷ 0 ∷ []) ++ (2 ∷ 1 ∷ 9 ∷ 9 ∷ 0 ∷ 0 ∷ 0 ∷ 0 ∷ []) ++ replicate 40 0))
    -- `[l]: u\n v\n` (H8, I5)
    × (parse_of largest limits (91 ∷ 108 ∷ 93 ∷ 58 ∷ 32 ∷ 117 ∷ 10 ∷ 32 ∷ 118 ∷ 10 ∷ []) (replicate 4 0) (replicate 88 0) ≡ outcome 0 10 6 2 (replicate 4 0)
    ((1 ∷ 1 ∷ 0 ∷ 0 ∷ 0 ∷ 0 ∷ 0 ∷ 0 ∷ []) ++ (1 ∷ 20 ∷ 0 ∷ 4 ∷ 1 ∷ 2 ∷ 0 ∷ 0 ∷ []) ++ (3 ∷ 0 ∷ 5 ∷ 6 ∷ 0 ∷ 0 ∷ 0 ∷ 0 ∷ []) ++ (3 ∷ 0 ∷ 8 ∷ 9 ∷ 0 ∷ 0 ∷ 0 ∷ 0 ∷ []) ++ (2 ∷ 20 ∷ 10 ∷ 10 ∷ 1 ∷ 2 ∷ 0 ∷ 0 ∷ []) ++ (2 ∷ 1 ∷ 10 ∷ 10 ∷ 0 ∷ 0 ∷ 0 ∷ 0 ∷ []) ++ replicate 40 0))
    -- `[^f]: n\n` (K8)
    × (parse_of largest limits (91 ∷ 94 ∷ 102 ∷ 93 ∷ 58 ∷ 32 ∷ 110 ∷ 10 ∷ []) (replicate 2 0) (replicate 96 0) ≡ outcome 0 8 7 2 (replicate 2 0)
    ((1 ∷ 1 ∷ 0 ∷ 0 ∷ 0 ∷ 0 ∷ 0 ∷ 0 ∷ []) ++ (1 ∷ 11 ∷ 0 ∷ 5 ∷ 2 ∷ 3 ∷ 0 ∷ 0 ∷ []) ++ (1 ∷ 15 ∷ 6 ∷ 6 ∷ 0 ∷ 0 ∷ 0 ∷ 0 ∷ []) ++ (3 ∷ 0 ∷ 6 ∷ 7 ∷ 0 ∷ 0 ∷ 0 ∷ 0 ∷ []) ++ (2 ∷ 15 ∷ 8 ∷ 8 ∷ 0 ∷ 0 ∷ 0 ∷ 0 ∷ []) ++ (2 ∷ 11 ∷ 8 ∷ 8 ∷ 2 ∷ 3 ∷ 0 ∷ 0 ∷ []) ++ (2 ∷ 1 ∷ 8 ∷ 8 ∷ 0 ∷ 0 ∷ 0 ∷ 0 ∷ []) ++ replicate 40 0))
    -- `i. x\ni. y\nj. z\n` (L6, L9)
    × (parse_of largest limits (105 ∷ 46 ∷ 32 ∷ 120 ∷ 10 ∷ 105 ∷ 46 ∷ 32 ∷ 121 ∷ 10 ∷ 106 ∷ 46 ∷ 32 ∷ 122 ∷ 10 ∷ []) (replicate 6 0) (replicate 192 0) ≡ outcome 0 15 19 8 (replicate 6 0)
    ((1 ∷ 1 ∷ 0 ∷ 0 ∷ 0 ∷ 0 ∷ 0 ∷ 0 ∷ []) ++ (1 ∷ 5 ∷ 0 ∷ 0 ∷ 1 ∷ 8 ∷ 9 ∷ 0 ∷ []) ++ (1 ∷ 8 ∷ 0 ∷ 2 ∷ 0 ∷ 0 ∷ 0 ∷ 0 ∷ []) ++ (1 ∷ 15 ∷ 3 ∷ 3 ∷ 0 ∷ 0 ∷ 0 ∷ 0 ∷ []) ++ (3 ∷ 0 ∷ 3 ∷ 4 ∷ 0 ∷ 0 ∷ 0 ∷ 0 ∷ []) ++ (2 ∷ 15 ∷ 5 ∷ 5 ∷ 0 ∷ 0 ∷ 0 ∷ 0 ∷ []) ++ (2 ∷ 8 ∷ 5 ∷ 5 ∷ 0 ∷ 0 ∷ 0 ∷ 0 ∷ []) ++ (1 ∷ 8 ∷ 5 ∷ 7 ∷ 0 ∷ 0 ∷ 0 ∷ 0 ∷ []) ++ (1 ∷ 15 ∷ 8 ∷ 8 ∷ 0 ∷ 0 ∷ 0 ∷ 0 ∷ []) ++ (3 ∷ 0 ∷ 8 ∷ 9 ∷ 0 ∷ 0 ∷ 0 ∷ 0 ∷ []) ++ (2 ∷ 15 ∷ 10 ∷ 10 ∷ 0 ∷ 0 ∷ 0 ∷ 0 ∷ []) ++ (2 ∷ 8 ∷ 10 ∷ 10 ∷ 0 ∷ 0 ∷ 0 ∷ 0 ∷ []) ++ (1 ∷ 8 ∷ 10 ∷ 12 ∷ 0 ∷ 0 ∷ 0 ∷ 0 ∷ []) ++ (1 ∷ 15 ∷ 13 ∷ 13 ∷ 0 ∷ 0 ∷ 0 ∷ 0 ∷ []) ++ (3 ∷ 0 ∷ 13 ∷ 14 ∷ 0 ∷ 0 ∷ 0 ∷ 0 ∷ []) ++ (2 ∷ 15 ∷ 15 ∷ 15 ∷ 0 ∷ 0 ∷ 0 ∷ 0 ∷ []) ++ (2 ∷ 8 ∷ 15 ∷ 15 ∷ 0 ∷ 0 ∷ 0 ∷ 0 ∷ []) ++ (2 ∷ 5 ∷ 15 ∷ 15 ∷ 1 ∷ 8 ∷ 9 ∷ 0 ∷ []) ++ (2 ∷ 1 ∷ 15 ∷ 15 ∷ 0 ∷ 0 ∷ 0 ∷ 0 ∷ []) ++ replicate 40 0))
    -- `- a\n\n  - b\n` (T5)
    × (parse_of largest limits (45 ∷ 32 ∷ 97 ∷ 10 ∷ 10 ∷ 32 ∷ 32 ∷ 45 ∷ 32 ∷ 98 ∷ 10 ∷ []) (replicate 6 0) (replicate 176 0) ≡ outcome 0 11 17 9 (replicate 6 0)
    ((1 ∷ 1 ∷ 0 ∷ 0 ∷ 0 ∷ 0 ∷ 0 ∷ 0 ∷ []) ++ (1 ∷ 4 ∷ 0 ∷ 0 ∷ 1 ∷ 45 ∷ 0 ∷ 0 ∷ []) ++ (1 ∷ 8 ∷ 0 ∷ 1 ∷ 0 ∷ 0 ∷ 0 ∷ 0 ∷ []) ++ (1 ∷ 15 ∷ 2 ∷ 2 ∷ 0 ∷ 0 ∷ 0 ∷ 0 ∷ []) ++ (3 ∷ 0 ∷ 2 ∷ 3 ∷ 0 ∷ 0 ∷ 0 ∷ 0 ∷ []) ++ (2 ∷ 15 ∷ 4 ∷ 4 ∷ 0 ∷ 0 ∷ 0 ∷ 0 ∷ []) ++ (4 ∷ 1 ∷ 4 ∷ 5 ∷ 0 ∷ 0 ∷ 0 ∷ 0 ∷ []) ++ (1 ∷ 4 ∷ 7 ∷ 7 ∷ 1 ∷ 45 ∷ 0 ∷ 0 ∷ []) ++ (1 ∷ 8 ∷ 7 ∷ 8 ∷ 0 ∷ 0 ∷ 0 ∷ 0 ∷ []) ++ (1 ∷ 15 ∷ 9 ∷ 9 ∷ 0 ∷ 0 ∷ 0 ∷ 0 ∷ []) ++ (3 ∷ 0 ∷ 9 ∷ 10 ∷ 0 ∷ 0 ∷ 0 ∷ 0 ∷ []) ++ (2 ∷ 15 ∷ 11 ∷ 11 ∷ 0 ∷ 0 ∷ 0 ∷ 0 ∷ []) ++ (2 ∷ 8 ∷ 11 ∷ 11 ∷ 0 ∷ 0 ∷ 0 ∷ 0 ∷ []) ++ (2 ∷ 4 ∷ 11 ∷ 11 ∷ 1 ∷ 45 ∷ 0 ∷ 0 ∷ []) ++ (2 ∷ 8 ∷ 11 ∷ 11 ∷ 0 ∷ 0 ∷ 0 ∷ 0 ∷ []) ++ (2 ∷ 4 ∷ 11 ∷ 11 ∷ 1 ∷ 45 ∷ 0 ∷ 0 ∷ []) ++ (2 ∷ 1 ∷ 11 ∷ 11 ∷ 0 ∷ 0 ∷ 0 ∷ 0 ∷ []) ++ replicate 40 0))
    -- `***\n` (K9)
    × (parse_of largest limits (42 ∷ 42 ∷ 42 ∷ 10 ∷ []) (replicate 2 0) (replicate 64 0) ≡ outcome 0 4 3 1 (replicate 2 0)
    ((1 ∷ 1 ∷ 0 ∷ 0 ∷ 0 ∷ 0 ∷ 0 ∷ 0 ∷ []) ++ (4 ∷ 3 ∷ 0 ∷ 3 ∷ 0 ∷ 0 ∷ 0 ∷ 0 ∷ []) ++ (2 ∷ 1 ∷ 4 ∷ 4 ∷ 0 ∷ 0 ∷ 0 ∷ 0 ∷ []) ++ replicate 40 0))
    -- W9: `> a\nb\n`, one Blockquote, looks 4 (H5, H17)
    × (run (62 ∷ 32 ∷ 97 ∷ 10 ∷ 98 ∷ 10 ∷ []) 4 80 ≡ record { number = 0; position = 6; count = 8; looks = 4 })
    -- W10: `|a|\n\n\nb\n`, looks 9 (H15, H17)
    × ((run (124 ∷ 97 ∷ 124 ∷ 10 ∷ 10 ∷ 10 ∷ 98 ∷ 10 ∷ []) 8 160).looks ≡ 9)
unfolding within is_space is_name is_bullet is_punct place_of lines_from lines_of words_of spans_of split_of split_words defines_of label_start label_of front is_gap kept trim_start trim_end trim_both part_of trim_span digit_of decimal_of letter_of roman_of alpha_of numeral_of begins_of run_by ends_at style_of begun_of numbered_of ordered_of bullet_ends box_mark task_at bullet_of description_of marker_of letter_rank also_of ambiguity_of by_next by_letters ordered_on unordered_on task_on description_on continues_of sign_class class_of next_of step_of valid_from valid_of ticks_of after_run hides_at cell_from cell_of dashes_of dashed separator_of alignment_of heading_of quote_of attributes_of table_of definition_of item_of rule_of spec_start spec_ok fence_of colon_of begin_of identify_of is_spec_byte break_of bar_end num_of blank_line quote_on heading_on link_on indented_on row_on caption_at after_fence open_fence definition_on item_on table_on u1.continues_of line_of extend_of measure_of go push_of patch_of edit_of cut_of enter_of close_of exit_of numbering_by style_by type_of push_list_of last_list_of set_list_of pop_list_of retype_of end_of close_list_of u2.close_of first_from find_of other_of shift_of exits_of all_before sections_of trim_marks leaf_line inline_of line_event inlines_of kept_of begin_section end_sections section_at section_of leaf_node leaf_of last_line met_of count_of admit_of settle_of loose_at loosen_of quote_prefix skip_of prefix_of strip_lines open_list open_term item_node container_node open_container clear_term detail_start place_detail move_term term_of settle_term close_inner close_container run_of skip_opening container_of plain_of body_of ready_of block_of container_at caption_line caption_lines caption_of cell_at align_at cell_events cells_of align_cells head_of separate_of end_row row_of rows_of u3.table_of close_lists close_sections close_all document_of finish parse_of
cases = (refl, refl, refl, refl, refl, refl, refl, refl, refl, refl, refl, refl, refl, refl, refl, refl, refl, refl)
