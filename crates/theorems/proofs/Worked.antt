-- The worked cases, W1 to W10, in one statement, computed by the definitions that the contracts cite. Assumes nothing.
use mathlib.Core.Path.{◌≡◌, refl}
use mathlib.Core.Bool.{true, false}
use mathlib.Core.List.{List, [], ◌∷◌, ◌++◌}
use Prim.Native.Nat.{ℕ, ◌+◌, ◌*◌}
use Prim.Native.String.{String}
use lib.ListN.{length, replicate, take}
use Rattle.classes.specs.Classes.{within, is_space, is_name, is_bullet, is_punct}
use Rattle.lines.specs.Lines.{place_of, lines_from, lines_of, words_of, spans_of, split_of, split_words}
use Rattle.trim.specs.Label.{defines_of, label_start, label_of}
use Rattle.trim.specs.Trim.{front, is_gap, kept, trim_start, trim_end, trim_both, part_of, trim_span}
use Rattle.numbers.specs.Numbers.{digit_of, decimal_of, letter_of, roman_of, alpha_of, numeral_of, begins_of, run_by}
use Rattle.markers.specs.Markers.{ends_at, style_of, begun_of, numbered_of, ordered_of, bullet_ends, box_mark, task_at, bullet_of, description_of, marker_of}
use Rattle.markers.specs.Lists.{letter_rank, also_of, ambiguity_of, by_next, by_letters, ordered_on, unordered_on, task_on, description_on, continues_of}
use Rattle.attrs.specs.Machine.{sign_class, class_of, next_of, step_of, valid_from, valid_of}
use Rattle.rows.specs.Rows.{ticks_of, after_run, hides_at, cell_from, cell_of, dashes_of, dashed, separator_of, alignment_of}
use Rattle.kinds.specs.Identify.{heading_of, quote_of, attributes_of, table_of, definition_of, item_of, rule_of, spec_start, spec_ok, fence_of, colon_of, begin_of, identify_of}
use Rattle.kinds.specs.Bytes.{is_spec_byte, break_of, bar_end}
use Rattle.measure.specs.Continue.{num_of, blank_line, quote_on, heading_on, link_on, indented_on, row_on, caption_at, after_fence, open_fence, definition_on, item_on, table_on}
use Rattle.measure.specs.Continue as u1
use Rattle.measure.specs.Measure.{line_of, extend_of, measure_of}
use Rattle.events.specs.State.{go}
use Rattle.events.specs.Events.{push_of, patch_of, edit_of, cut_of, enter_of, close_of, exit_of}
use Rattle.events.specs.Pack.{is_stale, events_of, live_of}
use Rattle.lists.specs.Lists.{numbering_by, style_by, type_of, push_list_of, last_list_of, set_list_of, pop_list_of, retype_of, end_of, close_list_of}
use Rattle.lists.specs.Lists as u2
use Rattle.moves.specs.Moves.{first_from, find_of, other_of, shift_of, exits_of, all_before, sections_of}
use Rattle.walk.specs.Leaf.{trim_marks, leaf_line, inline_of, line_event, inlines_of, kept_of, begin_section, end_sections, section_at, section_of, leaf_node, leaf_of}
use Rattle.walk.specs.Tree.{last_line, met_of, count_of, admit_of, settle_of, loose_at, loosen_of, quote_prefix, skip_of, prefix_of, strip_lines, open_list, open_term, item_node, container_node, open_container, clear_term, detail_start, place_detail, move_term, term_of, settle_term, close_inner, close_container, run_of, skip_opening, container_of, plain_of, body_of, ready_of, block_of, container_at}
use Rattle.walk.specs.Table.{caption_line, caption_lines, caption_of, cell_at, align_at, cell_events, cells_of, align_cells, head_of, separate_of, end_row, row_of, rows_of}
use Rattle.walk.specs.Table as u3
use Rattle.walk.specs.Document.{close_lists, close_sections, close_all, document_of}
use Rattle.parse.specs.Parse.{finish, parse_of}
use Rattle.numbers.specs.declared.Numbering.TheVariants.{Decimal, RomanLower}
use Rattle.markers.specs.Markers.{marked_as, none}
use Rattle.markers.specs.declared.Style.TheVariants.{Period, Paren}
use Rattle.markers.specs.declared.Marker.TheVariants.{Ordered}
use Rattle.kinds.specs.declared.Kind.TheVariants.{ThematicBreak, Paragraph}
use Rattle.parse.specs.Parse.{Outcome, limits}
use Rattle.events.specs.Names.{largest}
use Rattle.fields.specs.Fields.{fields, is_listed, field_of, width_of, in_range, is_ranged, size_of}
use Rattle.fields.specs.Fields as f
use Rattle.record.specs.Record.{bytes_of, record_of}
use Rattle.nests.specs.Nesting.{same_body, closes, is_nested, after_of, fault_of}
use Rattle.records.specs.Records.{stream_of, check_of, write_of, written_of}
use Rattle.entries.specs.Text.{text, numeral}
use Rattle.entries.specs.Text as t
use Rattle.entries.specs.Entries.{node_name, atom_name, spaced, used, looks_line, refused_line}
use Rattle.entries.specs.Entries as e
use Rattle.listing.specs.Listing.{short, full, is_blank, left_out, line_in, lines_in, fit_of, list_of, page_text, last_of, page_of, paged_of}
use Rattle.theorems.specs.Deepest.{deepest_of}

-- a text parsed with words enough, and of the answer its events, its records and its listing, in so many bytes: W2's is the full one (V10)
abbrev parsed : String → Outcome
parsed t = parse_of largest limits (text t) (replicate 8 7) (replicate 160 9)

abbrev events_in : String → List ℕ
events_in t = take (8 * (parsed t).answer.count) (parsed t).events

abbrev listed_in : ℕ → String → ℕ → List ℕ
listed_in mode t room = let a = (parsed t).answer in paged_of mode a.number a.position a.looks (events_in t) (replicate room 0)

abbrev listed : String → ℕ → List ℕ
listed t room = listed_in full t room

abbrev bound : String → ℕ
bound t = 3 * length (lines_of (text t)) * (deepest_of (text t) limits 160 + 1)

pub worked :
    -- W1 the empty text: 2 events, looks 0 (E11, H16)
    ((parsed "").answer ≡ record { number = 0; position = 0; count = 2; looks = 0 })
    × (events_in "" ≡ (1 ∷ 1 ∷ 0 ∷ 0 ∷ 0 ∷ 0 ∷ 0 ∷ 0 ∷ []) ++ (2 ∷ 1 ∷ 0 ∷ 0 ∷ 0 ∷ 0 ∷ 0 ∷ 0 ∷ []))
    -- W2 `a\n`: its events, its 35 bytes, its listing, which has no blank line to leave out (R4, N4, V4)
    × (events_in "a\n"
    ≡ (1 ∷ 1 ∷ 0 ∷ 0 ∷ 0 ∷ 0 ∷ 0 ∷ 0 ∷ []) ++ (1 ∷ 15 ∷ 0 ∷ 0 ∷ 0 ∷ 0 ∷ 0 ∷ 0 ∷ []) ++ (3 ∷ 0 ∷ 0 ∷ 1 ∷ 0 ∷ 0 ∷ 0 ∷ 0 ∷ [])
    ++ (2 ∷ 15 ∷ 2 ∷ 2 ∷ 0 ∷ 0 ∷ 0 ∷ 0 ∷ []) ++ (2 ∷ 1 ∷ 2 ∷ 2 ∷ 0 ∷ 0 ∷ 0 ∷ 0 ∷ []))
    × (written_of (events_in "a\n") (replicate 35 7)
    ≡ (33 ∷ 0 ∷ 0 ∷ 0 ∷ 0 ∷ 0 ∷ 0 ∷ []) ++ (47 ∷ 0 ∷ 0 ∷ 0 ∷ 0 ∷ 0 ∷ 0 ∷ []) ++ (96 ∷ 0 ∷ 0 ∷ 0 ∷ 1 ∷ 0 ∷ 0 ∷ [])
    ++ (79 ∷ 2 ∷ 0 ∷ 0 ∷ 2 ∷ 0 ∷ 0 ∷ []) ++ (65 ∷ 2 ∷ 0 ∷ 0 ∷ 2 ∷ 0 ∷ 0 ∷ []))
    × (listed "a\n" 76 ≡ text "E Document 0 0\nE Paragraph 0 0\nI 0 1\nX Paragraph 2 2\nX Document 2 2\nlooks 1\n")
    × (listed_in short "a\n" 76 ≡ listed "a\n" 76)
    -- W3 `*-*` is a break, `--` a paragraph (K9)
    × ((identify_of (text "*-*")).kind ≡ ThematicBreak)
    × ((identify_of (text "--")).kind ≡ Paragraph)
    -- W4 `xiv.` is 14, `i)` is 1, roman (M6, M7)
    × (marker_of (text "xiv.") ≡ marked_as (Ordered RomanLower Period 14) 4)
    × (marker_of (text "i)") ≡ marked_as (Ordered RomanLower Paren 1) 2)
    -- W5 nineteen 9s and a period are a marker, twenty are not (M3)
    × (marker_of (replicate 19 57 ++ text ".") ≡ marked_as (Ordered Decimal Period 9999999999999999999) 20)
    × (marker_of (replicate 20 57 ++ text ".") ≡ none)
    -- W6 cells `-`, `:-`, `::`, empty: yes, yes, no, no (X7)
    × (separator_of (text "-") ≡ true)
    × (separator_of (text ":-") ≡ true)
    × (separator_of (text "::") ≡ false)
    × (separator_of [] ≡ false)
    -- W7 `{.a}` 4, `{.}` 0 (Q3)
    × (valid_of (text "{.a}") ≡ 4)
    × (valid_of (text "{.}") ≡ 0)
    -- W8 `# a\n## b\n# c\n`: two sections end at 9 (S3)
    × (listed "# a\n## b\n# c\n" 281 ≡ text "E Document 0 0\nE Section 0 0 0\nE Heading 0 1 1 1 0\nI 2 3\nX Heading 4 4 1 1 0\nE Section 4 4 4\nE Heading 4 6 2 1 4\nI 7 8\nX Heading 9 9 2 1 4\nX Section 9 9 4\nX Section 9 9 0\nE Section 9 9 9\nE Heading 9 10 1 1 9\nI 11 12\nX Heading 13 13 1 1 9\nX Section 13 13 9\nX Document 13 13\nlooks 5\n")
    -- W9 `> a\nb\n`: one Blockquote, looks 4, bound 12 (H5, H17, H18)
    × (listed "> a\nb\n" 116 ≡ text "E Document 0 0\nE Blockquote 0 1\nE Paragraph 2 2\nI 2 4\nI 4 5\nX Paragraph 6 6\nX Blockquote 6 6\nX Document 6 6\nlooks 4\n")
    × (bound "> a\nb\n" ≡ 12)
    -- W10 `|a|\n\n\nb\n`: looks 9, bound 12 (H15, H17, H18)
    × ((parsed "|a|\n\n\nb\n").answer.looks ≡ 9)
    × (bound "|a|\n\n\nb\n" ≡ 12)
unfolding within is_space is_name is_bullet is_punct place_of lines_from lines_of words_of spans_of split_of split_words defines_of label_start label_of front is_gap kept trim_start trim_end trim_both part_of trim_span digit_of decimal_of letter_of roman_of alpha_of numeral_of begins_of run_by ends_at style_of begun_of numbered_of ordered_of bullet_ends box_mark task_at bullet_of description_of marker_of letter_rank also_of ambiguity_of by_next by_letters ordered_on unordered_on task_on description_on continues_of sign_class class_of next_of step_of valid_from valid_of ticks_of after_run hides_at cell_from cell_of dashes_of dashed separator_of alignment_of heading_of quote_of attributes_of table_of definition_of item_of rule_of spec_start spec_ok fence_of colon_of begin_of identify_of is_spec_byte break_of bar_end num_of blank_line quote_on heading_on link_on indented_on row_on caption_at after_fence open_fence definition_on item_on table_on u1.continues_of line_of extend_of measure_of go push_of patch_of edit_of cut_of enter_of close_of exit_of numbering_by style_by type_of push_list_of last_list_of set_list_of pop_list_of retype_of end_of close_list_of u2.close_of first_from find_of other_of shift_of exits_of all_before sections_of trim_marks leaf_line inline_of line_event inlines_of kept_of begin_section end_sections section_at section_of leaf_node leaf_of last_line met_of count_of admit_of settle_of loose_at loosen_of quote_prefix skip_of prefix_of strip_lines open_list open_term item_node container_node open_container clear_term detail_start place_detail move_term term_of settle_term close_inner close_container run_of skip_opening container_of plain_of body_of ready_of block_of container_at caption_line caption_lines caption_of cell_at align_at cell_events cells_of align_cells head_of separate_of end_row row_of rows_of u3.table_of close_lists close_sections close_all document_of finish parse_of fields is_listed field_of width_of in_range is_ranged size_of f.within is_stale bytes_of record_of same_body closes is_nested after_of fault_of events_of live_of stream_of check_of write_of written_of text numeral t.decimal_of node_name atom_name spaced used e.head_of e.body_of e.line_of looks_line refused_line is_blank left_out line_in lines_in fit_of list_of page_text last_of page_of paged_of deepest_of
worked = (refl, refl, refl, refl, refl, refl, refl, refl, refl, refl, refl, refl, refl, refl, refl, refl, refl, refl, refl, refl, refl, refl, refl)
