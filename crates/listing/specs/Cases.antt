-- W2's listing and records, whole, and the listings of blank lines in both modes, computed by the definitions. Assumes nothing.
use Rattle.std.specs.Prelude.{◌≡◌, refl, List, [], ◌∷◌, ◌++◌, ℕ, replicate}
use Rattle.events.specs.Pack.{is_stale, events_of, live_of}
use Rattle.fields.specs.Fields.{fields, within, is_listed, field_of, width_of, in_range, is_ranged, size_of}
use Rattle.record.specs.Record.{bytes_of, record_of}
use Rattle.nests.specs.Nesting.{same_body, closes, is_nested, after_of, fault_of}
use Rattle.records.specs.Records.{stream_of, check_of, write_of, written_of}
use Rattle.entries.specs.Text.{text, numeral, decimal_of}
use Rattle.entries.specs.Entries.{node_name, atom_name, spaced, used, head_of, body_of, line_of, looks_line, refused_line}
use Rattle.listing.specs.Listing.{short, full, is_blank, left_out, line_in, lines_in, fit_of, list_of, page_text, last_of, page_of, paged_of}

-- the events of `a\n`
abbrev pub w2 : List ℕ
w2 =
    (1 ∷ 1 ∷ 0 ∷ 0 ∷ 0 ∷ 0 ∷ 0 ∷ 0 ∷ [])
    ++ (1 ∷ 15 ∷ 0 ∷ 0 ∷ 0 ∷ 0 ∷ 0 ∷ 0 ∷ [])
    ++ (3 ∷ 0 ∷ 0 ∷ 1 ∷ 0 ∷ 0 ∷ 0 ∷ 0 ∷ [])
    ++ (2 ∷ 15 ∷ 2 ∷ 2 ∷ 0 ∷ 0 ∷ 0 ∷ 0 ∷ [])
    ++ (2 ∷ 1 ∷ 2 ∷ 2 ∷ 0 ∷ 0 ∷ 0 ∷ 0 ∷ [])

-- the listing in a buffer of 80 sevens (V4, V8); it has no blank line, so the short one is the same (V10)
pub w2-listing :
    paged_of full 0 2 1 w2 (replicate 80 7)
    ≡ text "E Document 0 0\nE Paragraph 0 0\nI 0 1\nX Paragraph 2 2\nX Document 2 2\nlooks 1\n" ++ replicate 4 7
unfolding fields within is_listed field_of width_of in_range is_ranged size_of is_stale same_body closes is_nested after_of fault_of events_of check_of write_of text numeral decimal_of node_name atom_name spaced used head_of body_of line_of looks_line refused_line is_blank left_out line_in lines_in fit_of list_of page_text last_of page_of paged_of
w2-listing = refl

pub w2-short : paged_of short 0 2 1 w2 (replicate 80 7) ≡ paged_of full 0 2 1 w2 (replicate 80 7)
unfolding fields within is_listed field_of width_of in_range is_ranged size_of is_stale same_body closes is_nested after_of fault_of events_of check_of write_of text numeral decimal_of node_name atom_name spaced used head_of body_of line_of looks_line refused_line is_blank left_out line_in lines_in fit_of list_of page_text last_of page_of paged_of
w2-short = refl

-- the events of `\n{.a}\n***\n`: of the three atoms only the Blankline has no line in the short listing (V10)
abbrev atoms : List ℕ
atoms =
    (1 ∷ 1 ∷ 0 ∷ 0 ∷ 0 ∷ 0 ∷ 0 ∷ 0 ∷ [])
    ++ (4 ∷ 1 ∷ 0 ∷ 1 ∷ 0 ∷ 0 ∷ 0 ∷ 0 ∷ [])
    ++ (4 ∷ 2 ∷ 1 ∷ 6 ∷ 0 ∷ 0 ∷ 0 ∷ 0 ∷ [])
    ++ (4 ∷ 3 ∷ 6 ∷ 9 ∷ 0 ∷ 0 ∷ 0 ∷ 0 ∷ [])
    ++ (2 ∷ 1 ∷ 10 ∷ 10 ∷ 0 ∷ 0 ∷ 0 ∷ 0 ∷ [])

pub blank-short :
    paged_of short 0 10 5 atoms (replicate 80 7)
    ≡ text "E Document 0 0\nA Attributes 1 6\nA ThematicBreak 6 9\nX Document 10 10\nlooks 5\n" ++ replicate 3 7
unfolding fields within is_listed field_of width_of in_range is_ranged size_of is_stale same_body closes is_nested after_of fault_of events_of check_of write_of text numeral decimal_of node_name atom_name spaced used head_of body_of line_of looks_line refused_line is_blank left_out line_in lines_in fit_of list_of page_text last_of page_of paged_of
blank-short = refl

pub blank-full :
    paged_of full 0 10 5 atoms (replicate 96 7)
    ≡ text "E Document 0 0\nA Blankline 0 1\nA Attributes 1 6\nA ThematicBreak 6 9\nX Document 10 10\nlooks 5\n" ++ replicate 3 7
unfolding fields within is_listed field_of width_of in_range is_ranged size_of is_stale same_body closes is_nested after_of fault_of events_of check_of write_of text numeral decimal_of node_name atom_name spaced used head_of body_of line_of looks_line refused_line is_blank left_out line_in lines_in fit_of list_of page_text last_of page_of paged_of
blank-full = refl

-- any other number means short (V11)
pub other-short : paged_of 7 0 10 5 atoms (replicate 80 7) ≡ paged_of short 0 10 5 atoms (replicate 80 7)
unfolding fields within is_listed field_of width_of in_range is_ranged size_of is_stale same_body closes is_nested after_of fault_of events_of check_of write_of text numeral decimal_of node_name atom_name spaced used head_of body_of line_of looks_line refused_line is_blank left_out line_in lines_in fit_of list_of page_text last_of page_of paged_of
other-short = refl

-- the events of a newline: in room for Document's two lines the short listing is whole (V14), and the full one is refused at the Blankline (V7)
abbrev blank : List ℕ
blank = (1 ∷ 1 ∷ 0 ∷ 0 ∷ 0 ∷ 0 ∷ 0 ∷ 0 ∷ []) ++ (4 ∷ 1 ∷ 0 ∷ 1 ∷ 0 ∷ 0 ∷ 0 ∷ 0 ∷ []) ++ (2 ∷ 1 ∷ 1 ∷ 1 ∷ 0 ∷ 0 ∷ 0 ∷ 0 ∷ [])

pub blank-rooms :
    (list_of short blank 30 ≡ record { number = 0; position = 3; count = 30 })
    × (list_of full blank 30 ≡ record { number = 8; position = 1; count = 0 })
unfolding fields within is_listed field_of width_of in_range is_ranged size_of is_stale same_body closes is_nested after_of fault_of events_of check_of write_of text numeral decimal_of node_name atom_name spaced used head_of body_of line_of looks_line refused_line is_blank left_out line_in lines_in fit_of list_of page_text last_of page_of paged_of
blank-rooms = (refl, refl)

-- W2's records in a buffer of 40 (N1 to N4, N14)
pub w2-records :
    written_of w2 (replicate 40 7)
    ≡ (33 ∷ 0 ∷ 0 ∷ 0 ∷ 0 ∷ 0 ∷ 0 ∷ []) ++ (47 ∷ 0 ∷ 0 ∷ 0 ∷ 0 ∷ 0 ∷ 0 ∷ []) ++ (96 ∷ 0 ∷ 0 ∷ 0 ∷ 1 ∷ 0 ∷ 0 ∷ [])
    ++ (79 ∷ 2 ∷ 0 ∷ 0 ∷ 2 ∷ 0 ∷ 0 ∷ []) ++ (65 ∷ 2 ∷ 0 ∷ 0 ∷ 2 ∷ 0 ∷ 0 ∷ []) ++ replicate 5 7
unfolding fields within is_listed field_of width_of in_range is_ranged size_of is_stale same_body closes is_nested after_of fault_of bytes_of record_of events_of live_of stream_of check_of write_of written_of
w2-records = refl
