-- Leaf blocks: their lines, a heading's section, their events (RULES I, S1 to S5; DIFFERENCES A15 to A18, A25). Assumes nothing.
use Rattle.std.specs.Prelude.{Bool, true, false, List, [], ◌∷◌, ◌++◌, ℕ, zero, suc, ◌+◌, ◌-◌, min, eqb, leb, ltb, length, take, drop, get_or}
use Rattle.classes.specs.Choice.{pick, both, either}
use Rattle.lines.specs.Lines.{Span, span}
use Rattle.trim.specs.Trim.{front, lead, indent, kept, part_of}
use Rattle.kinds.specs.Bytes.{same}
use Rattle.kinds.specs.declared.Kind.{Kind}
use Rattle.measure.specs.Continue.{heading_kind, fenced_kind, definition_kind, kind_num, level_of}
use Rattle.events.specs.Names.{inline_role, section_node, paragraph_node, heading_node, link_definition_node, code_block_node, deepest}
use Rattle.events.specs.State.{State, with_opn, with_sec, refuse_of, go}
use Rattle.events.specs.Events.{push_of, whole_at, enter_of, exit_of}
use Rattle.events.specs.declared.Event.{Event}
use Rattle.events.specs.declared.Node.{Node}
use Rattle.moves.specs.Moves.{sections_of}
use Rattle.walk.specs.Fields.{indent_of, from_of, to_of}
use Rattle.walk.specs.declared.Met.{Met}

-- nodes, and events of at most one body word (E1, E3)
abbrev pub node : ℕ → ℕ → ℕ → ℕ → ℕ → ℕ → ℕ → Node
node n i j a b c d = record { node = n; start = i; end = j; a = a; b = b; c = c; d = d }

abbrev pub mark : ℕ → ℕ → ℕ → ℕ → ℕ → Event
mark role n i j a = record { role = role; node = n; start = i; end = j; a = a; b = 0; c = 0; d = 0 }

-- an Inline (E5)
unfoldable pub inline_of : ℕ → ℕ → State → State
inline_of i j s = push_of (mark inline_role 0 i j 0) s

-- ---- lines
abbrev pub line_at : List ℕ → Span → List ℕ
line_at text l = part_of text l.start l.end

-- whitespace off the front, off the end (G7)
abbrev pub trim_front : List ℕ → Span → Span
trim_front text l = span (l.start + lead (line_at text l)) l.end

abbrev pub trim_back : List ℕ → Span → Span
trim_back text l = span l.start (l.start + kept (line_at text l))

-- a heading's later line without its whitespace, marks and whitespace, if whitespace follows the marks (I4; A17)
abbrev pub past_marks : List ℕ → Span → ℕ
past_marks text l = (trim_front text l).start + front (same 35) (line_at text (trim_front text l))

unfoldable pub trim_marks : List ℕ → Span → Span
trim_marks text l =
    let a = past_marks text l in
    let r = trim_front text (span a l.end) in
    pick (eqb r.start a) l r

-- each line is trimmed at the front, the last at the end too (I2; A18)
abbrev pub plain_line : List ℕ → Bool → Span → Span
plain_line text last l = pick last (trim_back text (trim_front text l)) (trim_front text l)

-- a code line loses up to the fence's indent and nothing else (I6, I7)
abbrev pub code_line : List ℕ → ℕ → Span → Span
code_line text n l = span (l.start + min n (indent (line_at text l))) l.end

-- code; a heading's later lines; a link definition, whose lines are all trimmed at the end; else plain (I2 to I6)
unfoldable pub leaf_line : List ℕ → Kind → Bool → Bool → Span → Span
leaf_line text k first last l =
    pick (eqb (kind_num k) fenced_kind) (code_line text (indent_of k) l)
    (pick (eqb (kind_num k) heading_kind) (plain_line text last (pick first l (trim_marks text l)))
    (plain_line text (either (eqb (kind_num k) definition_kind) last) l))

-- an Inline for a line that is not empty (I1)
unfoldable pub line_event : Span → State → State
line_event x s = pick (ltb x.start x.end) (inline_of x.start x.end s) s

-- of all lines, first to last (I1)
unfoldable pub inlines_of : List ℕ → Kind → Bool → List Span → State → State
inlines_of text k first [] s = s
inlines_of text k first (l ∷ ls) s = go (line_event (leaf_line text k first (eqb (length ls) 0) l) s) (inlines_of text k false ls)

-- ---- sections
-- how many of the first n open sections a heading of this level leaves open: those up to the last of a lower level (S2)
unfoldable pub kept_of : List ℕ → ℕ → ℕ → ℕ
kept_of sec level zero = 0
kept_of sec level (suc n) = pick (ltb (get_or sec n 0) level) (suc n) (kept_of sec level n)

-- the Section opens where the heading starts, if there is room for it (S1)
unfoldable pub begin_section : ℕ → ℕ → ℕ → State → State
begin_section level i kept s =
    pick (leb deepest kept) (refuse_of 7 s)
    (enter_of (node section_node i i i 0 0 0) (with_sec (take kept s.sec ++ (level ∷ [])) s))

-- all but the first `kept` sections end at pos, before this word (S3, S4)
unfoldable pub end_sections : ℕ → ℕ → ℕ → State → State
end_sections kept pos word s =
    let left = length s.opn - (length s.sec - kept) in
    pick (ltb (length s.opn) (length s.sec - kept)) (refuse_of 7 s)
    (go (sections_of pos word (drop left s.opn) s) (with_opn (take left s.opn)))

-- the sections that it ends, and its own (S1, S2)
unfoldable pub section_at : ℕ → ℕ → ℕ → ℕ → State → State
section_at level i pos word s =
    let kept = kept_of s.sec level (length s.sec) in
    go (end_sections kept pos word s) (begin_section level i kept)

-- sections of this level and deeper end before the attributes just before the heading, at the first one's start (`attr` is one more than its word), or at the heading's (S3, S4; A25)
unfoldable pub section_of : ℕ → ℕ → State → State
section_of level i s =
    pick (eqb s.attr 0) (section_at level i i (length s.evs) s)
    (pick (whole_at s.evs (s.attr - 1)) (section_at level i (get_or s.evs (s.attr + 1) 0) (s.attr - 1) s)
    (refuse_of 7 s))

-- ---- the leaf
-- a node whose body is the offsets of its label, spec or class (I8)
abbrev pub pair_node : Met → ℕ → ℕ → Node
pair_node m line n = node n m.start m.end (line + from_of m.kind) (line + to_of m.kind) 0 0

-- body: a heading's level, has_section and pos; the label or spec (E3, S1, P7)
unfoldable pub leaf_node : Met → ℕ → Bool → Node
leaf_node m line top =
    pick (eqb (kind_num m.kind) heading_kind) (node heading_node m.start m.end (level_of m.kind) (pick top 1 0) m.start 0)
    (pick (eqb (kind_num m.kind) definition_kind) (pair_node m line link_definition_node)
    (pick (eqb (kind_num m.kind) fenced_kind) (pair_node m line code_block_node)
    (node paragraph_node m.start m.end 0 0 0 0)))

-- for a heading at the top its section, then Enter, the lines, Exit (I1, S1)
unfoldable pub leaf_of : List ℕ → Met → ℕ → Bool → List Span → State → State
leaf_of text m line top ls s =
    go (pick (both top (eqb (kind_num m.kind) heading_kind)) (section_of (level_of m.kind) m.start s) s) (λ a.
    go (enter_of (leaf_node m line top) a) (λ b.
    go (inlines_of text m.kind true ls b) (exit_of m.from m.to)))
