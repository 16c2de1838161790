-- The walk: blocks of lines, containers within each other, lists and terms (RULES O1, O2, P, L, U, T, R8 to R15). Assumes nothing.
use Rattle.std.specs.Prelude.{Bool, true, false, not, List, [], ◌∷◌, map, ℕ, zero, suc, ◌+◌, ◌-◌, ◌/◌, ◌%◌, min, eqb, leb, ltb, length, take, drop, get_or, set, Option, Some, None}
use Rattle.classes.specs.Choice.{pick, both, either}
use Rattle.classes.specs.Classes.{is_space}
use Rattle.lines.specs.Lines.{Span, span, place_of}
use Rattle.trim.specs.Trim.{lead, trim_both}
use Rattle.markers.specs.Markers.{marker_num}
use Rattle.markers.specs.Lists.{continues_of}
use Rattle.markers.specs.declared.Marker.{Marker}
use Rattle.markers.specs.declared.Continued.{Continued}
use Rattle.kinds.specs.declared.Kind.{Kind}
use Rattle.measure.specs.Continue.{blankline_kind, attributes_kind, thematic_break_kind, heading_kind, fenced_kind, definition_kind, blockquote_kind, list_item_kind, table_kind, kind_num, level_of}
use Rattle.measure.specs.Measure.{measure_of}
use Rattle.measure.specs.declared.Measured.{Measured}
use Rattle.events.specs.Names.{stale_role, enter_role, exit_role, atom_role, blockquote_node, div_node, list_item_node, task_item_node, description_item_node, footnote_node, paragraph_node, description_term_node, blankline_atom, node_word, start_word, end_word}
use Rattle.events.specs.State.{State, with_opn, with_attr, with_flags, with_spare, with_looks, with_at, refuse_of, go}
use Rattle.events.specs.Events.{width, push_of, patch_of, edit_of, whole_at, enter_of, exit_of}
use Rattle.events.specs.declared.Event.{Event}
use Rattle.events.specs.declared.Node.{Node}
use Rattle.lists.specs.Lists.{tight_word, type_detail, type_value, same_type, push_list_of, last_list_of, set_list_of, close_list_of}
use Rattle.lists.specs.declared.OpenList.{OpenList}
use Rattle.moves.specs.Moves.{is_at, find_of, other_of, shift_of}
use Rattle.walk.specs.Fields.{indent_of, closed_of, marker_in, is_container}
use Rattle.walk.specs.Leaf.{node, mark, line_at, pair_node, kept_of, leaf_of}
use Rattle.walk.specs.Table.{table_of}
use Rattle.walk.specs.declared.Met.{Met}
use Rattle.walk.specs.declared.Limits.{Limits}

-- ---- what a block's lines say
-- the first and the last of its lines
abbrev pub first_line : List Span → Span
first_line [] = span 0 0
first_line (l ∷ ls) = l

unfoldable pub last_line : List Span → Span
last_line [] = span 0 0
last_line (l ∷ ls) = pick (eqb (length ls) 0) l (last_line ls)

-- opening and closing span: the closing one is a closed fence's last line, else empty at the end of the last line (O1, O2; A22)
unfoldable pub met_of : Measured → List Span → Met
met_of m ls =
    let b = (first_line ls).start in
    let z = last_line ls in
    record { kind = m.kind; start = b + m.opening.start; end = b + m.opening.end; from = pick (closed_of m.kind) z.start z.end; to = z.end }

-- a definition's marker is its `[`, every other block's starts its opening span (R14; B1)
abbrev pub marker_start : Met → ℕ → ℕ
marker_start m line = pick (eqb (kind_num m.kind) definition_kind) (line + indent_of m.kind) m.start

-- ---- refusals 5, 3, 4, before any event of the block
-- its looks are counted, in 64 bits, and its marker is where a refusal would be (H16, R14)
unfoldable pub count_of : ℕ → ℕ → State → State
count_of at n s = pick (leb 18446744073709551616 (s.looks + n)) (refuse_of 7 (with_at at s)) (with_at at (with_looks (s.looks + n) s))

-- in this order (R8 to R10, R13)
unfoldable pub admit_of : Limits → ℕ → Bool → Met → State → State
admit_of lim left top m s =
    let heading = eqb (kind_num m.kind) heading_kind in
    pick (both heading (ltb 65535 (level_of m.kind))) (refuse_of 5 s)
    (pick (both (is_container m.kind) (eqb left 0)) (refuse_of 3 s)
    (pick (both heading (both top (leb lim.sections (kept_of s.sec (level_of m.kind) (length s.sec))))) (refuse_of 4 s)
    s))

-- ---- lists
-- the innermost list has its items here (L2)
abbrev pub list_here : State → Bool
list_here s = both (not (eqb (length s.lst) 0)) (eqb (last_list_of s).depth (length s.opn))

-- an item that goes on the list: its type changes only while it is still the last item's (L8, L9; A13c)
abbrev pub go_on : OpenList → ℕ → Option Continued → State → State
go_on o pos None s = close_list_of pos s
go_on o pos (Some on) s = set_list_of (record { start = pick (same_type o.start o.prev) on.prev o.start; prev = on.next; depth = o.depth }) s

-- a list ends before any block that is no item of its type (L2)
unfoldable pub settle_of : Met → State → State
settle_of m s =
    pick (list_here s)
    (pick (eqb (kind_num m.kind) list_item_kind) (go_on (last_list_of s) m.start (continues_of (last_list_of s).prev (marker_in m.kind)) s) (close_list_of m.start s))
    s

-- after a blank line: the innermost list is loose, unless an item begins a list inside it (T4 to T6)
unfoldable pub loose_at : ℕ → State → State
loose_at e s =
    pick (whole_at s.evs e)
    (pick (eqb (get_or s.evs (e + tight_word) 0) 1) (with_flags false true (patch_of (e + tight_word) 0 s)) (with_flags false false s))
    (refuse_of 7 s)

-- Blank and Loosened at a block (T3 to T6)
unfoldable pub loosen_of : Met → State → State
loosen_of m s =
    let o = last_list_of s in
    pick (eqb (kind_num m.kind) blankline_kind) (with_flags true s.loose s)
    (pick (not s.blank) (with_flags false false s)
    (pick (eqb (length s.lst) 0) (with_flags false false s)
    (pick (ltb (length s.opn) o.depth) (refuse_of 7 s)
    (pick (eqb o.depth 0) (with_flags false false s)
    (pick (both (eqb (kind_num m.kind) list_item_kind) (ltb o.depth (length s.opn))) (with_flags false false s)
    (loose_at (get_or s.opn (o.depth - 1) 0) s))))))

-- ---- containers: prefixes off the later lines
-- `>` and one whitespace byte, nothing off a lazy line (P3; A19)
unfoldable pub quote_prefix : List ℕ → ℕ
quote_prefix line =
    let t = trim_both line in
    pick (not (eqb (get_or t 0 0) 62)) 0
    (pick (eqb (length t) 1) (lead line + 1)
    (pick (is_space (get_or t 1 0)) (lead line + 2)
    0))

-- else whitespace up to the opening's length, or the fence's indent (P4, P5; A20, A21)
unfoldable pub skip_of : Kind → ℕ → List ℕ → ℕ
skip_of k opening line =
    pick (eqb (kind_num k) blockquote_kind) (quote_prefix line)
    (pick (eqb (kind_num k) fenced_kind) (min (lead line) (indent_of k))
    (min (lead line) opening))

-- never the newline (P6)
unfoldable pub prefix_of : Kind → ℕ → List ℕ → ℕ
prefix_of k opening line = min (skip_of k opening line) (place_of 10 line)

abbrev pub strip_line : List ℕ → Kind → ℕ → Span → Span
strip_line text k opening l = span (l.start + prefix_of k opening (line_at text l)) l.end

-- off all but the first (P3 to P6)
unfoldable pub strip_lines : List ℕ → Kind → ℕ → List Span → List Span
strip_lines text k opening [] = []
strip_lines text k opening (l ∷ ls) = l ∷ map (strip_line text k opening) ls

-- ---- containers: Enters
-- a list is open here, so that an item goes on it (L1)
abbrev pub open_here : State → Bool
open_here s = both (not (eqb (length s.lst) 0)) (leb (length s.opn) (last_list_of s).depth)

-- a list's node is its marker's number and this: Unordered, Ordered, TaskList, DescriptionList (L1, E3)
abbrev pub before_lists : ℕ
before_lists = 3

-- tight until a blank line shows otherwise; a value of 64 bits is two words, the lower first (T1, E7, O4)
abbrev pub list_node : Marker → ℕ → Node
list_node ty pos = node (marker_num ty + before_lists) pos pos 1 (type_detail ty) (type_value ty % 4294967296) (type_value ty / 4294967296)

abbrev pub new_list : Marker → State → State
new_list ty s = push_list_of (record { start = ty; prev = ty; depth = length s.opn }) s

-- a list begins with this item, unless one is open here (L1)
unfoldable pub open_list : Marker → ℕ → State → State
open_list ty pos s = pick (open_here s) s (go (enter_of (list_node ty pos) s) (new_list ty))

-- a description item's term, empty until its first paragraph is known (U1; A16)
unfoldable pub open_term : Met → State → State
open_term m s = go (enter_of (node description_term_node m.start m.end 0 0 0 0) s) (exit_of m.end m.end)

-- an item, by its marker's number: a task is checked where its box is not empty (K11, U1)
unfoldable pub item_node : List ℕ → Met → ℕ → Node
item_node text m n =
    pick (eqb n 3) (node task_item_node m.start m.end (pick (not (eqb (get_or text (m.start + 3) 0) 32)) 1 0) 0 0 0)
    (pick (eqb n 4) (node description_item_node m.end m.end 0 0 0 0)
    (node list_item_node m.start m.end 0 0 0 0))

-- by E3; the body of a Div and a Footnote: I8
unfoldable pub container_node : List ℕ → Met → ℕ → Node
container_node text m line =
    pick (eqb (kind_num m.kind) fenced_kind) (pair_node m line div_node)
    (pick (eqb (kind_num m.kind) definition_kind) (pair_node m line footnote_node)
    (pick (eqb (kind_num m.kind) blockquote_kind) (node blockquote_node m.start m.end 0 0 0 0)
    (item_node text m (marker_num (marker_in m.kind)))))

-- for an item its list, for a description item its term, then its own (L1, U1)
unfoldable pub open_container : List ℕ → Met → ℕ → State → State
open_container text m line s =
    let ty = marker_in m.kind in
    go (pick (eqb (kind_num m.kind) list_item_kind) (open_list ty m.start s) s) (λ a.
    go (pick (eqb (marker_num ty) 4) (open_term m a) a) (enter_of (container_node text m line)))

-- ---- description terms (U3 to U6), with their Stale events (E10)
abbrev pub stale : Event
stale = mark stale_role 0 0 0 0

-- the Exit at word x becomes the term's; the paragraph's Enter, after the item's at word i, and the empty term's Exit, before it, become Stale (U3, U5)
unfoldable pub clear_term : ℕ → ℕ → State → State
clear_term i x s = edit_of (i - width) stale (edit_of (i + width) stale (patch_of (x + node_word) description_term_node s))

-- the details start where the event at word f does, or where the last event ends (U6)
unfoldable pub detail_start : ℕ → State → ℕ
detail_start f s = pick (whole_at s.evs f) (get_or s.evs (f + start_word) 0) (get_or s.evs (length s.evs - width + end_word) 0)

-- the item's Enter goes behind its term and the blank lines after it, to the word before f (U4, U6)
unfoldable pub place_detail : ℕ → ℕ → ℕ → State → State
place_detail d i f s =
    let b = edit_of (f - width) (mark enter_role description_item_node (detail_start f s) (detail_start f s) 0) (shift_of i (f - (i + width)) s) in
    with_opn (set b.opn d (f - width)) b

-- the paragraph that ends at word x becomes the term (U3)
unfoldable pub move_term : ℕ → ℕ → ℕ → State → State
move_term d i x s = let a = clear_term i x s in place_detail d i (other_of atom_role blankline_atom (x + width) a) a

-- where the first child of the item at word i is a paragraph, that is its term (U1 to U3)
unfoldable pub term_of : ℕ → ℕ → State → State
term_of d i s =
    let x = find_of exit_role paragraph_node (i + width + width) s in
    pick (ltb i width) (refuse_of 7 s)
    (pick (not (whole_at s.evs i)) (refuse_of 7 s)
    (pick (not (whole_at s.evs (i + width))) (refuse_of 7 s)
    (pick (not (is_at s.evs (i + width) enter_role paragraph_node)) s
    (pick (not (whole_at s.evs x)) (refuse_of 7 s)
    (move_term d i x s)))))

-- the item is the open event at place d (U3)
unfoldable pub settle_term : ℕ → State → State
settle_term d s = pick (leb (length s.opn) d) (refuse_of 7 s) (term_of d (get_or s.opn d 0) s)

-- ---- containers: Exits
-- a list that is open inside ends with its container (P8, T8, T9, O4)
unfoldable pub close_inner : ℕ → State → State
close_inner pos s = pick (list_here s) (close_list_of pos (with_flags false false s)) s

-- the term, the list that is open inside, the Exit (P8)
unfoldable pub close_container : Met → ℕ → State → State
close_container m d s =
    go (pick (eqb (marker_num (marker_in m.kind)) 4) (settle_term d s) s) (λ a.
    go (close_inner m.from a) (exit_of m.from m.to))

-- ---- blocks
-- a block of these lines, one by one (H1, H15, H17)
unfoldable pub run_of : List ℕ → (Measured → List Span → State → State) → List Span → ℕ → State → State
run_of text block [] k s = s
run_of text block (l ∷ ls) (suc k) s = run_of text block ls k s
run_of text block (l ∷ ls) zero s =
    let m = measure_of text (l ∷ ls) in
    let n = m.lines - m.given in
    go (block m (take n (l ∷ ls)) s) (run_of text block ls (n - 1))

-- the first line without the opening, and without a space or tab after a blockquote's `>` (P2, I3, I5; A19)
abbrev pub after_quote : List ℕ → Met → Span → ℕ
after_quote text m l =
    let b = get_or text m.end 0 in
    pick (both (eqb (kind_num m.kind) blockquote_kind) (both (ltb m.end l.end) (either (eqb b 32) (eqb b 9)))) 1 0

unfoldable pub skip_opening : List ℕ → Met → List Span → List Span
skip_opening text m [] = []
skip_opening text m (l ∷ ls) = span (m.end + after_quote text m l) l.end ∷ ls

-- the lines inside a fence, or all (I6, P5)
abbrev pub inner_lines : Kind → List Span → List Span
inner_lines k ls = pick (eqb (kind_num k) fenced_kind) (take (length ls - 1 - pick (closed_of k) 1 0) (drop 1 ls)) ls

-- a container, whose lines without their prefixes are walked by `inner` (P1)
unfoldable pub container_of : List ℕ → (List Span → State → State) → ℕ → Met → ℕ → List Span → State → State
container_of text inner left m line ls s =
    go (open_container text m line (with_spare (min left s.spare) s)) (λ a.
    go (inner (strip_lines text m.kind (m.end - line) ls) a) (close_container m (length a.opn - 1)))

-- a block that is no container: a Blankline, Attributes or a ThematicBreak, a table, or a leaf (E4)
unfoldable pub plain_of : List ℕ → Bool → Met → ℕ → List Span → State → State
plain_of text top m line ls s =
    let k = kind_num m.kind in
    pick (leb k thematic_break_kind) (push_of (mark atom_role k m.start m.end 0) s)
    (pick (eqb k table_kind) (table_of text m ls s)
    (leaf_of text m line top ls s))

unfoldable pub body_of : List ℕ → (Met → ℕ → List Span → State → State) → Bool → Met → ℕ → List Span → State → State
body_of text container top m line ls s = pick (is_container m.kind) (container m line ls s) (plain_of text top m line ls s)

-- Attributes just before: where the first of them stands, this block's first event being at word w (S4, S5)
abbrev pub attr_of : Met → ℕ → State → State
attr_of m w s = pick (eqb (kind_num m.kind) attributes_kind) (with_attr (pick (eqb s.attr 0) (w + 1) s.attr) s) (with_attr 0 s)

-- a block before its own events: begun, admitted, the list here settled, the innermost list loosened (R13, T4)
unfoldable pub ready_of : Limits → ℕ → Bool → Met → ℕ → ℕ → State → State
ready_of lim left top m at n s =
    go (count_of at n s) (λ a.
    go (admit_of lim left top m a) (λ b.
    go (settle_of m b) (loosen_of m)))

-- one block, whose lines are ls (R14)
unfoldable pub block_of : List ℕ → Limits → (Met → ℕ → List Span → State → State) → ℕ → Bool → Measured → List Span → State → State
block_of text lim container left top measured ls s =
    let m = met_of measured ls in
    let line = (first_line ls).start in
    go (ready_of lim left top m (marker_start m line) measured.looks s) (λ a.
    go (body_of text container top m line (inner_lines m.kind (skip_opening text m ls)) a) (λ b.
    with_at s.at (attr_of m (length a.evs) b)))

-- the only recursion on the nesting left (R8, P1)
unfoldable pub container_at : List ℕ → Limits → ℕ → Met → ℕ → List Span → State → State
container_at text lim zero m line ls s = refuse_of 3 s
container_at text lim (suc n) m line ls s =
    container_of text (λ xs. run_of text (block_of text lim (container_at text lim n) n false) xs 0) n m line ls s

abbrev pub blocks_at : List ℕ → Limits → ℕ → Bool → List Span → State → State
blocks_at text lim left top ls s = run_of text (block_of text lim (container_at text lim left) left top) ls 0 s
