-- Open lists: five words each, and how a list ends (RULES E6, E7, L9, L10, O4, T7). Assumes nothing.
use Rattle.std.specs.Prelude.{ℕ, ◌+◌, ◌-◌, ◌*◌, ◌/◌, ◌%◌, Bool, List, [], ◌∷◌, ◌++◌, eqb, leb, ltb, length, take, get_or}
use Rattle.std.proofs.lemmas.List.Edits.{sets}
use Rattle.classes.specs.Choice.{pick, both}
use Rattle.numbers.specs.Numbers.{num_of}
use Rattle.numbers.specs.declared.Numbering.{Numbering}
use Rattle.numbers.specs.declared.Numbering.TheVariants.{Decimal, AlphaLower, AlphaUpper, RomanLower, RomanUpper}
use Rattle.markers.specs.Markers.{marker_num, style_num}
use Rattle.markers.specs.declared.Style.{Style}
use Rattle.markers.specs.declared.Style.TheVariants.{Period, Paren, ParenParen}
use Rattle.markers.specs.declared.Marker.{Marker}
use Rattle.markers.specs.declared.Marker.TheVariants.{Nothing, Unordered, Ordered, Task, Description}
use Rattle.events.specs.Names.{body_word, body_word_b, body_word_c, body_word_d, list_width, list_room}
use Rattle.events.specs.State.{State, with_lst, refuse_of, go}
use Rattle.events.specs.Events.{patch_of, whole_at, exit_of}
use Rattle.lists.specs.declared.OpenList.{OpenList}

-- the words of an open list behind its type's: its value, the type and value of its last item, how many events are open inside it
abbrev pub value_word : ℕ
value_word = 1

abbrev pub prev_word : ℕ
prev_word = 2

abbrev pub prev_value_word : ℕ
prev_value_word = 3

abbrev pub depth_word : ℕ
depth_word = 4

-- the body's words of a list: tight, a bullet or numbering x 4 + style, the lower and upper half of a value (E3)
abbrev pub tight_word : ℕ
tight_word = body_word

abbrev pub detail_word : ℕ
detail_word = body_word_b

abbrev pub low_word : ℕ
low_word = body_word_c

abbrev pub high_word : ℕ
high_word = body_word_d

-- a type's word: a bullet, or numbering x 4 + style (E6, E7)
abbrev pub type_detail : Marker → ℕ
type_detail Nothing = 0
type_detail (Unordered b) = b
type_detail (Ordered n s v) = num_of n * 4 + style_num s
type_detail (Task b) = b
type_detail Description = 0

-- an ordered type's value (E7)
abbrev pub type_value : Marker → ℕ
type_value Nothing = 0
type_value (Unordered b) = 0
type_value (Ordered n s v) = v
type_value (Task b) = 0
type_value Description = 0

-- a type's kind and detail in one word, and back (proofs: the type that was stored is the type that is read)
abbrev pub type_word : Marker → ℕ
type_word m = marker_num m * 256 + type_detail m

-- a numbering and a style by its number (E7)
unfoldable pub numbering_by : ℕ → Numbering
numbering_by n =
    pick (eqb n 1) Decimal
    (pick (eqb n 2) AlphaLower
    (pick (eqb n 3) AlphaUpper
    (pick (eqb n 4) RomanLower
    RomanUpper)))

unfoldable pub style_by : ℕ → Style
style_by n = pick (eqb n 0) Period (pick (eqb n 1) Paren ParenParen)

unfoldable pub type_of : ℕ → ℕ → Marker
type_of w v =
    pick (eqb (w / 256) 1) (Unordered (w % 256))
    (pick (eqb (w / 256) 2) (Ordered (numbering_by (w % 256 / 4)) (style_by (w % 256 % 4)) v)
    (pick (eqb (w / 256) 3) (Task (w % 256))
    (pick (eqb (w / 256) 4) Description
    Nothing)))

-- kind, detail and value agree (L9)
abbrev pub same_type : Marker → Marker → Bool
same_type a b = both (eqb (type_word a) (type_word b)) (eqb (type_value a) (type_value b))

-- the words of an open list
abbrev pub list_words : OpenList → List ℕ
list_words o = type_word o.start ∷ type_value o.start ∷ type_word o.prev ∷ type_value o.prev ∷ o.depth ∷ []

-- the list at word i
abbrev pub open_at : List ℕ → ℕ → OpenList
open_at l i = record {
  start = type_of (get_or l i 0) (get_or l (i + value_word) 0);
  prev = type_of (get_or l (i + prev_word) 0) (get_or l (i + prev_value_word) 0);
  depth = get_or l (i + depth_word) 0;
}

-- one open list more, if there is room for it (R12)
unfoldable pub push_list_of : OpenList → State → State
push_list_of o s = pick (leb list_room (length s.lst)) (refuse_of 7 s) (with_lst (s.lst ++ list_words o) s)

-- the innermost open list, and it changed, and it open no more
unfoldable pub last_list_of : State → OpenList
last_list_of s = open_at s.lst (length s.lst - list_width)

unfoldable pub set_list_of : OpenList → State → State
set_list_of o s = with_lst (sets s.lst (length s.lst - list_width) (list_words o)) s

unfoldable pub pop_list_of : State → State
pop_list_of s = with_lst (take (length s.lst - list_width) s.lst) s

-- the Enter at word e gets the list's type, and is tight again where a blank line at its end made it loose (L10, T7)
unfoldable pub retype_of : ℕ → Marker → State → State
retype_of e ty s =
    let t = pick s.loose (patch_of (e + tight_word) 1 s) s in
    patch_of (e + high_word) (type_value ty / 4294967296) (patch_of (e + low_word) (type_value ty % 4294967296) (patch_of (e + detail_word) (type_detail ty) t))

-- the list o ends at pos: its Enter is at word e, its Exit has the Enter's body, and it is open no more (O4, L10)
unfoldable pub end_of : ℕ → OpenList → ℕ → State → State
end_of pos o e s =
    pick (whole_at s.evs e) (go (exit_of pos pos (retype_of e o.start s)) pop_list_of) (refuse_of 7 s)

-- its Enter is the open event just outside its items
unfoldable pub close_of : ℕ → OpenList → State → State
close_of pos o s =
    pick (eqb o.depth 0) (refuse_of 7 s)
    (pick (ltb (length s.opn) o.depth) (refuse_of 7 s)
    (end_of pos o (get_or s.opn (o.depth - 1) 0) s))

-- the innermost list ends at pos (O4)
unfoldable pub close_list_of : ℕ → State → State
close_list_of pos s = pick (eqb (length s.lst) 0) (refuse_of 7 s) (close_of pos (last_list_of s) s)
