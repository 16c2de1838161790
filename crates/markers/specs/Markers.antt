-- What a list marker is (RULES M1, K10 to K12, K15, E7). Assumes nothing.
use Rattle.std.specs.Prelude.{Bool, true, false, List, ℕ, ◌+◌, ◌-◌, eqb, leb, length, get_or, take, drop, Option, Some, None}
use Rattle.classes.specs.Choice.{pick, both, either}
use Rattle.classes.specs.Classes.{is_space, is_bullet}
use Rattle.numbers.specs.Numbers.{run_of, value_of, begins_of}
use Rattle.numbers.specs.declared.Numbering.{Numbering}
use Rattle.markers.specs.declared.Style.{Style}
use Rattle.markers.specs.declared.Style.TheVariants.{Period, Paren, ParenParen}
use Rattle.markers.specs.declared.Marker.{Marker}
use Rattle.markers.specs.declared.Marker.TheVariants.{Nothing, Unordered, Ordered, Task, Description}
use Rattle.markers.specs.declared.Marked.{Marked}

abbrev pub marked_as : Marker → ℕ → Option Marked
marked_as m n = Some (record { marker = m; len = n })

abbrev pub none : Option Marked
none = None

-- the markers' numbers, 0: none
abbrev pub marker_num : Marker → ℕ
marker_num Nothing = 0
marker_num (Unordered b) = 1
marker_num (Ordered n s v) = 2
marker_num (Task b) = 3
marker_num Description = 4

-- whitespace or the end (K3, K4, K11, K12, M1)
unfoldable pub ends_at : List ℕ → ℕ → Bool
ends_at t e = either (leb (length t) e) (is_space (get_or t e 0))

-- `.` or `)` after a number, `)` only after an opening paren (M1)
unfoldable pub style_of : Bool → ℕ → Option Style
style_of true c = pick (eqb c 41) (Some ParenParen) None
style_of false c = pick (eqb c 41) (Some Paren) (pick (eqb c 46) (Some Period) None)

-- a style's number (E7)
abbrev pub style_num : Style → ℕ
style_num Period = 0
style_num Paren = 1
style_num ParenParen = 2

-- after a number of the numbering k in `from` to e, and its style: whitespace or the end (M1)
abbrev pub styled_of : List ℕ → ℕ → ℕ → Numbering → Option Style → Option Marked
styled_of t from e k None = none
styled_of t from e k (Some y) = pick (ends_at t (e + 1)) (marked_as (Ordered k y (value_of k (take (e - from) (drop from t)))) (e + 1)) none

abbrev pub after_run : List ℕ → ℕ → Bool → Numbering → ℕ → Option Marked
after_run t from paren k e = pick (leb (length t) e) none (styled_of t from e k (style_of paren (get_or t e 0)))

-- a number of the numbering that was begun, up to its longest (M2 to M5)
unfoldable pub begun_of : List ℕ → ℕ → Bool → Option Numbering → Option Marked
begun_of t from paren None = none
begun_of t from paren (Some k) = after_run t from paren k (from + run_of k (drop from t))

-- the marker whose number starts at `from`, after an opening paren or not (M1)
unfoldable pub numbered_of : List ℕ → ℕ → Bool → Option Marked
numbered_of t from paren = pick (leb (length t) from) none (begun_of t from paren (begins_of (get_or t from 0)))

-- an ordered marker: optional `(`, number, `.` or `)`, then whitespace or the end (M1)
unfoldable pub ordered_of : List ℕ → Option Marked
ordered_of t = pick (eqb (get_or t 0 0) 40) (numbered_of t 1 true) (numbered_of t 0 false)

-- a space or the end of the text follows the bullet (K10; A1, A2)
unfoldable pub bullet_ends : List ℕ → Bool
bullet_ends t = either (leb (length t) 1) (eqb (get_or t 1 0) 32)

-- space, x or X (K11)
unfoldable pub box_mark : ℕ → Bool
box_mark c = either (eqb c 32) (either (eqb c 120) (eqb c 88))

-- after the bullet and its space: `[`, a mark, `]`, then whitespace or the end (K11)
unfoldable pub task_at : List ℕ → Bool
task_at t = both (eqb (get_or t 2 0) 91) (both (box_mark (get_or t 3 0)) (both (eqb (get_or t 4 0) 93) (ends_at t 5)))

-- a task, else an item (K10, K11)
unfoldable pub bullet_of : List ℕ → Option Marked
bullet_of t = pick (bullet_ends t) (pick (task_at t) (marked_as (Task (get_or t 0 0)) 5) (marked_as (Unordered (get_or t 0 0)) 1)) none

-- `:`, then whitespace or the end (K12)
unfoldable pub description_of : List ℕ → Option Marked
description_of t = pick (ends_at t 1) (marked_as Description 1) none

-- the list marker at the start of t (K10, K12, K15)
unfoldable pub marker_of : List ℕ → Option Marked
marker_of t = pick (is_bullet (get_or t 0 0)) (bullet_of t) (pick (eqb (get_or t 0 0) 58) (description_of t) (ordered_of t))
