-- A set opened in lent words: the answer, and every word (RULES J4, J10 to J14). Assumes nothing.
use Rattle.std.specs.Prelude.{List, [], ◌∷◌, ◌++◌, ℕ, ◌+◌, ◌-◌, ◌/◌, eqb, leb, length, set, replicate}
use Rattle.classes.specs.Choice.{pick}
use Rattle.trim.specs.Trim.{trim_end}
use Rattle.sets.specs.Given.{kind_num, Given, Element, Piece, Told, Verdict, Good, Bad, given_of, verdict_of}

-- the words of an element: its kind, its key's span, its first piece, and the first that is no longer its own; and of a piece: its span (J11, J12)
abbrev pub element_width : ℕ
element_width = 5

abbrev pub piece_width : ℕ
piece_width = 2

-- the words written so far; 13 and the byte then read, where an element or a piece had no room (J10)
pub record Held : Type 0 where
  pub elements : List ℕ
  pub pieces : List ℕ
  pub number : ℕ
  pub place : ℕ

abbrev pub held : List ℕ → List ℕ → Held
held e p = record { elements = e; pieces = p; number = 0; place = 0 }

abbrev pub full : ℕ → Held → Held
full at h = record { elements = h.elements; pieces = h.pieces; number = 13; place = at }

-- how many pieces there are, and the last element's pieces up to the n-th
abbrev pub pieces_in : Held → ℕ
pieces_in h = length h.pieces / piece_width

abbrev pub up_to : ℕ → List ℕ → List ℕ
up_to n es = set es (length es - 1) n

-- one element or piece more, where it has room (J10, J14)
abbrev pub hold_in : ℕ → ℕ → ℕ → Given → Held → Held
hold_in ne np at (Element k a e) h =
    pick (leb (length h.elements + element_width) ne)
    (held (h.elements ++ (kind_num k ∷ a ∷ e ∷ pieces_in h ∷ pieces_in h ∷ [])) h.pieces)
    (full at h)
hold_in ne np at (Piece a e) h =
    pick (leb (length h.pieces + piece_width) np)
    (held (up_to (pieces_in h + 1) h.elements) (h.pieces ++ (a ∷ e ∷ [])))
    (full at h)

-- in ne words for elements and np for pieces, all that is given, up to the first that has no room (J10, J14)
unfoldable pub hold_all : ℕ → ℕ → List Told → Held → Held
hold_all ne np [] h = h
hold_all ne np (t ∷ ts) h = pick (eqb h.number 0) (hold_all ne np ts (hold_in ne np t.place t.what h)) h

-- the answer: its number, 0 where nothing is refused, a position, and how many elements (J13)
pub record Answer : Type 0 where
  pub number : ℕ
  pub position : ℕ
  pub count : ℕ

-- the answer, and the words lent
pub record Outcome : Type 0 where
  pub answer : Answer
  pub elements : List ℕ
  pub pieces : List ℕ

abbrev pub refused_as : ℕ → ℕ → ℕ → ℕ → Outcome
refused_as ne np number at = record { answer = record { number = number; position = at; count = 0 }; elements = replicate ne 0; pieces = replicate np 0 }

-- refusals leave zeros; else what is held stands first, and zeros behind it (J13, J14)
abbrev pub judged : ℕ → ℕ → ℕ → Held → Verdict → Outcome
judged ne np len h (Bad at) = refused_as ne np 14 at
judged ne np len h Good = record {
  answer = record { number = 0; position = len; count = length h.elements / element_width };
  elements = h.elements ++ replicate (ne - length h.elements) 0;
  pieces = h.pieces ++ replicate (np - length h.pieces) 0;
}

-- 13 comes at a byte before 14's, since a byte at which the machine fails gives nothing (J10)
unfoldable pub finish : ℕ → ℕ → ℕ → Held → Verdict → Outcome
finish ne np len h v = pick (eqb h.number 0) (judged ne np len h v) (refused_as ne np h.number h.place)

-- the bytes without the whitespace at their end (J4)
unfoldable pub open_of : List ℕ → ℕ → ℕ → Outcome
open_of bytes ne np =
    let s = trim_end bytes in
    finish ne np (length bytes) (hold_all ne np (given_of s) (held [] [])) (verdict_of s)
