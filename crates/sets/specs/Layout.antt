-- What stands in the words of elements and pieces (RULES J11, J12). Assumes nothing.
use Rattle.std.specs.Prelude.{List, [], ◌∷◌, ℕ, zero, suc, ◌-◌, get_or, take, drop}
use Rattle.sets.specs.Opened.{element_width, piece_width}

-- an element: its kind's number, its key's span, its first piece, and the first that is no longer its own; a piece: its span (J11, J12)
pub record Listed : Type 0 where
  pub kind : ℕ
  pub from : ℕ
  pub to : ℕ
  pub first : ℕ
  pub past : ℕ

pub record Spanned : Type 0 where
  pub start : ℕ
  pub end : ℕ

-- the first words as an element, as a piece; words that are missing count as zero
abbrev pub element_in : List ℕ → Listed
element_in ws = record { kind = get_or ws 0 0; from = get_or ws 1 0; to = get_or ws 2 0; first = get_or ws 3 0; past = get_or ws 4 0 }

abbrev pub piece_in : List ℕ → Spanned
piece_in ws = record { start = get_or ws 0 0; end = get_or ws 1 0 }

-- the first n of them
unfoldable pub listed : ℕ → List ℕ → List Listed
listed zero ws = []
listed (suc n) ws = element_in ws ∷ listed n (drop element_width ws)

unfoldable pub spanned : ℕ → List ℕ → List Spanned
spanned zero ws = []
spanned (suc n) ws = piece_in ws ∷ spanned n (drop piece_width ws)

-- the words of elements (J11)
unfoldable pub words_of : List Listed → List ℕ
words_of [] = []
words_of (x ∷ xs) = x.kind ∷ x.from ∷ x.to ∷ x.first ∷ x.past ∷ words_of xs

-- of all pieces, those of an element (J11)
abbrev pub own : List Spanned → Listed → List Spanned
own ps x = take (x.past - x.first) (drop x.first ps)
