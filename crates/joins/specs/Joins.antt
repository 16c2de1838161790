-- The bytes of a value, its pieces joined, written into a lent buffer (RULES J6, J17, J18). Assumes nothing.
use Rattle.std.specs.Prelude.{Bool, false, List, [], ◌∷◌, ◌++◌, ℕ, ◌/◌, eqb, leb, length, take, drop}
use Rattle.classes.specs.Choice.{pick}
use Rattle.trim.specs.Trim.{part_of}
use Rattle.sets.specs.Given.{kind_num, AComment}
use Rattle.sets.specs.Opened.{Answer, Outcome, piece_width, open_of}
use Rattle.sets.specs.Layout.{Listed, Spanned, spanned, own}
use Rattle.values.specs.Values.{handed, elements_of, value_of}

-- the bytes of a piece (J12)
abbrev pub bytes_of : List ℕ → Spanned → List ℕ
bytes_of bytes p = part_of bytes p.start p.end

-- an empty piece adds nothing; glue stands between two that are not empty (J6)
unfoldable pub extend_by : List ℕ → List ℕ → List ℕ → List ℕ
extend_by glue acc s = pick (eqb (length s) 0) acc (pick (eqb (length acc) 0) s (acc ++ glue ++ s))

-- pieces joined, behind what is joined already (J6)
unfoldable pub joined_from : List ℕ → List ℕ → List ℕ → List Spanned → List ℕ
joined_from bytes glue acc [] = acc
joined_from bytes glue acc (p ∷ ps) = joined_from bytes glue (extend_by glue acc (bytes_of bytes p)) ps

-- of all pieces, those of some elements, in order (J15)
unfoldable pub pieces_of : List Spanned → List Listed → List Spanned
pieces_of ps [] = []
pieces_of ps (x ∷ xs) = own ps x ++ pieces_of ps xs

-- whether the first element is a comment; its pieces are joined by nothing, all others by a space (J6)
unfoldable pub is_tight : List Listed → Bool
is_tight [] = false
is_tight (x ∷ xs) = eqb x.kind (kind_num AComment)

abbrev pub glue_of : List Listed → List ℕ
glue_of xs = pick (is_tight xs) [] (32 ∷ [])

-- where the first piece starts with which the text outgrows cap bytes; 0 for no such piece (J17)
unfoldable pub over_at : List ℕ → List ℕ → ℕ → List ℕ → List Spanned → ℕ
over_at bytes glue cap acc [] = 0
over_at bytes glue cap acc (p ∷ ps) =
    let t = extend_by glue acc (bytes_of bytes p) in
    pick (leb (length t) cap) (over_at bytes glue cap t ps) p.start

-- a text in its buffer: it stands first, and what was behind it stays; without room, refusal 8 and the buffer as it was (J17)
pub record Filled : Type 0 where
  pub answer : Answer
  pub out : List ℕ

unfoldable pub filled_by : List ℕ → List ℕ → List ℕ → List Spanned → Filled
filled_by bytes out glue ps =
    let t = joined_from bytes glue [] ps in
    pick (leb (length t) (length out))
    (record { answer = record { number = 0; position = length bytes; count = length t }; out = t ++ drop (length t) out })
    (record { answer = record { number = 8; position = over_at bytes glue (length out) [] ps; count = 0 }; out = out })

-- the text of some elements, by the words of the pieces (J17)
abbrev pub filled_of : List ℕ → List ℕ → List ℕ → List Listed → Filled
filled_of bytes out words xs = filled_by bytes out (glue_of xs) (pieces_of (spanned (length words / piece_width) words) xs)

-- the answer, and every word and byte that is lent
pub record Joined : Type 0 where
  pub answer : Answer
  pub elements : List ℕ
  pub pieces : List ℕ
  pub out : List ℕ

abbrev pub joined_as : Outcome → Filled → Joined
joined_as v f = record { answer = f.answer; elements = v.elements; pieces = v.pieces; out = f.out }

-- the text of the elements that are handed back; what is refused before is refused as it was, and nothing is written (J17)
unfoldable pub joined_in : List ℕ → List ℕ → Outcome → Joined
joined_in bytes out v =
    pick (eqb v.answer.number 0) (joined_as v (filled_of bytes out v.pieces (elements_of v))) (joined_as v (record { answer = v.answer; out = out }))

-- the value of a key (J17)
abbrev pub join_of : List ℕ → List ℕ → ℕ → ℕ → List ℕ → Joined
join_of bytes key ne np out = joined_in bytes out (value_of bytes key ne np)

-- the element at a place alone, of whichever kind; none where there is none (J18)
unfoldable pub one_of : List ℕ → ℕ → ℕ → ℕ → Outcome
one_of bytes place ne np =
    let o = open_of bytes ne np in
    pick (eqb o.answer.number 0) (handed (length bytes) ne o (take 1 (drop place (elements_of o)))) o

abbrev pub text_of : List ℕ → ℕ → ℕ → ℕ → List ℕ → Joined
text_of bytes place ne np out = joined_in bytes out (one_of bytes place ne np)
