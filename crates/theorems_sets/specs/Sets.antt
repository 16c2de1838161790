-- What the theorems about sets speak of. Assumes nothing.
use Rattle.std.specs.Prelude.{List, [], ◌∷◌, ◌++◌, ℕ, zero, suc, ◌+◌, ◌≤◌, ◌<◌, ◌≡◌, eqb, get_or, drop}
use Rattle.classes.specs.Choice.{pick}
use Rattle.attrs.specs.Machine.{num, Start, Done, Invalid, step_of}
use Rattle.sets.specs.Given.{kind_num, AClass, AnId, APair, AComment, Given, Element, Piece, Told, halts}
use Rattle.sets.specs.Opened.{element_width}

-- how many sets `{..}` the reader goes through, from state s on (J4)
unfoldable pub sets_from : ℕ → List ℕ → ℕ
sets_from s [] = 0
sets_from s (b ∷ bs) =
    let t = step_of s b in
    let next = sets_from (num Start) bs in
    let rest = sets_from t bs in
    pick (eqb t (num Invalid)) 0 (pick (eqb t (num Done)) (suc (pick (halts t bs) 0 next)) rest)

abbrev pub sets_of : List ℕ → ℕ
sets_of set = sets_from (num Start) set

-- how many elements and pieces are given
unfoldable pub elements_in : List Told → ℕ
elements_in [] = 0
elements_in (t ∷ ts) = of_element t.what + elements_in ts
  where
    of_element : Given → ℕ
    of_element (Element k a e) = 1
    of_element (Piece a e) = 0

unfoldable pub pieces_in : List Told → ℕ
pieces_in [] = 0
pieces_in (t ∷ ts) = of_piece t.what + pieces_in ts
  where
    of_piece : Given → ℕ
    of_piece (Element k a e) = 0
    of_piece (Piece a e) = 1

-- the spans of all pieces that are given, as words; kind and key span of all elements; and the same of the first n elements that stand in words
unfoldable pub piece_words : List Told → List ℕ
piece_words [] = []
piece_words (t ∷ ts) = span t.what ++ piece_words ts
  where
    span : Given → List ℕ
    span (Element k a e) = []
    span (Piece a e) = a ∷ e ∷ []

unfoldable pub head_words : List Told → List ℕ
head_words [] = []
head_words (t ∷ ts) = head t.what ++ head_words ts
  where
    head : Given → List ℕ
    head (Element k a e) = kind_num k ∷ a ∷ e ∷ []
    head (Piece a e) = []

unfoldable pub heads_of : ℕ → List ℕ → List ℕ
heads_of zero ws = []
heads_of (suc n) ws = get_or ws 0 0 ∷ get_or ws 1 0 ∷ get_or ws 2 0 ∷ heads_of n (drop element_width ws)

-- one thing given at p, all before it ending at lo: a pair's key and a piece hold at least one byte, lie behind what was given before and before p; any other element
-- has an empty key at p (J11, J12)
abbrev pub Lies : ℕ → ℕ → Given → Type 0
Lies lo p (Element APair a e) = (lo ≤ a) × (a < e) × (e ≤ p)
Lies lo p (Element AClass a e) = (a ≡ p) × (e ≡ p) × (lo ≤ p)
Lies lo p (Element AnId a e) = (a ≡ p) × (e ≡ p) × (lo ≤ p)
Lies lo p (Element AComment a e) = (a ≡ p) × (e ≡ p) × (lo ≤ p)
Lies lo p (Piece a e) = (lo ≤ a) × (a < e) × (e ≤ p)

-- where what is given next may begin
abbrev pub after : ℕ → Given → ℕ
after lo (Element APair a e) = e
after lo (Element AClass a e) = lo
after lo (Element AnId a e) = lo
after lo (Element AComment a e) = lo
after lo (Piece a e) = e

-- all that is given lies in order, and at places before hi
unfoldable pub InOrder : ℕ → ℕ → List Told → Type 0
InOrder lo hi [] = Unit
InOrder lo hi (t ∷ ts) = Lies lo t.place t.what × (t.place < hi) × InOrder (after lo t.what) hi ts
