-- What the attribute machine gives as it reads: elements, the pieces of their values, and where bytes are no set (RULES J1 to J5, J10 to J12). Assumes nothing.
use Rattle.std.specs.Prelude.{Bool, not, List, [], ◌∷◌, ◌++◌, map, ℕ, ◌+◌, eqb, ltb, length, get_or}
use Rattle.classes.specs.Choice.{pick, both, either}
use Rattle.attrs.specs.Machine.{num, step_of}
use Rattle.attrs.specs.Machine.{Start, CommentFirst, Comment, CommentNewline, Class, Identifier, Key, Value, ValueQuoted, ValueEscape, ValueContinued, Done, Invalid}

-- an element's kind, and its number (J11)
pub data Kind : Type 0 where
  AClass AnId APair AComment : Kind

abbrev pub kind_num : Kind → ℕ
kind_num AClass = 1
kind_num AnId = 2
kind_num APair = 3
kind_num AComment = 4

-- an element begins: its kind, and its key's span, which ends where the element is known (a pair's; else it is empty); or one more piece of the last
-- element's value: its span (J11, J12)
pub data Given : Type 0 where
  Element : Kind → ℕ → ℕ → Given
  Piece : ℕ → ℕ → Given

-- the machine is still in the same part of an element: an escape is part of its value (also before a newline, where the value's part is then left without being given: J5, DECISIONS 1.3)
unfoldable pub stays : ℕ → ℕ → Bool
stays s t = either (eqb s t) (either (eqb s (num ValueEscape)) (eqb t (num ValueEscape)))

-- what the part in state s is, which began at a and ends at p; a quoted one begins with its `"`, and an empty piece is none
-- (of a run of newlines in a comment the first is the piece; one in a value is only where pieces part: J5, DECISIONS 1.2)
unfoldable pub left_by : ℕ → ℕ → ℕ → List Given
left_by s a p =
    pick (eqb s (num CommentFirst)) (Element AComment p p ∷ [])
    (pick (eqb s (num Comment)) (Piece a p ∷ [])
    (pick (eqb s (num CommentNewline)) (Piece a (a + 1) ∷ [])
    (pick (eqb s (num Class)) (Element AClass p p ∷ Piece a p ∷ [])
    (pick (eqb s (num Identifier)) (Element AnId p p ∷ Piece a p ∷ [])
    (pick (eqb s (num Key)) (Element APair a p ∷ [])
    (pick (eqb s (num Value)) (Piece a p ∷ [])
    (pick (eqb s (num ValueQuoted)) (pick (ltb (a + 1) p) (Piece (a + 1) p ∷ []) [])
    (pick (eqb s (num ValueContinued)) (Piece a p ∷ [])
    []))))))))

-- what the step from s to t at byte p gives, the part of s having begun at a; and where the part of t began
abbrev pub given_by : ℕ → ℕ → ℕ → ℕ → List Given
given_by s t a p = pick (stays s t) [] (left_by s a p)

abbrev pub begun_by : ℕ → ℕ → ℕ → ℕ → ℕ
begun_by s t a p = pick (stays s t) a p

-- a set is complete and no other follows it; else the next one starts (J4)
abbrev pub halts : ℕ → List ℕ → Bool
halts t bs = both (eqb t (num Done)) (not (eqb (get_or bs 0 0) 123))

abbrev pub onward : ℕ → ℕ
onward t = pick (eqb t (num Done)) (num Start) t

-- ---- the machine's run over the bytes from p on, in state s, whose part began at a
-- what it gives, each with the byte at which it is known (J10)
pub record Told : Type 0 where
  pub place : ℕ
  pub what : Given

abbrev pub told : ℕ → Given → Told
told p g = record { place = p; what = g }

unfoldable pub given_from : ℕ → ℕ → ℕ → List ℕ → List Told
given_from s a p [] = []
given_from s a p (b ∷ bs) =
    let t = step_of s b in
    let rest = given_from (onward t) (begun_by s t a p) (p + 1) bs in
    pick (eqb t (num Invalid)) [] (map (told p) (given_by s t a p) ++ pick (halts t bs) [] rest)

-- whether they are sets and nothing else, or where they are not (J10, DECISIONS 1.4)
pub data Verdict : Type 0 where
  Good : Verdict
  Bad : ℕ → Verdict

unfoldable pub verdict_from : ℕ → ℕ → List ℕ → Verdict
verdict_from s p [] = Bad p
verdict_from s p (b ∷ bs) =
    let t = step_of s b in
    let rest = verdict_from (onward t) (p + 1) bs in
    pick (eqb t (num Invalid)) (Bad p)
    (pick (halts t bs) (pick (eqb (length bs) 0) Good (Bad (p + 1)))
    rest)

abbrev pub given_of : List ℕ → List Told
given_of set = given_from (num Start) 0 0 set

abbrev pub verdict_of : List ℕ → Verdict
verdict_of set = verdict_from (num Start) 0 set
