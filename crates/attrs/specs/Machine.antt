-- The attribute machine: its states, the byte classes, one step by cases, and what `valid` answers (RULES Q; DIFFERENCES A7 to A9). Assumes nothing.
use Rattle.std.specs.Prelude.{Bool, not, List, [], ◌∷◌, ℕ, ◌+◌, eqb, get_or}
use Rattle.classes.specs.Choice.{pick, either}
use Rattle.classes.specs.Classes.{is_space, is_name}

-- the states (Q2)
pub data State : Type 0 where
  Start Whitespace CommentFirst Comment CommentNewline ClassFirst Class IdentifierFirst Identifier Key ValueFirst Value ValueQuoted ValueEscape ValueNewline ValueContinued Done Invalid : State

-- the classes' numbers (Q1)
abbrev pub lbrace : ℕ
lbrace = 0

abbrev pub rbrace : ℕ
rbrace = 1

abbrev pub dot : ℕ
dot = 2

abbrev pub hash : ℕ
hash = 3

abbrev pub percent : ℕ
percent = 4

abbrev pub equals : ℕ
equals = 5

abbrev pub quote : ℕ
quote = 6

abbrev pub backslash : ℕ
backslash = 7

abbrev pub newline : ℕ
newline = 8

abbrev pub space : ℕ
space = 9

abbrev pub name : ℕ
name = 10

abbrev pub other : ℕ
other = 11

-- the class of a byte that is no name byte (Q1)
unfoldable pub sign_class : ℕ → ℕ
sign_class b =
    pick (eqb b 123) lbrace
    (pick (eqb b 125) rbrace
    (pick (eqb b 46) dot
    (pick (eqb b 35) hash
    (pick (eqb b 37) percent
    (pick (eqb b 61) equals
    (pick (eqb b 34) quote
    (pick (eqb b 92) backslash
    (pick (eqb b 10) newline
    (pick (is_space b) space
    other)))))))))

-- a byte's class (Q1)
unfoldable pub class_of : ℕ → ℕ
class_of b = pick (is_name b) name (sign_class b)

-- t where the class is k, else u
abbrev pub on : ℕ → ℕ → State → State → State
on c k t u = pick (eqb c k) t u

-- a class, an identifier or a bare value goes on, or ends (Q2)
abbrev pub word : State → ℕ → State
word s c = on c name s (on c newline Whitespace (on c space Whitespace (on c rbrace Done Invalid)))

-- a comment goes on, or ends, also at `}` (Q2, Q4; A7)
abbrev pub remark : ℕ → State
remark c = on c percent Whitespace (on c rbrace Done (on c newline CommentNewline Comment))

-- a quoted value after a newline: no escape, whitespace is text (Q2, Q5; A8, A9)
abbrev pub later : ℕ → State
later c = on c quote Whitespace (on c newline ValueNewline ValueContinued)

-- one step (Q2, Q6)
abbrev pub steps : State → ℕ → State
steps Start c = on c lbrace Whitespace Invalid
steps Whitespace c =
    on c rbrace Done
    (on c dot ClassFirst
    (on c hash IdentifierFirst
    (on c percent CommentFirst
    (on c name Key
    (on c newline Whitespace
    (on c space Whitespace
    Invalid))))))
steps CommentFirst c = remark c
steps Comment c = remark c
steps CommentNewline c = remark c
steps ClassFirst c = on c name Class Invalid
steps Class c = word Class c
steps IdentifierFirst c = on c name Identifier Invalid
steps Identifier c = word Identifier c
steps Key c = on c name Key (on c equals ValueFirst Invalid)
steps ValueFirst c = on c name Value (on c quote ValueQuoted Invalid)
steps Value c = word Value c
steps ValueQuoted c = on c quote Whitespace (on c newline ValueNewline (on c backslash ValueEscape ValueQuoted))
steps ValueEscape c = on c newline ValueNewline ValueQuoted
steps ValueNewline c = later c
steps ValueContinued c = later c
steps Done c = Invalid
steps Invalid c = Invalid

-- the states' numbers, in the order above (Q2)
abbrev pub num : State → ℕ
num Start = 0
num Whitespace = 1
num CommentFirst = 2
num Comment = 3
num CommentNewline = 4
num ClassFirst = 5
num Class = 6
num IdentifierFirst = 7
num Identifier = 8
num Key = 9
num ValueFirst = 10
num Value = 11
num ValueQuoted = 12
num ValueEscape = 13
num ValueNewline = 14
num ValueContinued = 15
num Done = 16
num Invalid = 17

abbrev pub states : List State
states =
    Start ∷ Whitespace ∷ CommentFirst ∷ Comment ∷ CommentNewline ∷ ClassFirst ∷ Class ∷ IdentifierFirst ∷ Identifier ∷
    Key ∷ ValueFirst ∷ Value ∷ ValueQuoted ∷ ValueEscape ∷ ValueNewline ∷ ValueContinued ∷ Done ∷ Invalid ∷ []

-- the number of the state after the state of number s, by a byte of class c; a number that is no state's is Invalid (Q2)
unfoldable pub next_of : ℕ → ℕ → ℕ
next_of s c = num (steps (get_or states s Invalid) c)

-- by a byte (Q1, Q2)
unfoldable pub step_of : ℕ → ℕ → ℕ
step_of s b = next_of s (class_of b)

-- a name goes on in Class, Identifier, Key and Value (Q2)
unfoldable pub takes_names : ℕ → Bool
takes_names s = either (eqb s 6) (either (eqb s 8) (either (eqb s 9) (eqb s 11)))

-- a byte that goes on in ValueQuoted: no quote, backslash or newline (Q2)
unfoldable pub is_quoted : ℕ → Bool
is_quoted b = not (either (eqb b 34) (either (eqb b 92) (eqb b 10)))

-- what is answered in state s, n bytes taken, with the rest to come: the bytes through the first Done (Q3)
unfoldable pub valid_from : ℕ → ℕ → List ℕ → ℕ
valid_from s n [] = 0
valid_from s n (b ∷ bs) =
    let t = step_of s b in
    let r = valid_from t (n + 1) bs in
    pick (eqb t 16) (n + 1) (pick (eqb t 17) 0 r)

-- from Start (Q3)
unfoldable pub valid_of : List ℕ → ℕ
valid_of src = valid_from 0 0 src
