-- The top-level blocks of a text (RULES Z1), found in its events by what is open (DECISIONS 5.1). Assumes nothing.
use Rattle.std.specs.Prelude.{Bool, not, List, [], ◌∷◌, ℕ, zero, suc, ◌+◌, ◌-◌, eqb, length, get_or}
use Rattle.classes.specs.Choice.{pick, both, either}
use Rattle.trim.specs.Trim.{part_of}
use Rattle.events.specs.Names.{enter_role, exit_role, atom_role, document_node, section_node}
use Rattle.events.specs.declared.Event.{Event}

-- ---- what is open
-- the two nodes that may stand around a top-level block (E3)
unfoldable pub is_around : ℕ → Bool
is_around node = either (eqb node document_node) (eqb node section_node)

-- how many nodes other than Document and Sections are open after an event, n before it (Z1)
unfoldable pub open_of : ℕ → Event → ℕ
open_of n x =
    pick (is_around x.node) n
    (pick (eqb x.role enter_role) (n + 1)
    (pick (eqb x.role exit_role) (n - 1)
    n))

-- ---- where blocks begin
-- an Enter or an Atom begins a block where none but Document and Sections is open; these two are no blocks (Z1)
unfoldable pub begins_of : ℕ → Event → Bool
begins_of n x = both (eqb n 0) (either (eqb x.role atom_role) (both (eqb x.role enter_role) (not (is_around x.node))))

-- where the line starts that place p is in: behind the last newline before it, or at 0 (Z1)
unfoldable pub line_start : List ℕ → ℕ → ℕ
line_start text zero = 0
line_start text (suc p) = let r = line_start text p in pick (eqb (get_or text p 0) 10) (suc p) r

-- where the first lines of the blocks start that begin among these events, n nodes being open before them (Z1)
unfoldable pub starts_from : List ℕ → ℕ → List Event → List ℕ
starts_from text n [] = []
starts_from text n (x ∷ xs) =
    let rest = starts_from text (open_of n x) xs in
    pick (begins_of n x) (line_start text x.start ∷ rest) rest

-- of a whole text's events
abbrev pub starts_of : List ℕ → List Event → List ℕ
starts_of text xs = starts_from text 0 xs

-- ---- their bytes
-- the first of some places, or else p
abbrev pub first_or : ℕ → List ℕ → ℕ
first_or p [] = p
first_or p (s ∷ ss) = s

-- a block's bytes run from its first line to the next block's first line, the last one's to the end of the text (Z1)
unfoldable pub blocks_of : List ℕ → List ℕ → List (List ℕ)
blocks_of text [] = []
blocks_of text (s ∷ ss) = part_of text s (first_or (length text) ss) ∷ blocks_of text ss
