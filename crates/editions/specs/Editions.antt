-- What changed between two editions of a text, in whole top-level blocks (RULES Z; DECISIONS 5.1 to 5.4). Assumes nothing.
use Rattle.std.specs.Prelude.{Bool, not, List, [], ◌∷◌, ◌++◌, reverse, ℕ, ◌+◌, ◌-◌, ◌*◌, eqb, length, take, drop, replicate}
use Rattle.classes.specs.Choice.{pick, both}
use Rattle.equals.specs.Same.{same}
use Rattle.trim.specs.Trim.{part_of}
use Rattle.events.specs.Events.{width}
use Rattle.events.specs.Pack.{is_stale, all_of, live_in}
use Rattle.events.specs.declared.Event.{Event}
use Rattle.walk.specs.declared.Limits.{Limits}
use Rattle.parse.specs.Parse.{Outcome, parse_of}
use Rattle.tops.specs.Tops.{starts_of, first_or, blocks_of}
use Rattle.editions.specs.declared.Which.{Which}
use Rattle.editions.specs.declared.Which.TheVariants.{Older, Newer}
use Rattle.editions.specs.declared.Fault.{Fault}
use Rattle.editions.specs.declared.Change.{Change}

-- ---- an edition's events must be its parse's (Z5)
abbrev pub fault : ℕ → ℕ → Fault
fault n p = record { number = n; position = p }

-- the refusal of events that are not the text's, at the index of an event (Z5)
abbrev pub stray : ℕ → Fault
stray i = fault 15 i

-- all eight words (E1, Z5)
unfoldable pub same_event : Event → Event → Bool
same_event x y =
    both (eqb x.role y.role) (both (eqb x.node y.node) (both (eqb x.start y.start) (both (eqb x.end y.end)
    (both (eqb x.a y.a) (both (eqb x.b y.b) (both (eqb x.c y.c) (eqb x.d y.d)))))))

-- the events given, from index i on, beside those still to come: a Stale one counts for nothing, any other must be the next (Z5)
unfoldable pub against_of : ℕ → List Event → List Event → Fault
against_of i [] [] = fault 0 0
against_of i [] (y ∷ ys) = stray i
against_of i (x ∷ xs) [] = let rest = against_of (i + 1) xs [] in pick (is_stale x) rest (stray i)
against_of i (x ∷ xs) (y ∷ ys) =
    let skip = against_of (i + 1) xs (y ∷ ys) in
    let next = against_of (i + 1) xs ys in
    pick (is_stale x) skip (pick (same_event x y) next (stray i))

-- a text parsed again, in so many line words and event words (Z8)
abbrev pub again_of : ℕ → Limits → ℕ → ℕ → List ℕ → Outcome
again_of limit lim l e text = parse_of limit lim text (replicate l 0) (replicate e 0)

-- what is wrong with an edition: what its parse refuses, or else the first event given that is not the parse's next one (Z5, Z6)
abbrev pub verdict_of : List ℕ → Outcome → Fault
verdict_of given p =
    pick (eqb p.answer.number 0)
    (against_of 0 (all_of given) (live_in (take (width * p.answer.count) p.events)))
    (fault p.answer.number p.answer.position)

unfoldable pub fault_of : ℕ → Limits → ℕ → ℕ → List ℕ → List ℕ → Fault
fault_of limit lim l e text given = verdict_of given (again_of limit lim l e text)

-- ---- equal runs of blocks
-- how many blocks at the front are equal (Z2, Z3)
unfoldable pub front_of : List (List ℕ) → List (List ℕ) → ℕ
front_of [] ys = 0
front_of (x ∷ xs) [] = 0
front_of (x ∷ xs) (y ∷ ys) = let rest = front_of xs ys in pick (same x y) (1 + rest) 0

-- how many at the back (Z3)
unfoldable pub back_of : List (List ℕ) → List (List ℕ) → ℕ
back_of xs ys = front_of (reverse xs) (reverse ys)

-- ---- the part that changed (Z4, Z7)
abbrev pub refused_in : Which → Fault → Change
refused_in w f = record { number = f.number; position = f.position; which = w; start = 0; end = 0 }

abbrev pub part_in : Which → ℕ → ℕ → Change
part_in w s e = record { number = 0; position = 0; which = w; start = s; end = e }

-- the place in a text, whose blocks start at ss, behind k of them
abbrev pub place_behind : List ℕ → List ℕ → ℕ → ℕ
place_behind text ss k = first_or (length text) (drop k ss)

module _ (older newer : List ℕ) (os ns : List ℕ) where
  -- how many blocks are equal in front, and at the back of what is left (Z3)
  unfoldable pub front_run : ℕ
  front_run = front_of (blocks_of older os) (blocks_of newer ns)

  unfoldable pub back_run : ℕ
  back_run = back_of (drop front_run (blocks_of older os)) (drop front_run (blocks_of newer ns))

  -- how many blocks of an edition, whose blocks start at ss, stand between the two runs (Z4)
  abbrev pub between_of : List ℕ → ℕ
  between_of ss = length ss - front_run - back_run

  abbrev pub between : Which → List ℕ → List ℕ → Change
  between w text ss = part_in w (place_behind text ss front_run) (place_behind text ss (length ss - back_run))

  -- what is new; where nothing is but something was taken out, that (Z4)
  unfoldable pub changed_of : Change
  changed_of = pick (both (eqb (between_of ns) 0) (not (eqb (between_of os) 0))) (between Older older os) (between Newer newer ns)

-- ---- the whole answer: refusals of the older text first (Z6, Z7)
unfoldable pub change_of : ℕ → Limits → ℕ → ℕ → List ℕ → List ℕ → List ℕ → List ℕ → Change
change_of limit lim l e older og newer ng =
    let a = fault_of limit lim l e older og in
    let b = fault_of limit lim l e newer ng in
    pick (not (eqb a.number 0)) (refused_in Older a)
    (pick (not (eqb b.number 0)) (refused_in Newer b)
    (changed_of older newer (starts_of older (all_of og)) (starts_of newer (all_of ng))))

-- ---- the part as bytes
-- where the part is one of the older text, and nothing else; and of the newer (Z4)
abbrev pub if_older : Which → List ℕ → List ℕ
if_older Older bytes = bytes
if_older Newer bytes = []

abbrev pub if_newer : Which → List ℕ → List ℕ
if_newer Older bytes = []
if_newer Newer bytes = bytes

unfoldable pub older_part : List ℕ → Change → List ℕ
older_part older c = if_older c.which (part_of older c.start c.end)

unfoldable pub newer_part : List ℕ → Change → List ℕ
newer_part newer c = if_newer c.which (part_of newer c.start c.end)

-- of the one or the other (Z4)
unfoldable pub changed_part : List ℕ → List ℕ → Change → List ℕ
changed_part older newer c = older_part older c ++ newer_part newer c
