-- When an item goes on a list (RULES L3 to L8; DIFFERENCES A13). Assumes nothing.
use Rattle.std.specs.Prelude.{Bool, ℕ, ◌+◌, eqb, Option, Some, None}
use Rattle.classes.specs.Choice.{pick, both}
use Rattle.numbers.specs.Numbers.{num_of}
use Rattle.numbers.specs.declared.Numbering.{Numbering}
use Rattle.numbers.specs.declared.Numbering.TheVariants.{Decimal, AlphaLower, AlphaUpper, RomanLower, RomanUpper}
use Rattle.markers.specs.Markers.{style_num}
use Rattle.markers.specs.declared.Style.{Style}
use Rattle.markers.specs.declared.Marker.{Marker}
use Rattle.markers.specs.declared.Marker.TheVariants.{Nothing, Unordered, Ordered, Task, Description}
use Rattle.markers.specs.declared.Number.{Number}
use Rattle.markers.specs.declared.Continued.{Continued}

abbrev pub number : Numbering → ℕ → Number
number k v = record { numbering = k; value = v }

-- a list goes on, with both markers as they are then read
abbrev pub yes : Marker → Marker → Option Continued
yes p n = Some (record { prev = p; next = n })

-- the place in the alphabet of i, v, x, l, c, d, m by their roman value, 0: no letter has it (L5)
unfoldable pub letter_rank : ℕ → ℕ
letter_rank v =
    pick (eqb v 1) 9
    (pick (eqb v 5) 22
    (pick (eqb v 10) 24
    (pick (eqb v 50) 12
    (pick (eqb v 100) 3
    (pick (eqb v 500) 4
    (pick (eqb v 1000) 13
    0))))))

unfoldable pub also_of : Numbering → ℕ → Option Number
also_of k v = pick (eqb (letter_rank v) 0) None (Some (number k (letter_rank v)))

-- a roman number whose value a single letter has can be read as that letter, in its case (L5)
unfoldable pub ambiguity_of : Numbering → ℕ → Option Number
ambiguity_of Decimal v = None
ambiguity_of AlphaLower v = None
ambiguity_of AlphaUpper v = None
ambiguity_of RomanLower v = also_of AlphaLower v
ambiguity_of RomanUpper v = also_of AlphaUpper v

-- numbering and style agree (L4)
abbrev pub same_numbering : Numbering → Numbering → Bool
same_numbering n m = eqb (num_of n) (num_of m)

abbrev pub same_style : Style → Style → Bool
same_style s t = eqb (style_num s) (style_num t)

-- one more (L6, L7)
abbrev pub follows_of : ℕ → ℕ → Bool
follows_of v w = eqb (v + 1) w

-- of one style: the numberings agree, and the new number is the old one plus one (L6, L7)
abbrev pub one_more : Numbering → ℕ → Style → Numbering → ℕ → Option Continued
one_more n v s m w = pick (both (same_numbering n m) (follows_of v w)) (yes (Ordered n s v) (Ordered m s w)) None

-- the new number as a letter is the old one plus one (L7)
unfoldable pub by_next : Numbering → ℕ → Style → Numbering → ℕ → Option Number → Option Continued
by_next n v s m w None = None
by_next n v s m w (Some a) = one_more n v s a.numbering a.value

-- the old number as a letter, plus one, is the new one; only where it has no letter is the new one read as its letter (L6, L7)
unfoldable pub by_letters : Numbering → ℕ → Style → Numbering → ℕ → Option Number → Option Continued
by_letters n v s m w None = by_next n v s m w (ambiguity_of m w)
by_letters n v s m w (Some a) = one_more a.numbering a.value s m w

-- style and numbering agree, whatever the values; or the style does, and a roman is read as its letter (L4 to L7)
unfoldable pub ordered_on : Numbering → Style → ℕ → Marker → Option Continued
ordered_on n s v Nothing = None
ordered_on n s v (Unordered b) = None
ordered_on n s v (Ordered m t w) =
    pick (same_style s t) (pick (same_numbering n m) (yes (Ordered n s v) (Ordered m t w)) (by_letters n v s m w (ambiguity_of n v))) None
ordered_on n s v (Task b) = None
ordered_on n s v Description = None

-- the bullets agree (L3)
unfoldable pub unordered_on : ℕ → Marker → Option Continued
unordered_on c Nothing = None
unordered_on c (Unordered b) = pick (eqb c b) (yes (Unordered c) (Unordered b)) None
unordered_on c (Ordered m t w) = None
unordered_on c (Task b) = None
unordered_on c Description = None

-- of tasks as well (L3)
unfoldable pub task_on : ℕ → Marker → Option Continued
task_on c Nothing = None
task_on c (Unordered b) = None
task_on c (Ordered m t w) = None
task_on c (Task b) = pick (eqb c b) (yes (Task c) (Task b)) None
task_on c Description = None

-- a description after a description (L3)
unfoldable pub description_on : Marker → Option Continued
description_on Nothing = None
description_on (Unordered b) = None
description_on (Ordered m t w) = None
description_on (Task b) = None
description_on Description = yes Description Description

-- an item `next` goes on a list whose last item is `prev`: yes, with both as they are then read, or no (L3 to L8)
unfoldable pub continues_of : Marker → Marker → Option Continued
continues_of Nothing next = None
continues_of (Unordered c) next = unordered_on c next
continues_of (Ordered n s v) next = ordered_on n s v next
continues_of (Task c) next = task_on c next
continues_of Description next = description_on next
