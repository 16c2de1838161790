-- Events that nest: what may stand between an Enter and its Exit, and the events that are open. Assumes nothing.
use mathlib.Core.Path.{◌≡◌}
use mathlib.Core.Logic.{◌⊎◌}
use mathlib.Core.Bool.{true, false}
use mathlib.Core.List.{List, [], ◌∷◌, ◌++◌}
use Prim.Native.Nat.{ℕ, ◌+◌, ◌*◌, ◌≤◌, ◌<◌}
use lib.ListN.{length}
use Rattle.classes.specs.Choice.{pick}
use Rattle.events.specs.State.{State}
use Rattle.events.specs.Events.{width}
use Rattle.events.specs.Pack.{is_stale, pack_of}
use Rattle.events.specs.declared.Event.{Event}
use Rattle.fields.specs.Fields.{is_listed, is_ranged}
use Rattle.events.specs.Names.{most}
use Rattle.nests.specs.Nesting.{Nesting, is_nested, after_of}

-- ---- what nests
-- after an event, after these events: Stale counts for nothing
unfoldable pub on_of : Nesting → Event → Nesting
on_of n x = pick (is_stale x) n (after_of n x)

unfoldable pub after_all : Nesting → List Event → Nesting
after_all n [] = n
after_all n (x ∷ xs) = after_all (on_of n x) xs

-- each may come next, and no more than `top` are open
abbrev pub Nests : ℕ → Nesting → List Event → Type 0
Nests top n [] = Unit {0}
Nests top n (x ∷ xs) = (is_stale x ≡ false → (is_nested n x ≡ true) × (length (after_of n x).opn ≤ top)) × Nests top (on_of n x) xs

-- whatever is open around them: they nest, h deep at most, and leave open what was
abbrev pub Whole : ℕ → List Event → Type 0
Whole h xs = (top : ℕ) (n : Nesting) → n.done ≡ false → 0 < length n.opn → length n.opn + h ≤ top → top ≤ most → Nests top n xs × (after_all n xs ≡ n)

-- every event has this role
abbrev pub Roles : ℕ → List Event → Type 0
Roles r [] = Unit {0}
Roles r (x ∷ xs) = (x.role ≡ r) × Roles r xs

-- an offset of the text, or a word
abbrev pub Word : List ℕ → ℕ → Type 0
Word text v = (v ≤ length text) ⊎ (v < 4294967296)

-- Stale, or what a record can hold where the text's end is the largest offset; a list's value has no range, so c and d are said to be words
abbrev pub Fine : List ℕ → Event → Type 0
Fine text x = is_stale x ≡ false → (is_listed x.role x.node ≡ true) × (is_ranged (length text) x ≡ true) × Word text x.c × Word text x.d

abbrev pub Fines : List ℕ → List Event → Type 0
Fines text [] = Unit {0}
Fines text (x ∷ xs) = Fine text x × Fines text xs

-- ---- what is open
-- an Enter that is open, and the events between it and the one around it
pub record Frame : Type 0 where
  pub before : List Event
  pub enter : Event

-- all events up to the innermost that is open; the innermost first
unfoldable pub flat : List Frame → List Event
flat [] = []
flat (f ∷ fs) = flat fs ++ (f.before ++ (f.enter ∷ []))

-- the words at which they start
unfoldable pub places : List Frame → List ℕ
places [] = []
places (f ∷ fs) = places fs ++ (width * length (flat fs ++ f.before) ∷ [])

-- the state's events are those of the frames and, behind the innermost that is open, g
pub record Holds (fs : List Frame) (g : List Event) (s : State) : Type 0 where
  pub evs : s.evs ≡ pack_of (flat fs ++ g)
  pub opn : s.opn ≡ places fs
