-- What the open events stand for, where `get` gives the event at a place of words or bytes. Assumes nothing.
use Rattle.std.specs.Prelude.{Bool, true, ◌≡◌, List, [], ◌∷◌, ℕ, zero, suc, ◌<◌, get_or, Option, Some, None}
use Rattle.events.specs.Names.{enter_role, exit_role, most}
use Rattle.events.specs.declared.Event.{Event}
use Rattle.fields.specs.Fields.{is_listed}
use Rattle.nests.specs.Nesting.{Nesting, nesting}
use Rattle.nests.specs.declared.Nest.{Nest}

unfoldable pub open_by : (ℕ → Event) → List ℕ → ℕ → List Event
open_by get room zero = []
open_by get room (suc d) = get (get_or room d 0) ∷ open_by get room d

unfoldable pub nest_by : (ℕ → Event) → Nest → Nesting
nest_by get n = nesting (open_by get n.room n.depth) n.done

-- the innermost of the open events, if there is one
abbrev pub innermost_of : List Event → Option Event
innermost_of [] = None
innermost_of (o ∷ os) = Some o

-- every open place passes a test
abbrev pub Held : (ℕ → Bool) → List ℕ → ℕ → Type 0
Held fit room depth = (k : ℕ) → k < depth → fit (get_or room k 0) ≡ true

-- there is room for an Enter, and an Exit has something to close
abbrev pub Admits : Nest → Event → Type 0
Admits n x = (is_listed x.role x.node ≡ true) × (x.role ≡ enter_role → n.depth < most) × (x.role ≡ exit_role → 0 < n.depth)
