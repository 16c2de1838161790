-- What may come next in a stream, and what is open after it (RULES N5 to N9; DECISIONS B19, B23). Assumes nothing.
use Rattle.std.specs.Prelude.{Bool, false, not, List, [], ◌∷◌, ℕ, eqb, leb, ltb, length, drop}
use Rattle.classes.specs.Choice.{pick, both}
use Rattle.events.specs.Names.{stale_role, enter_role, exit_role, document_node, largest, most}
use Rattle.events.specs.declared.Event.{Event}
use Rattle.fields.specs.Fields.{is_listed, is_ranged}

-- the Enters that are open, the innermost first, and whether Document has closed (N8)
pub record Nesting : Type 0 where
  pub opn : List Event
  pub done : Bool

abbrev pub nesting : List Event → Bool → Nesting
nesting os d = record { opn = os; done = d }

-- before the first event
abbrev pub outside : Nesting
outside = nesting [] false

unfoldable pub same_body : Event → Event → Bool
same_body x y = both (eqb x.node y.node) (both (eqb x.a y.a) (both (eqb x.b y.b) (both (eqb x.c y.c) (eqb x.d y.d))))

-- an Exit has its Enter's node and body (E9, N8)
unfoldable pub closes : List Event → Event → Bool
closes [] x = false
closes (o ∷ os) x = same_body o x

-- one Document from Enter to Exit, with no other inside; all else inside it (N8, N9)
unfoldable pub is_nested : Nesting → Event → Bool
is_nested n x =
    let inside = not (eqb (length n.opn) 0) in
    both (not n.done)
    (pick (eqb x.role enter_role) (both (ltb (length n.opn) most) (pick (eqb x.node document_node) (not inside) inside))
    (pick (eqb x.role exit_role) (closes n.opn x)
    inside))

-- an Enter is open from here on; an Exit closes the innermost, and the last one Document (N8)
unfoldable pub after_of : Nesting → Event → Nesting
after_of n x =
    pick (eqb x.role enter_role) (nesting (x ∷ n.opn) n.done)
    (pick (eqb x.role exit_role) (nesting (drop 1 n.opn) (leb (length n.opn) 1))
    n)

-- what is wrong with an event that is not Stale: 10, 11, 12, or nothing; role and node 0 with another word is 11 (N5 to N8)
unfoldable pub fault_of : Nesting → Event → ℕ
fault_of n x =
    pick (both (eqb x.role stale_role) (eqb x.node 0)) 11
    (pick (not (is_listed x.role x.node)) 10
    (pick (not (is_ranged largest x)) 11
    (pick (not (is_nested n x)) 12
    0)))
