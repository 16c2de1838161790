-- Events written, edited and dropped, and the stack of open events (RULES E1, E9, E11, R11, R12). Assumes nothing.
use Rattle.std.specs.Prelude.{ℕ, ◌+◌, ◌-◌, Bool, List, [], ◌∷◌, ◌++◌, eqb, leb, length, take, get_or, set}
use Rattle.std.proofs.lemmas.List.Edits.{sets}
use Rattle.classes.specs.Choice.{pick, both}
use Rattle.events.specs.Names.{enter_role, exit_role, node_word, body_word, body_word_b, body_word_c, body_word_d, most}
use Rattle.events.specs.State.{State, with_evs, with_opn, refuse_of, go}
use Rattle.events.specs.declared.Event.{Event}
use Rattle.events.specs.declared.Node.{Node}

-- the words of an event, named once: role, node, start, end, four of body (E1)
abbrev pub width : ℕ
width = 8

abbrev pub words_of : Event → List ℕ
words_of x = x.role ∷ x.node ∷ x.start ∷ x.end ∷ x.a ∷ x.b ∷ x.c ∷ x.d ∷ []

-- one event more, where the words lent have room: refusal 6 (R11)
unfoldable pub push_of : Event → State → State
push_of x s = pick (leb (length s.evs + width) s.cap) (with_evs (s.evs ++ words_of x) s) (refuse_of 6 s)

-- word i of the events so far set to v
unfoldable pub patch_of : ℕ → ℕ → State → State
patch_of i v s = with_evs (set s.evs i v) s

-- the event at word i becomes x
unfoldable pub edit_of : ℕ → Event → State → State
edit_of i x s = with_evs (sets s.evs i (words_of x)) s

-- only the first n words are kept
unfoldable pub cut_of : ℕ → State → State
cut_of n s = with_evs (take n s.evs) s

-- an Enter's role (E2)
abbrev pub enter_event : Node → Event
enter_event x = record { role = enter_role; node = x.node; start = x.start; end = x.end; a = x.a; b = x.b; c = x.c; d = x.d }

-- the Exit of the event at word o: its Enter's node and body (E9)
abbrev pub exit_event : List ℕ → ℕ → ℕ → ℕ → Event
exit_event evs o i j = record {
  role = exit_role;
  node = get_or evs (o + node_word) 0;
  start = i;
  end = j;
  a = get_or evs (o + body_word) 0;
  b = get_or evs (o + body_word_b) 0;
  c = get_or evs (o + body_word_c) 0;
  d = get_or evs (o + body_word_d) 0;
}

-- an Enter, open from here on, if there is room for one more (R12)
unfoldable pub enter_of : Node → State → State
enter_of x s =
    pick (leb most (length s.opn)) (refuse_of 7 s)
    (go (push_of (enter_event x) s) (with_opn (s.opn ++ (length s.evs ∷ []))))

-- a whole event stands at word o
abbrev pub whole_at : List ℕ → ℕ → Bool
whole_at evs o = leb (o + width) (length evs)

-- the Exit of the open event at word o, which must be an Enter (E9, R12)
unfoldable pub close_of : ℕ → ℕ → ℕ → State → State
close_of i j o s =
    pick (both (whole_at s.evs o) (eqb (get_or s.evs o 0) enter_role))
    (go (push_of (exit_event s.evs o i j) s) (with_opn (take (length s.opn - 1) s.opn)))
    (refuse_of 7 s)

-- the Exit of the innermost open event (E11)
unfoldable pub exit_of : ℕ → ℕ → State → State
exit_of i j s = pick (eqb (length s.opn) 0) (refuse_of 7 s) (close_of i j (get_or s.opn (length s.opn - 1) 0) s)
