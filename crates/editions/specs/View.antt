-- What the code's words stand for: events side by side, words that are zeroed, places of blocks in them. Assumes nothing.
use Rattle.std.specs.Prelude.{◌≡◌, Bool, true, false, List, [], ◌∷◌, ◌++◌, ℕ, ◌+◌, ◌-◌, ◌*◌, ◌/◌, ◌≤◌, min, eqb, leb, length, drop, replicate}
use Rattle.classes.specs.Choice.{pick, both}
use Rattle.events.specs.Events.{width}
use Rattle.events.specs.Pack.{all_of, live_in}
use Rattle.events.specs.declared.Event.{Event}
use Rattle.walk.specs.declared.Limits.{Limits}
use Rattle.tops.specs.Places.{places_of, put_in, starts_at}
use Rattle.editions.specs.Editions.{fault, same_event, against_of, fault_of, front_run, back_run}
use Rattle.editions.specs.declared.Rechecked.{Rechecked}

-- ---- an edition's events beside its parse's
-- the first list begins with the second
unfoldable pub same_front : List Event → List Event → Bool
same_front xs [] = true
same_front [] (y ∷ ys) = false
same_front (x ∷ xs) (y ∷ ys) = both (same_event x y) (same_front xs ys)

-- what is wrong with the events given; where the parse's blocks begin stands in the line words
pub record Held (given parsed before : List ℕ) (r : Rechecked) (lines : List ℕ) : Type 0 where
  pub answer : fault r.number r.position ≡ against_of 0 (all_of given) (live_in parsed)
  pub count : r.count ≡ length parsed / width
  pub blocks : r.blocks ≡ length (places_of (all_of parsed))
  pub places : lines ≡ put_in 0 (places_of (all_of parsed)) before

-- ---- zeros
-- in the first n words
abbrev pub zeroed_of : ℕ → List ℕ → List ℕ
zeroed_of n words = replicate (min n (length words)) 0 ++ drop n words

-- how many words so many events take, with what is less than one event behind them; zeros in their place
abbrev pub used_by : ℕ → List ℕ → ℕ
used_by count words = pick (leb (length words / width) count) (length words) ((count + 1) * width)

abbrev pub wiped_of : ℕ → List ℕ → List ℕ
wiped_of count words = replicate (used_by count words) 0 ++ drop (used_by count words) words

-- ---- an edition parsed again, in l line words and e event words
pub record Rechecks (limit : ℕ) (lim : Limits) (text given : List ℕ) (l e : ℕ) (r : Rechecked) (lines events : List ℕ) : Type 0 where
  pub answer : fault r.number r.position ≡ fault_of limit lim l e text given
  -- places of blocks and then zeros, events and then zeros
  pub lines-zeroed : zeroed_of r.blocks lines ≡ replicate l 0
  pub events-wiped : wiped_of r.count events ≡ replicate e 0
  -- of events that are the parse's: no more blocks than there is room for events, and where each begins is noted
  pub room : r.number ≡ 0 → length (places_of (all_of given)) ≤ e / width
  pub blocks : r.number ≡ 0 → r.blocks ≡ length (places_of (all_of given))
  pub places : r.number ≡ 0 → lines ≡ put_in 0 (places_of (all_of given)) (replicate l 0)

-- both editions' events are their parses', and the event words are free again
pub record Settled (og ng : List ℕ) (b : Rechecked) (lines events : List ℕ) : Type 0 where
  pub free : events ≡ replicate (length events) 0
  pub older-room : length (places_of (all_of og)) ≤ length events / width
  pub newer-room : length (places_of (all_of ng)) ≤ length events / width
  pub blocks : b.blocks ≡ length (places_of (all_of ng))
  pub places : lines ≡ put_in 0 (places_of (all_of ng)) (replicate (length lines) 0)

-- ---- the runs of texts whose blocks begin at these places
abbrev pub front_at : List ℕ → List ℕ → List ℕ → List ℕ → ℕ
front_at older os newer ns = front_run older newer (starts_at older os) (starts_at newer ns)

abbrev pub back_at : List ℕ → List ℕ → List ℕ → List ℕ → ℕ
back_at older os newer ns = back_run older newer (starts_at older os) (starts_at newer ns)

-- how many pairs may be equal at the back, o and n blocks being left
abbrev pub left_of : ℕ → ℕ → ℕ
left_of o n = pick (eqb o n) (o - 1) (min o n)
