-- The events given and the parse's side by side, and what is known of an edition whose events are the parse's. Assumes nothing.
use Prim.Native.Nat.{ℕ, zero, suc, ◌+◌, ◌-◌, ◌*◌, ◌/◌, ◌≤◌, ◌<◌}
use mathlib.Core.Path.{◌≡◌, refl, sym, ap, ap₂, ◌∙◌}
use mathlib.Core.Bool.{Bool, true, false, false≢true}
use mathlib.Core.List.{List, [], ◌∷◌, ◌++◌}
use native.Mathlib.Omega.{arith}
use lib.ListN.{length, take, drop}
use lib.Seq.{drop-drop}
use Rattle.classes.specs.Choice.{both}
use Rattle.classes.proofs.ChoiceLaws.{true-left, true-right}
use Rattle.events.specs.Events.{width}
use Rattle.events.specs.Pack.{event_in, events_of, all_of, live_of, live_in}
use Rattle.events.specs.declared.Event.{Event}
use Rattle.events.proofs.PackLaws.{rest-start, rest-next, rest_end, events-length}
use Rattle.tops.specs.Places.{events_behind, places_from, places_of}
use Rattle.tops.proofs.PlaceLaws.{places-live, places-few}
use Rattle.editions.specs.Editions.{same_event, against_of}
use Rattle.editions.specs.View.{same_front}
use Rattle.editions.specs.declared.Fault.{Fault}
use Rattle.editions.proofs.AgainstLaws.{event-same, against-is, against-same}

-- ---- side by side
-- what is known of the first i events, and what is to come of the others
pub record Beside (given parsed : List ℕ) (i : ℕ) (alike : Bool) : Type 0 where
  pub few : i ≤ length parsed / width
  pub same : both alike (same_front (events_behind given i) (events_behind parsed i)) ≡ same_front (all_of given) (all_of parsed)

pub beside-start : (given parsed : List ℕ) → Beside given parsed 0 true
beside-start given parsed = record { few = omega arith; same = ap₂ same_front (rest-start given) (rest-start parsed) }

both-no : (b : Bool) → both b false ≡ false
both-no true = refl
both-no false = refl

module _ (given parsed : List ℕ) (l : length parsed ≤ length given) (i : ℕ) (alike : Bool) (s : Beside given parsed i alike) where
  module _ (h : i < length parsed / width) (x y : Event) (p : x ≡ event_in given (i * width)) (q : y ≡ event_in parsed (i * width)) where
    here : both alike (both (same_event x y) (same_front (events_behind given (i + 1)) (events_behind parsed (i + 1)))) ≡ same_front (all_of given) (all_of parsed)
    unfolding same_front
    here = ap₂ (λ (a b : List Event). both alike (same_front a b)) (sym (rest-next given i (omega (arith, h, l)) x p)) (sym (rest-next parsed i h y q)) ∙ s.same

    abbrev rest : Bool
    rest = same_front (events_behind given (i + 1)) (events_behind parsed (i + 1))

    pub beside_same : same_event x y ≡ true → (u : Bool) → u ≡ alike → Beside given parsed (i + 1) u
    beside_same e u f = record { few = omega (arith, h); same = ap (λ (b : Bool). both b rest) f ∙ ap (λ (b : Bool). both alike (both b rest)) (sym e) ∙ here }

    pub beside-differ : same_event x y ≡ false → (u : Bool) → u ≡ false → Beside given parsed (i + 1) u
    beside-differ e u f = record { few = omega (arith, h); same = ap (λ (b : Bool). both b rest) f ∙ sym (both-no alike) ∙ ap (λ (b : Bool). both alike (both b rest)) (sym e) ∙ here }

  pub beside-done : length parsed / width ≤ i → alike ≡ same_front (all_of given) (all_of parsed)
  unfolding same_front
  beside-done h = sym (both_yes alike) ∙ ap (λ (b : List Event). both alike (same_front (events_behind given i) b)) (sym (rest_end parsed i h)) ∙ s.same
    where
      both_yes : (b : Bool) → both b true ≡ b
      both_yes true = refl
      both_yes false = refl

-- a list that begins with another one
front-parts : (xs ys : List Event) → same_front xs ys ≡ true → xs ≡ ys ++ drop (length ys) xs
unfolding same_front
front-parts xs [] e = refl
front-parts [] (y ∷ ys) e = absurd (false≢true e)
front-parts (x ∷ xs) (y ∷ ys) e =
    ap₂ (λ (w : Event) (ws : List Event). w ∷ ws) (event-same x y (true-left (same_event x y) (same_front xs ys) e)) (front-parts xs ys (true-right (same_event x y) (same_front xs ys) e))

events-drop : (n k : ℕ) (ws : List ℕ) → drop n (events_of k ws) ≡ events_of (k - n) (drop (n * width) ws)
unfolding events_of
events-drop zero k ws =
    let e : k ≡ k - 0 = omega arith in
    ap (λ (m : ℕ). events_of m ws) e
events-drop (suc n) zero ws =
    let e : 0 ≡ 0 - suc n = omega arith in
    ap (λ (m : ℕ). events_of m (drop (suc n * width) ws)) e
events-drop (suc n) (suc k) ws =
    let e : k - n ≡ suc k - suc n = omega arith in
    let f : width + n * width ≡ suc n * width = omega arith in
    events-drop n k (drop width ws) ∙ ap₂ events_of e (drop-drop (n * width) width ws ∙ ap (λ (m : ℕ). drop m ws) f)

-- ---- what is wrong with the events given
module _ (given parsed : List ℕ) where
  abbrev count : ℕ
  count = length parsed / width

  pub against-all : (f : Fault) → f ≡ against_of 0 (events_behind given 0) (live_in parsed) → f ≡ against_of 0 (all_of given) (live_in parsed)
  against-all f e = e ∙ ap (λ (l : List Event). against_of 0 l (live_in parsed)) (rest-start given)

  none_left : live_in (take 0 parsed) ≡ []
  unfolding events_of live_of
  none_left = refl

  pub against-front : same_front (all_of given) (all_of parsed) ≡ true → (f : Fault) → f ≡ against_of count (events_behind given count) (live_in (take 0 parsed)) → f ≡ against_of 0 (all_of given) (live_in parsed)
  against-front s f e =
      let n = events-length count parsed in
      let k : count ≡ 0 + length (all_of parsed) = omega (arith, n) in
      let split = front-parts (all_of given) (all_of parsed) s ∙ ap (λ (l : List Event). all_of parsed ++ l) (ap (λ (m : ℕ). drop m (all_of given)) n ∙ events-drop count (length given / width) given) in
      e ∙ ap₂ (λ (m : ℕ) (l : List Event). against_of m (events_behind given count) l) k none_left ∙ sym (ap (λ (l : List Event). against_of 0 l (live_in parsed)) split ∙ against-same 0 (all_of parsed) (events_behind given count))

  module _ (z : (against_of 0 (all_of given) (live_in parsed)).number ≡ 0) where
    -- where nothing is wrong, the blocks are the parse's
    pub places-given : places_of (all_of given) ≡ places_of (all_of parsed)
    places-given = sym (places-live 0 (all_of given)) ∙ ap (places_from 0) (against-is 0 (all_of given) (live_in parsed) z) ∙ places-live 0 (all_of parsed)

    pub places-room : length (places_of (all_of given)) ≤ count
    places-room = omega (arith, ap (λ (l : List ℕ). length l) places-given, places-few 0 (all_of parsed), events-length count parsed)
