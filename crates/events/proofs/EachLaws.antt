-- A turn of a loop over the events of words, and its end. Assumes nothing.
use Rattle.std.proofs.Common.{◌≡◌, ℕ, ◌+◌, ◌*◌, ◌/◌, ◌<◌, ◌≤◌, List, length, Some, None, sym, ap, ◌∙◌, subst}
use Rattle.events.specs.Events.{width}
use Rattle.events.specs.Pack.{event_in}
use Rattle.events.specs.Each.{each_gives}
use Rattle.events.specs.declared.Event.{Event}
use Rattle.events.specs.declared.each.Each.{Each}

-- the event x of index i came, and the next is asked for after it
pub record Came (words : List ℕ) (s t : Each) (i : ℕ) (x : Event) : Type 0 where
  pub some : i < length words / width
  pub event : x ≡ event_in words (i * width)
  pub index : s.next ≡ i
  pub next : t.next ≡ i + 1
  pub same : t.words.now ≡ words

module _ (words : List ℕ) (s t : Each) (w : s.words.now ≡ words) where
  pub came : (i : ℕ) (x : Event) → each_gives s (Some (i, x)) t → Came words s t i x
  came i x (a, b, c, d, e) = record {
    some = subst (λ (l : List ℕ). i < length l / width) w (subst (λ (j : ℕ). j < length s.words.now / width) (sym a) c);
    event = b ∙ ap (λ (l : List ℕ). event_in l (s.next * width)) w ∙ ap (λ (j : ℕ). event_in words (j * width)) (sym a);
    index = sym a;
    next = e ∙ ap (λ (j : ℕ). j + 1) (sym a);
    same = ap (λ r. r.now) d ∙ w;
  }

  pub none-left : each_gives s None t → length words / width ≤ s.next
  none-left h = subst (λ (l : List ℕ). length l / width ≤ s.next) w h
