-- A loop that puts a piece for each event of words: the pieces so far, and room for the rest. Assumes nothing.
use Rattle.std.proofs.Common.{◌≡◌, ℕ, ◌+◌, ◌*◌, ◌/◌, ◌<◌, ◌≤◌, List, [], ◌∷◌, ◌++◌, length, refl, sym, ap, ◌∙◌, subst, arith, length-append, append_assoc}
use Rattle.std.specs.List.{flat_map}
use Rattle.std.proofs.lemmas.List.{append-nil}
use Rattle.sinks.specs.Laws.{SinkLaws}
use Rattle.sinks.proofs.PutLaws.{fits-behind}
use Rattle.events.specs.Events.{width}
use Rattle.events.specs.Pack.{event_in, all_of}
use Rattle.events.specs.declared.Event.{Event}
use Rattle.events.proofs.PackLaws.{rest_of, rest-start, rest-next, rest_end}

-- the first i events' pieces have been put
pub record PutEach {S : Type 0} (fits : S → ℕ → Type 0) (took : S → List ℕ → S → Type 0) (f : Event → List ℕ) (words : List ℕ) (x : S) (i : ℕ) (y : S) : Type 0 where
  pub so_far : List ℕ
  pub done : took x so_far y
  pub whole : so_far ++ flat_map f (rest_of words i) ≡ flat_map f (all_of words)
  pub room : fits y (length (flat_map f (rest_of words i)))

module _ {S : Type 0} {fits : S → ℕ → Type 0} {took : S → List ℕ → S → Type 0} (laws : SinkLaws fits took) (f : Event → List ℕ) (words : List ℕ) where
  pub each-start : (x : S) → fits x (length (flat_map f (all_of words))) → PutEach fits took f words x 0 x
  each-start x h = record {
    so_far = [];
    done = laws.none x;
    whole = ap (flat_map f) (rest-start words);
    room = subst (λ (l : List Event). fits x (length (flat_map f l))) (sym (rest-start words)) h;
  }

  module _ {x : S} {i : ℕ} {y : S} (p : PutEach fits took f words x i y) where
    module _ (h : i < length words / width) (e : Event) (q : e ≡ event_in words (i * width)) where
      first : flat_map f (rest_of words i) ≡ f e ++ flat_map f (rest_of words (i + 1))
      first = ap (flat_map f) (rest-next words i h e q)

      size : length (flat_map f (rest_of words i)) ≡ length (f e) + length (flat_map f (rest_of words (i + 1)))
      size = ap length first ∙ length-append (f e) (flat_map f (rest_of words (i + 1)))

      pub each-room : fits y (length (f e))
      each-room = laws.less y _ _ p.room (omega (arith, size))

      pub each-turn : {z : S} → took y (f e) z → PutEach fits took f words x (i + 1) z
      each-turn {z} t = record {
        so_far = p.so_far ++ f e;
        done = laws.more x y z _ _ p.done t;
        whole = append_assoc p.so_far (f e) (flat_map f (rest_of words (i + 1))) ∙ ap (λ (l : List ℕ). p.so_far ++ l) (sym first) ∙ p.whole;
        room = fits-behind laws _ _ _ t p.room refl (omega (arith, size));
      }

      -- an event with no piece
      pub each-none : f e ≡ [] → PutEach fits took f words x (i + 1) y
      each-none n = each-turn (subst (λ (l : List ℕ). took y l y) (sym n) (laws.none y))

    pub each-end : length words / width ≤ i → took x (flat_map f (all_of words)) y
    each-end h =
        subst (λ (l : List ℕ). took x l y) (sym (append-nil p.so_far) ∙ ap (λ (l : List Event). p.so_far ++ flat_map f l) (sym (rest_end words i h)) ∙ p.whole) p.done
