-- Where blocks begin, event by event, and words that keep these places. Assumes nothing.
use Prim.Native.Nat.{ℕ, zero, suc, ◌+◌, ◌-◌, ◌*◌, ◌/◌, ◌≤◌, ◌<◌}
use mathlib.Core.Path.{◌≡◌, refl, sym, ap, ◌∙◌}
use mathlib.Core.Bool.{Bool, true, false}
use mathlib.Core.List.{List, [], ◌∷◌, ◌++◌}
use native.Mathlib.Omega.{arith}
use native.Mathlib.Nat.{add-zero}
use lib.ListN.{length, get_or, drop, set, length-set, length-map, drop_of_length-le}
use lib.Seq.{sets, sets-eq, drop-set-lt}
use Rattle.classes.specs.Choice.{pick}
use Rattle.events.specs.Events.{width}
use Rattle.events.specs.Pack.{event_in, is_stale, all_of, live_of}
use Rattle.events.specs.declared.Event.{Event}
use Rattle.events.proofs.PackLaws.{rest-start, rest-next, rest_end}
use Rattle.events.proofs.StaleLaws.{stale-words}
use Rattle.tops.specs.Tops.{open_of, begins_of, line_start, starts_from, first_or}
use Rattle.tops.specs.Places.{events_behind, places_from, places_of, put_in, walk_of, kept_of, starts_at, start_behind}
use Rattle.tops.specs.declared.Walk.{Walk}
use Rattle.tops.proofs.OpenLaws.{open-other, open-low, begin-none}

-- ---- the first lines of the blocks that begin at these places
pub starts-places : (text : List ℕ) (n : ℕ) (xs : List Event) → starts_from text n xs ≡ starts_at text (places_from n xs)
unfolding starts_from places_from
starts-places text n [] = refl
starts-places text n (x ∷ xs) = by-case (begins_of n x) (starts-places text (open_of n x) xs)
  where
    by-case : (b : Bool) → starts_from text (open_of n x) xs ≡ starts_at text (places_from (open_of n x) xs)
        → pick b (line_start text x.start ∷ starts_from text (open_of n x) xs) (starts_from text (open_of n x) xs) ≡ starts_at text (pick b (x.start ∷ places_from (open_of n x) xs) (places_from (open_of n x) xs))
    by-case true h = ap (λ (l : List ℕ). line_start text x.start ∷ l) h
    by-case false h = h

-- no more blocks than events
pub places-few : (n : ℕ) (xs : List Event) → length (places_from n xs) ≤ length xs
unfolding places_from
places-few n [] = omega arith
places-few n (x ∷ xs) = by-case (begins_of n x) (places-few (open_of n x) xs)
  where
    by-case : (b : Bool) → length (places_from (open_of n x) xs) ≤ length xs → length (pick b (x.start ∷ places_from (open_of n x) xs) (places_from (open_of n x) xs)) ≤ suc (length xs)
    by-case true h = omega (arith, h)
    by-case false h = omega (arith, h)

-- where the first line of block k starts
pub start-within : (text places : List ℕ) (k : ℕ) → k < length places → line_start text (get_or places k 0) ≡ start_behind text places k
start-within text [] k h = absurd (omega (arith, h))
start-within text (p ∷ ps) zero h = refl
start-within text (p ∷ ps) (suc k) h = start-within text ps k (omega (arith, h))

pub start-end : (text places : List ℕ) (k : ℕ) → length places ≤ k → length text ≡ start_behind text places k
start-end text places k h =
    let e : length (starts_at text places) ≡ length places = length-map places (line_start text) in
    ap (first_or (length text)) (sym (drop_of_length-le (starts_at text places) {i = k} (omega (arith, h, e))))

-- ---- Stale events begin nothing and open nothing
stale-nothing : (x : Event) → is_stale x ≡ true → (n : ℕ) → (begins_of n x ≡ false) × (open_of n x ≡ n)
stale-nothing x e n =
    let role = (stale-words x e).0 in
    let none : (k : ℕ) → x.role ≡ suc k → ⊥ = λ k d. omega (arith, d, role) in
    (begin-none n x (none 3) (none 0), sym (open-other n x (none 0) (none 1)))

pub starts-live : (text : List ℕ) (n : ℕ) (xs : List Event) → starts_from text n (live_of xs) ≡ starts_from text n xs
unfolding starts_from live_of
starts-live text n [] = refl
starts-live text n (x ∷ xs) = by-case (is_stale x) refl (λ m. starts-live text m xs)
  where
    by-case : (b : Bool) → is_stale x ≡ b → ((m : ℕ) → starts_from text m (live_of xs) ≡ starts_from text m xs)
        → starts_from text n (pick b (live_of xs) (x ∷ live_of xs)) ≡ starts_from text n (x ∷ xs)
    by-case true e f = let q = stale-nothing x e n in f n ∙ sym (rw (q.0, q.1))
    by-case false e f = rw (f (open_of n x))

pub places-live : (n : ℕ) (xs : List Event) → places_from n (live_of xs) ≡ places_from n xs
unfolding places_from live_of
places-live n [] = refl
places-live n (x ∷ xs) = by-case (is_stale x) refl (λ m. places-live m xs)
  where
    by-case : (b : Bool) → is_stale x ≡ b → ((m : ℕ) → places_from m (live_of xs) ≡ places_from m xs) → places_from n (pick b (live_of xs) (x ∷ live_of xs)) ≡ places_from n (x ∷ xs)
    by-case true e f = let q = stale-nothing x e n in f n ∙ sym (rw (q.0, q.1))
    by-case false e f = rw (f (open_of n x))

-- ---- places put in words
pub put-length : (k : ℕ) (ps words : List ℕ) → length (put_in k ps words) ≡ length words
unfolding put_in
put-length k [] words = refl
put-length k (p ∷ ps) words = put-length (k + 1) ps (set words k p) ∙ length-set words k p

-- they are a run of stores
put-sets : (k : ℕ) (ps words : List ℕ) → put_in k ps words ≡ sets words k ps
unfolding put_in
put-sets k [] words = refl
put-sets k (p ∷ ps) words =
    let e : k + 1 ≡ suc k = omega arith in
    put-sets (k + 1) ps (set words k p) ∙ ap (λ (j : ℕ). sets (set words k p) j ps) e

pub put-room : (ps words : List ℕ) → length ps ≤ length words → put_in 0 ps words ≡ ps ++ drop (length ps) words
put-room ps words h =
    let e : 0 + length ps ≡ length ps = omega arith in
    put-sets 0 ps words ∙ sets-eq ps words 0 (omega (arith, h)) ∙ rw e

put-after : (k n : ℕ) (ps words : List ℕ) → k + length ps ≤ n → drop n (put_in k ps words) ≡ drop n words
unfolding put_in
put-after k n [] words h = refl
put-after k n (p ∷ ps) words h = put-after (k + 1) n ps (set words k p) (omega (arith, h)) ∙ drop-set-lt n words k p (omega (arith, h))

-- the words behind them stay, whether all have room or not
pub put-behind : (ps words : List ℕ) → drop (length ps) (put_in 0 ps words) ≡ drop (length ps) words
put-behind ps words = put-after 0 (length ps) ps words (omega arith)

-- ---- one event more
abbrev pub walk : ℕ → ℕ → Walk
walk n k = record { nodes = n; blocks = k }

-- ---- the walk over all events
pub record Walked (all out₀ : List ℕ) (i : ℕ) (w : Walk) (out : List ℕ) : Type 0 where
  pub few : i ≤ length all / width
  pub low : (w.nodes ≤ i) × (w.blocks ≤ i)
  pub count : w.blocks + length (places_from w.nodes (events_behind all i)) ≡ length (places_of (all_of all))
  pub words : put_in w.blocks (places_from w.nodes (events_behind all i)) out ≡ put_in 0 (places_of (all_of all)) out₀

pub walked_start : (all out₀ : List ℕ) → Walked all out₀ 0 (walk 0 0) out₀
walked_start all out₀ =
    let e : places_from 0 (events_behind all 0) ≡ places_of (all_of all) = ap (places_from 0) (rest-start all) in
    record { few = omega arith; low = (omega arith, omega arith); count = omega (arith, ap (λ (l : List ℕ). length l) e); words = ap (λ (l : List ℕ). put_in 0 l out₀) e }

module _ (all out₀ : List ℕ) (i : ℕ) (w : Walk) (out : List ℕ) (s : Walked all out₀ i w out) where
  module _ (h : i < length all / width) (x : Event) (p : x ≡ event_in all (i * width)) where
    abbrev rest : List ℕ
    rest = places_from (open_of w.nodes x) (events_behind all (i + 1))

    behind : places_from w.nodes (events_behind all i) ≡ pick (begins_of w.nodes x) (x.start ∷ rest) rest
    unfolding places_from
    behind = ap (places_from w.nodes) (rest-next all i h x p)

    by-case : (b : Bool) → places_from w.nodes (events_behind all i) ≡ pick b (x.start ∷ rest) rest
        → Walked all out₀ (i + 1) (walk (open_of w.nodes x) (pick b (w.blocks + 1) w.blocks)) (pick b (set out w.blocks x.start) out)
    unfolding put_in
    by-case true e = record {
      few = omega (arith, h);
      low = (omega (arith, s.low.0, open-low w.nodes x), omega (arith, s.low.1));
      count = omega (arith, s.count, ap (λ (l : List ℕ). length l) e);
      words = ap (λ (l : List ℕ). put_in w.blocks l out) (sym e) ∙ s.words;
    }
    by-case false e = record {
      few = omega (arith, h);
      low = (omega (arith, s.low.0, open-low w.nodes x), omega (arith, s.low.1));
      count = omega (arith, s.count, ap (λ (l : List ℕ). length l) e);
      words = ap (λ (l : List ℕ). put_in w.blocks l out) (sym e) ∙ s.words;
    }

    pub walked_next : (r : Walk) → r ≡ walk_of w x → (new : List ℕ) → new ≡ kept_of w x out → Walked all out₀ (i + 1) r new
    walked_next r q new k = rw (q, k) (by-case (begins_of w.nodes x) behind)

  pub walked-done : length all / width ≤ i → (w.blocks ≡ length (places_of (all_of all))) × (out ≡ put_in 0 (places_of (all_of all)) out₀)
  unfolding places_from put_in
  walked-done h =
      let e : places_from w.nodes (events_behind all i) ≡ [] = ap (places_from w.nodes) (rest_end all i h) in
      (sym (add-zero w.blocks) ∙ ap (λ (l : List ℕ). w.blocks + length l) (sym e) ∙ s.count, ap (λ (l : List ℕ). put_in w.blocks l out) (sym e) ∙ s.words)

  pub walked-length : length out ≡ length out₀
  walked-length =
      let left = places_from w.nodes (events_behind all i) in
      sym (put-length w.blocks left out) ∙ ap (λ (l : List ℕ). length l) s.words ∙ put-length 0 (places_of (all_of all)) out₀
