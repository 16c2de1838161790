-- Events in words, there and back. Assumes nothing.
use Prim.Native.Nat.{ℕ, zero, suc, ◌+◌, ◌-◌, ◌*◌, ◌/◌, ◌%◌, ◌≤◌, ◌<◌}
use mathlib.Core.Path.{◌≡◌, refl, sym, ap, ap₂, ◌∙◌}
use mathlib.Core.Bool.{Bool, true, false}
use mathlib.Core.List.{List, [], ◌∷◌, ◌++◌}
use native.Mathlib.Nat.{add-zero}
use native.Mathlib.Omega.{arith}
use lib.ListN.{length, get_or, take, drop, length-append, length-drop, get_or-append}
use lib.Seq.{drop-cons, drop-drop, get_or-drop, get_or-append-add, take_at, drop_at}
use borrow.Author.Tests.{leb-true, le-leb}
use Rattle.classes.specs.Choice.{pick}
use Rattle.events.specs.Events.{width, words_of, whole_at}
use Rattle.events.specs.Pack.{event_at, event_in, is_stale, events_of, all_of, pack_of, live_of}
use Rattle.events.specs.declared.Event.{Event}

-- ---- one event
pub event-room : (ws : List ℕ) (i : ℕ) → whole_at ws i ≡ true → i + width ≤ length ws
event-room ws i = leb-true (i + width) (length ws)

pub event-words : (ws : List ℕ) (i : ℕ)
    → ◌≡◌ {A = Event} (record {
      role = get_or ws i 0;
      node = get_or ws (i + 1) 0;
      start = get_or ws (i + 2) 0;
      end = get_or ws (i + 3) 0;
      a = get_or ws (i + 4) 0;
      b = get_or ws (i + 5) 0;
      c = get_or ws (i + 6) 0;
      d = get_or ws (i + 7) 0;
    }) (event_in ws i)
event-words ws i =
    rw (get_or-drop i ws 0 0, add-zero i, get_or-drop i ws 1 0, get_or-drop i ws 2 0, get_or-drop i ws 3 0, get_or-drop i ws 4 0, get_or-drop i ws 5 0, get_or-drop i ws 6 0, get_or-drop i ws 7 0)

-- ---- the events from index i on
abbrev pub rest_of : List ℕ → ℕ → List Event
rest_of ws i = events_of (length ws / width - i) (drop (i * width) ws)

pub rest-start : (ws : List ℕ) → rest_of ws 0 ≡ all_of ws
rest-start ws =
    let e : length ws / width - 0 ≡ length ws / width = omega arith in
    rw e

pub rest-next : (ws : List ℕ) (i : ℕ) → i < length ws / width → (x : Event) → x ≡ event_in ws (i * width) → rest_of ws i ≡ x ∷ rest_of ws (i + 1)
unfolding events_of
rest-next ws i h x p =
    let e : length ws / width - i ≡ suc (length ws / width - (i + 1)) = omega arith in
    let f : i * width + width ≡ (i + 1) * width = omega arith in
    rw (e, p) (ap (λ (xs : List ℕ). event_in ws (i * width) ∷ events_of (length ws / width - (i + 1)) xs) (drop-drop width (i * width) ws ∙ ap (λ (k : ℕ). drop k ws) f))

pub rest_end : (ws : List ℕ) (i : ℕ) → length ws / width ≤ i → rest_of ws i ≡ []
unfolding events_of
rest_end ws i h =
    let e : length ws / width - i ≡ zero = omega arith in
    rw e

-- an event before the last whole one stands whole
pub rest-fits : (ws : List ℕ) (i : ℕ) → i < length ws / width → whole_at ws (i * width) ≡ true
rest-fits ws i h = le-leb (i * width + width) (length ws) (omega arith)

pub events-length : (n : ℕ) (ws : List ℕ) → length (events_of n ws) ≡ n
unfolding events_of
events-length zero ws = refl
events-length (suc n) ws = ap suc (events-length n (drop width ws))

-- ---- events as words
pub pack-length : (xs : List Event) → length (pack_of xs) ≡ width * length xs
unfolding pack_of
pack-length [] = refl
pack-length (x ∷ xs) =
    let h = pack-length xs in
    let k : width + length (pack_of xs) ≡ width * suc (length xs) = omega arith in
    length-append (words_of x) (pack_of xs) ∙ k

pub pack-append : (xs ys : List Event) → pack_of (xs ++ ys) ≡ pack_of xs ++ pack_of ys
unfolding pack_of
pack-append [] ys = refl
pack-append (x ∷ xs) ys = ap (λ (r : List ℕ). words_of x ++ r) (pack-append xs ys)

-- the first of them, the rest
pub pack-take : (xs ys : List Event) (n : ℕ) → n ≡ width * length xs → take n (pack_of (xs ++ ys)) ≡ pack_of xs
pack-take xs ys n e = ap (λ (l : List ℕ). take n l) (pack-append xs ys) ∙ take_at (pack_of xs) (pack_of ys) n (pack-length xs ∙ sym e)

pub pack-drop : (xs ys : List Event) (n : ℕ) → n ≡ width * length xs → drop n (pack_of (xs ++ ys)) ≡ pack_of ys
pack-drop xs ys n e = ap (λ (l : List ℕ). drop n l) (pack-append xs ys) ∙ drop_at (pack_of xs) (pack_of ys) n (pack-length xs ∙ sym e)

pub pack-more : (xs : List Event) (x : Event) → pack_of (xs ++ (x ∷ [])) ≡ pack_of xs ++ words_of x
unfolding pack_of
pack-more xs x = pack-append xs (x ∷ [])

pub pack-at : (xs : List Event) (x : Event) (ys : List Event) → pack_of (xs ++ (x ∷ ys)) ≡ pack_of xs ++ (words_of x ++ pack_of ys)
unfolding pack_of
pack-at xs x ys = pack-append xs (x ∷ ys)

-- word k of the event behind xs
pub pack-word : (xs : List Event) (x : Event) (ys : List Event) (k : ℕ) → k < width → get_or (pack_of (xs ++ (x ∷ ys))) (width * length xs + k) 0 ≡ get_or (words_of x) k 0
pack-word xs x ys k h =
    ap₂ (λ (l : List ℕ) (n : ℕ). get_or l (n + k) 0) (pack-at xs x ys) (sym (pack-length xs))
    ∙ get_or-append-add (pack_of xs) (words_of x ++ pack_of ys) k 0
    ∙ get_or-append (words_of x) (pack_of ys) 0 k h

-- ---- words as events
pub spare-pack : (xs : List Event) → length (pack_of xs) % width ≡ 0
spare-pack xs = let l = pack-length xs in omega arith

events-pack : (xs : List Event) → events_of (length xs) (pack_of xs) ≡ xs
unfolding events_of pack_of
events-pack [] = refl
events-pack (x ∷ xs) = ap (λ (r : List Event). x ∷ r) (events-pack xs)

pub all-pack : (xs : List Event) → all_of (pack_of xs) ≡ xs
all-pack xs =
    let l = pack-length xs in
    let c : length (pack_of xs) / width ≡ length xs = omega arith in
    ap (λ (k : ℕ). events_of k (pack_of xs)) c ∙ events-pack xs

event-front : (ws : List ℕ) → width ≤ length ws → ws ≡ words_of (event_at ws) ++ drop width ws
event-front ws h =
    at 0 (omega arith) (at 1 (omega arith) (at 2 (omega arith) (at 3 (omega arith) (at 4 (omega arith) (at 5 (omega arith) (at 6 (omega arith) (at 7 (omega arith) refl)))))))
  where
    at : (i : ℕ) → i < length ws → {r : List ℕ} → drop (suc i) ws ≡ r → drop i ws ≡ get_or ws i 0 ∷ r
    at i g p = drop-cons ws i 0 g ∙ ap (λ (l : List ℕ). get_or ws i 0 ∷ l) p

pack-events : (n : ℕ) (ws : List ℕ) → length ws ≡ width * n → pack_of (events_of n ws) ≡ ws
unfolding events_of pack_of
pack-events zero [] h = refl
pack-events zero (w ∷ ws) h = absurd (omega arith)
pack-events (suc n) ws h =
    let d = length-drop width ws in
    ap (λ (r : List ℕ). words_of (event_at ws) ++ r) (pack-events n (drop width ws) (omega arith)) ∙ sym (event-front ws (omega arith))

pub pack-all : (ws : List ℕ) → length ws % width ≡ 0 → pack_of (all_of ws) ≡ ws
pack-all ws h = pack-events (length ws / width) ws (omega arith)

-- ---- the size of words
-- every number of a list is below n
abbrev pub Below : ℕ → List ℕ → Type 0
Below n [] = Unit {0}
Below n (x ∷ xs) = (x < n) × Below n xs

pub below-drop : (n i : ℕ) (l : List ℕ) → Below n l → Below n (drop i l)
below-drop n zero l h = h
below-drop n (suc i) [] h = tt
below-drop n (suc i) (x ∷ l) h = below-drop n i l h.1

-- the body of an event is words
abbrev pub Body : Event → Type 0
Body x = (x.a < 4294967296) × (x.b < 4294967296) × (x.c < 4294967296) × (x.d < 4294967296)

abbrev pub Bodies : List Event → Type 0
Bodies [] = Unit {0}
Bodies (x ∷ xs) = Body x × Bodies xs

below_at : (m i : ℕ) (l : List ℕ) → 0 < m → Below m l → get_or l i 0 < m
below_at m i [] h w = h
below_at m zero (x ∷ l) h w = w.0
below_at m (suc i) (x ∷ l) h w = below_at m i l h w.1

pub bodies-events : (n : ℕ) (ws : List ℕ) → Below 4294967296 ws → Bodies (events_of n ws)
unfolding events_of
bodies-events zero ws w = tt
bodies-events (suc n) ws w =
    let at : (i : ℕ) → get_or ws i 0 < 4294967296 = λ i. below_at 4294967296 i ws (omega arith) w in
    ((at 4, at 5, at 6, at 7), bodies-events n (drop width ws) (below-drop 4294967296 width ws w))

pub bodies-live : (xs : List Event) → Bodies xs → Bodies (live_of xs)
unfolding live_of
bodies-live [] y = tt
bodies-live (x ∷ xs) y = by-stale (is_stale x) (bodies-live xs y.1)
  where
    by-stale : (b : Bool) → Bodies (live_of xs) → Bodies (pick b (live_of xs) (x ∷ live_of xs))
    by-stale true r = r
    by-stale false r = (y.0, r)
