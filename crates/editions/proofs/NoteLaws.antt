-- Blocks noted in words that were zeros: the places that stand there, and zeros again. Assumes nothing.
use Prim.Native.Nat.{ℕ, ◌+◌, ◌-◌, ◌≤◌}
use mathlib.Core.Path.{◌≡◌, sym, ap, ap₂, ◌∙◌}
use mathlib.Core.List.{List, ◌++◌, append-nil}
use native.Mathlib.Omega.{arith}
use lib.ListN.{length, take, drop, replicate, length-append, length-drop, length-replicate, drop_of_length-le}
use lib.Seq.{take_all, take_at, drop_at, drop-drop, drop-append-add, length-take-le}
use Rattle.events.specs.Pack.{all_of}
use Rattle.walk.specs.declared.Limits.{Limits}
use Rattle.tops.specs.Tops.{starts_of}
use Rattle.tops.specs.Places.{places_of, put_in, starts_at}
use Rattle.tops.proofs.PlaceLaws.{starts-places, put-length, put-room, put-behind}
use Rattle.editions.specs.Editions.{changed_of}
use Rattle.editions.specs.View.{zeroed_of, wiped_of, Rechecks, Settled}
use Rattle.editions.specs.declared.Rechecked.{Rechecked}
use Rattle.editions.proofs.AgainLaws.{zeroed-zeros}

-- the places at the front of words that have room for them
pub taken_places : (ps words new : List ℕ) → length ps ≤ length words → new ≡ put_in 0 ps words → (n : ℕ) → n ≡ length ps → take n new ≡ ps
taken_places ps words new h e n k = ap (take n) (e ∙ put-room ps words h) ∙ take_at ps (drop (length ps) words) n (sym k)

starts-noted : (text given ps : List ℕ) → ps ≡ places_of (all_of given) → starts_at text ps ≡ starts_of text (all_of given)
starts-noted text given ps e = ap (starts_at text) e ∙ sym (starts-places text 0 (all_of given))

-- ---- the older's blocks, noted in event words that were zeros
module _ (older og events new : List ℕ) (free : events ≡ replicate (length events) 0) (h : length (places_of (all_of og)) ≤ length events)
    (m : ℕ) (n : m ≡ length (places_of (all_of og))) (p : new ≡ put_in 0 (places_of (all_of og)) events) where
  pub noted-length : length new ≡ length events
  noted-length = ap (λ (l : List ℕ). length l) p ∙ put-length 0 (places_of (all_of og)) events

  pub noted-fits : m ≤ length new
  noted-fits = omega (arith, n, h, noted-length)

  pub older-starts : starts_at older (take m new) ≡ starts_of older (all_of og)
  older-starts = starts-noted older og (take m new) (taken_places (places_of (all_of og)) events new h p m n)

  noted-rest : drop m new ≡ drop m events
  noted-rest = ap₂ (λ (i : ℕ) (l : List ℕ). drop i l) n p ∙ put-behind (places_of (all_of og)) events ∙ ap (λ (i : ℕ). drop i events) (sym n)

  pub noted-zeroed : zeroed_of m new ≡ replicate (length events) 0
  noted-zeroed = zeroed-zeros m (length events) new events noted-length free noted-rest

  -- ---- the newer's behind them
  module _ (newer ng tail : List ℕ) (g : length (places_of (all_of og)) + length (places_of (all_of ng)) ≤ length events)
      (k : ℕ) (r : k ≡ length (places_of (all_of ng))) (lent : tail ≡ put_in 0 (places_of (all_of ng)) (take (length new - m) (drop m new))) where
    q : tail ≡ put_in 0 (places_of (all_of ng)) (drop m new)
    q = lent ∙ ap (put_in 0 (places_of (all_of ng))) (take_all (length new - m) (drop m new) (omega (arith, length-drop m new)))

    pub tail-length : length tail ≡ length (drop m new)
    tail-length = ap (λ (l : List ℕ). length l) q ∙ put-length 0 (places_of (all_of ng)) (drop m new)

    pub tail-fits : k ≤ length tail
    tail-fits = omega (arith, r, g, n, tail-length, length-drop m new, noted-length)

    pub newer-starts : starts_at newer (take k tail) ≡ starts_of newer (all_of ng)
    newer-starts = starts-noted newer ng (take k tail) (taken_places (places_of (all_of ng)) (drop m new) tail (omega (arith, r, tail-fits, tail-length)) q k r)

    -- the event words with both
    module _ (all : List ℕ) (back : all ≡ take m new ++ (tail ++ drop (length new - m) (drop m new))) where
      e : all ≡ take m new ++ tail
      e = back ∙ ap (λ (l : List ℕ). take m new ++ l) (ap (λ (l : List ℕ). tail ++ l) (drop_of_length-le (drop m new) {i = length new - m} (omega (arith, length-drop m new))) ∙ append-nil tail)

      front : length (take m new) ≡ m
      front = length-take-le m new noted-fits

      pub both-zeroed : zeroed_of (m + k) all ≡ replicate (length events) 0
      both-zeroed =
          let size : length all ≡ length events = omega (arith, ap (λ (l : List ℕ). length l) e, length-append (take m new) tail, front, tail-length, length-drop m new, noted-length, noted-fits) in
          let rest : drop k tail ≡ drop k (drop m new) = ap₂ (λ (i : ℕ) (l : List ℕ). drop i l) r q ∙ put-behind (places_of (all_of ng)) (drop m new) ∙ ap (λ (i : ℕ). drop i (drop m new)) (sym r) in
          let behind = ap (λ (i : ℕ). drop (i + k) (take m new ++ tail)) (sym front) ∙ drop-append-add (take m new) tail k in
          zeroed-zeros (m + k) (length events) all events size free (ap (drop (m + k)) e ∙ behind ∙ rest ∙ ap (drop k) noted-rest ∙ drop-drop k m events)

      pub both-starts : changed_of older newer (starts_at older (take m all)) (starts_at newer (take k (drop m all))) ≡ changed_of older newer (starts_of older (all_of og)) (starts_of newer (all_of ng))
      both-starts =
          ap₂ (changed_of older newer) (ap (λ (l : List ℕ). starts_at older (take m l)) e ∙ ap (starts_at older) (take_at (take m new) tail m front) ∙ older-starts)
          (ap (λ (l : List ℕ). starts_at newer (take k (drop m l))) e ∙ ap (λ (l : List ℕ). starts_at newer (take k l)) (drop_at (take m new) tail m front) ∙ newer-starts)

-- ---- the newer's noted in the line words
module _ (og ng : List ℕ) (b : Rechecked) (lines events : List ℕ) (s : Settled og ng b lines events) where
  pub older-fits : length (places_of (all_of og)) ≤ length events
  older-fits = omega (arith, s.older-room)

  pub both-fit : length (places_of (all_of og)) + length (places_of (all_of ng)) ≤ length events
  both-fit = omega (arith, s.older-room, s.newer-room)

  pub lines-starts : (newer : List ℕ) → b.blocks ≤ length lines → starts_at newer (take b.blocks lines) ≡ starts_of newer (all_of ng)
  lines-starts newer h =
      let zeros = replicate {A = ℕ} (length lines) 0 in
      starts-noted newer ng (take b.blocks lines)
      (taken_places (places_of (all_of ng)) zeros lines (omega (arith, h, s.blocks, length-replicate {A = ℕ} (length lines) 0)) s.places b.blocks s.blocks)

-- what both editions parsed again leave: free event words, with room for all blocks
pub rechecks-settled : (limit : ℕ) (lim : Limits) (older og newer ng : List ℕ) (l e : ℕ) (a b : Rechecked) (la ea lb eb : List ℕ) (m f : ℕ)
    → Rechecks limit lim older og l e a la ea → a.number ≡ 0 → Rechecks limit lim newer ng m f b lb eb → b.number ≡ 0 → length lb ≡ m → f ≡ e
    → (free : List ℕ) → free ≡ wiped_of b.count eb → Settled og ng b lb free
rechecks-settled limit lim older og newer ng l e a b la ea lb eb m f p y q z n k free w =
    let zeros = w ∙ q.events-wiped in
    let size = ap (λ (v : List ℕ). length v) zeros ∙ length-replicate {A = ℕ} f 0 in
    record {
      free = zeros ∙ ap (λ (i : ℕ). replicate {A = ℕ} i 0) (sym size);
      older-room = omega (arith, p.room y, k, size);
      newer-room = omega (arith, q.room z, size);
      blocks = q.blocks z;
      places = q.places z ∙ ap (λ (i : ℕ). put_in 0 (places_of (all_of ng)) (replicate {A = ℕ} i 0)) (sym n);
    }
