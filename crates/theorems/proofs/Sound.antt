-- The events of every accepted text are sound: they nest, are written as records, and are read back (RULES E11, N15). Assumes nothing.
use mathlib.Core.Path.{◌≡◌, refl, sym, ap, subst, ◌∙◌}
use mathlib.Core.Logic.{◌⊎◌, inl, inr, ⊎_elim}
use mathlib.Core.Bool.{Bool, true, false, not}
use mathlib.Core.List.{List, [], ◌∷◌, ◌++◌}
use Prim.Native.Nat.{ℕ, ◌+◌, ◌-◌, ◌*◌, ◌/◌, ◌%◌, ◌≤◌, ◌<◌}
use native.Mathlib.Omega.{arith}
use native.Mathlib.Nat.{zero-add}
use lib.Dec.{eqb, ltb}
use lib.ListN.{length, take, replicate, length-append}
use lib.Seq.{take_at}
use borrow.Author.Tests.{eqb-true, eqb-false, ltb-true, ltb-false}
use Rattle.classes.specs.Choice.{pick}
use Rattle.std.specs.Prelude.{Ok, Err}
use Rattle.lines.specs.Lines.{Split, lines_of, split_of}
use Rattle.refusals.specs.declared.Refusal.TheVariants.{TextTooLong, LinesFull}
use Rattle.events.specs.State.{State}
use Rattle.events.specs.Events.{width}
use Rattle.events.specs.Pack.{is_stale, all_of, pack_of, live_of, live_in}
use Rattle.events.specs.declared.Event.{Event}
use Rattle.events.proofs.PackLaws.{pack-length, spare-pack, all-pack, Below}
use Rattle.events.specs.Names.{largest}
use Rattle.fields.specs.Fields.{offset, size_of}
use Rattle.record.specs.Record.{record_of}
use Rattle.record.proofs.RoundLaws.{record-length}
use Rattle.nests.specs.Nesting.{Nesting, outside, after_of, fault_of}
use Rattle.records.specs.Records.{moved, stream_of, check_of, write_of, written_of, read_of, unpacked_of}
use Rattle.records.specs.Moved.{Moved}
use Rattle.records.proofs.TripLaws.{Fair}
use Rattle.records.proofs.Trips.{image_of, written-reads-buffers}
use Rattle.walk.specs.Document.{start, document_of}
use Rattle.walk.specs.declared.Limits.{Limits}
use Rattle.parse.specs.Parse.{Outcome, outcome, capped_of, finish, parse_by, parse_of}
use Rattle.theorems.specs.Sound.{SpansIn, BodiesIn, Nested, Sound}
use Rattle.theorems.proofs.Proper.{of-pick}
use Rattle.theorems.proofs.Nests.{Nests, Fines}
use Rattle.theorems.proofs.WholeLaws.{stale-on, live_on, nests-fair}
use Rattle.theorems.proofs.FineLaws.{fine-span, fines-below}
use Rattle.theorems.proofs.TreeLaws.{Walks, document-walks}

-- ---- events that nest
spans-in : (text : List ℕ) (xs : List Event) → Fines text xs → SpansIn text xs
spans-in text [] f = tt
spans-in text (x ∷ xs) f = let p = fine-span text x f.0 in (p.2, p.1, spans-in text xs f.1)

bodies-in : (text : List ℕ) (xs : List Event) → Fines text xs → BodiesIn text xs
bodies-in text [] f = tt
bodies-in text (x ∷ xs) f = ((λ s. (f.0 s).1), bodies-in text xs f.1)

nests-nested : (top : ℕ) (n : Nesting) (xs : List Event) → Nests top n xs → Fair n (live_of xs) → Nested top n (live_of xs)
unfolding live_of
nests-nested top n [] p f = f
nests-nested top n (x ∷ xs) p f = by-case (is_stale x) refl (λ m. nests-nested top m xs) f
  where
    by-case : (b : Bool) → is_stale x ≡ b → ((m : Nesting) → Nests top m xs → Fair m (live_of xs) → Nested top m (live_of xs))
        → Fair n (pick b (live_of xs) (x ∷ live_of xs)) → Nested top n (pick b (live_of xs) (x ∷ live_of xs))
    by-case true s r f = r n (subst (λ (m : Nesting). Nests top m xs) (stale-on n x s) p.1) f
    by-case false s r f = (f.0, (p.0 s).1, r (after_of n x) (subst (λ (m : Nesting). Nests top m xs) (live_on n x s) p.1) f.1)

-- ---- events that are written
-- all of them, or there was no room
abbrev Told : ℕ → ℕ → Moved → Type 0
Told room all m = (m.number ≡ 0) ⊎ ((m.number ≡ 8) × (room < all))

module _ (room spare i : ℕ) (x : Event) (xs : List Event) (n : Nesting) (size : ℕ) where
  abbrev more : ℕ
  more = size + size_of offset x.role x.node

  abbrev next : Moved
  next = check_of room spare xs (i + 1) (after_of n x) more

  next-told : fault_of n x ≡ 0 → Told room (more + length (stream_of (live_of xs))) next
      → Told room (size + length (stream_of (x ∷ live_of xs))) (pick (not (eqb (fault_of n x) 0)) (moved (fault_of n x) i 0) (pick (ltb room more) (moved 8 i 0) next))
  unfolding stream_of
  next-told f t =
      let k = size + length (record_of offset x ++ stream_of (live_of xs)) in
      let e : more + length (stream_of (live_of xs)) ≡ k = omega (arith, length-append (record_of offset x) (stream_of (live_of xs)), record-length offset x) in
      rw f (of-pick (Told room k) (ltb room more) (moved 8 i 0) next
      (λ l. inr (refl, omega (arith, e, ltb-true room more l)))
      (λ l. subst (λ (a : ℕ). Told room a next) e t))

fair-told : (room spare : ℕ) (xs : List Event) (i : ℕ) (n : Nesting) (size : ℕ) → Fair n (live_of xs) → spare ≡ 0
    → Told room (size + length (stream_of (live_of xs))) (check_of room spare xs i n size)
unfolding check_of live_of
fair-told room spare [] i n size f g = rw (f, g) (inl refl)
fair-told room spare (x ∷ xs) i n size f g = by-case (is_stale x) (λ m a h. fair-told room spare xs (i + 1) m a h g) f
  where
    by-case : (b : Bool) → ((m : Nesting) (a : ℕ) → Fair m (live_of xs) → Told room (a + length (stream_of (live_of xs))) (check_of room spare xs (i + 1) m a))
        → Fair n (pick b (live_of xs) (x ∷ live_of xs))
        → Told room (size + length (stream_of (pick b (live_of xs) (x ∷ live_of xs)))) (pick b (check_of room spare xs (i + 1) n size)
        (pick (not (eqb (fault_of n x) 0)) (moved (fault_of n x) i 0) (pick (ltb room (more room spare i x xs n size)) (moved 8 i 0) (next room spare i x xs n size))))
    by-case true r f = r n size f
    by-case false r f = next-told room spare i x xs n size f.0 (r (after_of n x) (more room spare i x xs n size) f.1)

-- ---- an accepted text
-- words that are so many events, which nest
record Parsed (text : List ℕ) (count : ℕ) (words : List ℕ) : Type 0 where
  events : List Event
  is : words ≡ pack_of events
  all : length events ≡ count
  fines : Fines text events
  below : Below 4294967296 (pack_of events)
  nests : Nests 100 outside events
  fair : Fair outside (live_of events)

-- the events that stand first in the buffer
walked-count : (text : List ℕ) (s : State) (w : Walks text s) → length s.evs ≡ width * length w.events
walked-count text s w = ap (λ (l : List ℕ). length l) w.evs ∙ pack-length w.events

pub walked-words : (text rest : List ℕ) (s : State) → Walks text s → take (width * (length s.evs / 8)) (s.evs ++ rest) ≡ s.evs
walked-words text rest s w = take_at s.evs rest (width * (length s.evs / 8)) (omega (arith, walked-count text s w))

walked-parsed : (text rest : List ℕ) (s : State) → length text ≤ largest → Walks text s
    → let count = length s.evs / 8 in Parsed text count (take (width * count) (s.evs ++ rest))
walked-parsed text rest s len w =
    record {
      events = w.events;
      is = walked-words text rest s w ∙ w.evs;
      all = omega (arith, walked-count text s w);
      fines = w.fines;
      below = fines-below text w.events (omega (arith, len)) w.fines;
      nests = w.nests.0;
      fair = nests-fair text 100 outside w.events len w.fines w.nests.0 w.nests.1;
    }

parsed-events : (text : List ℕ) (count : ℕ) (words : List ℕ) (p : Parsed text count words) → all_of words ≡ p.events
parsed-events text count words p = ap all_of p.is ∙ all-pack p.events

parsed-sound : (text : List ℕ) (count : ℕ) (words : List ℕ) → Parsed text count words → Sound text words
parsed-sound text count words p =
    let e = parsed-events text count words p in
    record {
      whole = ap pack_of e ∙ sym p.is;
      spans = rw e (spans-in text p.events p.fines);
      bodies = rw e (bodies-in text p.events p.fines);
      nested = rw e (nests-nested 100 outside p.events p.nests p.fair);
    }

written-told : (text : List ℕ) (count : ℕ) (words : List ℕ) (room : ℕ) → Parsed text count words → Told room (length (image_of words)) (write_of words room)
unfolding write_of
written-told text count words room p =
    let xs = p.events in
    let e = zero-add (length (stream_of (live_of xs))) in
    rw (p.is, all-pack xs, ← e) (fair-told room (length (pack_of xs) % width) xs 0 outside 0 p.fair (spare-pack xs))

-- of an answer: if it accepts, its words are such
abbrev Tells : List ℕ → Outcome → Type 0
Tells text a = a.answer.number ≡ 0 → Parsed text a.answer.count (take (width * a.answer.count) a.events)

finished : (lim : Limits) (text lines events : List ℕ) → length text ≤ largest
    → let s = document_of text (capped_of lim) (start (length events) (capped_of lim).nesting) in Tells text (finish (length text) (length lines) (length events) s)
unfolding finish
finished lim text lines events len =
    let s = document_of text (capped_of lim) (start (length events) (capped_of lim).nesting) in
    let rest : List ℕ = replicate (length events - length s.evs) 0 in
    of-pick (Tells text) (eqb s.number 0)
    (outcome 0 (length text) (length s.evs / 8) s.looks (replicate (length lines) 0) (s.evs ++ rest))
    (outcome s.number s.at 0 0 (replicate (length lines) 0) (replicate (length events) 0))
    (λ e z. walked-parsed text rest s len (document-walks text (capped_of lim) (length events) (omega arith) (eqb-true s.number 0 e)))
    (λ e z. absurd (eqb-false s.number 0 e z))

-- what holds of the refusals before the walk and of what it leaves, if the text is no longer than it may be, holds of every answer
pub of-parse : (P : Outcome → Type 0) (lim : Limits) (text lines events : List ℕ) → P (outcome 1 0 0 0 lines events) → P (outcome 2 0 0 0 lines events)
    → (length text ≤ largest → P (finish (length text) (length lines) (length events) (document_of text (capped_of lim) (start (length events) (capped_of lim).nesting))))
    → P (parse_of largest lim text lines events)
unfolding parse_of split_of
of-parse P lim text lines events p q r =
    let Q : Split → Type 0 = λ x. P (parse_by (capped_of lim) text lines events x) in
    let n = length (lines_of text) in
    of-pick Q (ltb largest (length text)) (Err TextTooLong) (pick (ltb (length lines) (2 * n)) (Err LinesFull) (Ok n)) (λ e. p) (λ e.
    of-pick Q (ltb (length lines) (2 * n)) (Err LinesFull) (Ok n) (λ d. q) (λ d. r (ltb-false largest (length text) e)))

-- ---- for any limits of nesting and sections
parsed : (lim : Limits) (text lines events : List ℕ) → Tells text (parse_of largest lim text lines events)
parsed lim text lines events = of-parse (Tells text) lim text lines events (λ z. absurd (omega arith)) (λ z. absurd (omega arith)) (finished lim text lines events)

pub parse-sound : (lim : Limits) (text lines events : List ℕ) → let a = parse_of largest lim text lines events in a.answer.number ≡ 0 → Sound text (take (width * a.answer.count) a.events)
parse-sound lim text lines events z =
    let a = parse_of largest lim text lines events in
    parsed-sound text a.answer.count (take (width * a.answer.count) a.events) (parsed lim text lines events z)

pub parse-writes : (lim : Limits) (text lines events : List ℕ) (room : ℕ) → let a = parse_of largest lim text lines events in a.answer.number ≡ 0
    → let w = write_of (take (width * a.answer.count) a.events) room in (w.number ≡ 0) ⊎ (w.number ≡ 8)
parse-writes lim text lines events room z =
    let a = parse_of largest lim text lines events in
    ⊎_elim (λ h. inl h) (λ h. inr h.0) (written-told text a.answer.count (take (width * a.answer.count) a.events) room (parsed lim text lines events z))

pub parse-fits : (lim : Limits) (text lines events : List ℕ) (room : ℕ) → let a = parse_of largest lim text lines events in a.answer.number ≡ 0
    → let words = take (width * a.answer.count) a.events in length (image_of words) ≤ room → (write_of words room).number ≡ 0
parse-fits lim text lines events room z h =
    let a = parse_of largest lim text lines events in
    ⊎_elim (λ k. k) (λ k. absurd (omega (arith, k.1))) (written-told text a.answer.count (take (width * a.answer.count) a.events) room (parsed lim text lines events z))

-- the writer takes all of the parse's events, and the reader gives them back without the Stale ones
pub parse-returns : (lim : Limits) (text lines events bytes ws : List ℕ) → let a = parse_of largest lim text lines events in a.answer.number ≡ 0
    → let words = take (width * a.answer.count) a.events in length (image_of words) ≤ length bytes → length (live_in words) ≤ length ws / width
    → let stream = take (write_of words (length bytes)).count (written_of words bytes) in
    (write_of words (length bytes) ≡ moved 0 a.answer.count (length (image_of words)))
    × (read_of stream (length ws) ≡ moved 0 (length (image_of words)) (length (live_in words)))
    × (unpacked_of stream ws ≡ pack_of (live_in words) ++ replicate (length ws - width * length (live_in words)) 0)
parse-returns lim text lines events bytes ws z h k =
    let a = parse_of largest lim text lines events in
    let words = take (width * a.answer.count) a.events in
    let p = parsed lim text lines events z in
    let n : length (all_of words) ≡ a.answer.count = ap (λ (l : List Event). length l) (parsed-events text a.answer.count words p) ∙ p.all in
    let t = written-reads-buffers words bytes ws (subst (λ (l : List ℕ). Below 4294967296 l) (sym p.is) p.below) (parse-fits lim text lines events (length bytes) z h) k in
    (t.0 ∙ ap (λ (i : ℕ). moved 0 i (length (image_of words))) n, t.2, t.3)
