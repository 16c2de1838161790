-- Events measured as lines, and their lines put: one law a turn, one for each return. Assumes nothing.
use Prim.Native.Nat.{ℕ, suc, ◌+◌, ◌-◌, ◌*◌, ◌/◌, ◌≤◌, ◌<◌}
use mathlib.Core.Path.{◌≡◌, refl, sym, ap, ◌∙◌}
use mathlib.Core.Bool.{Bool, true, false}
use mathlib.Core.List.{List, [], ◌∷◌, ◌++◌}
use native.Mathlib.Nat.{add-zero, zero-add}
use native.Mathlib.Omega.{arith}
use lib.Dec.{eqb, ltb}
use lib.ListN.{length, drop, length-append}
use lib.Seq.{sets, sets-eq, length-sets}
use borrow.Author.Tests.{eq-eqb, ne_eqb, lt-ltb, le-ltb, ltb-false, eqb-false}
use Rattle.classes.specs.Choice.{pick}
use Rattle.events.specs.Events.{width}
use Rattle.events.specs.Pack.{event_in, all_of}
use Rattle.events.specs.declared.Event.{Event}
use Rattle.events.proofs.PackLaws.{rest_of, rest-start, rest-next, rest_end, events-length}
use Rattle.records.specs.Records.{moved, write_of}
use Rattle.records.specs.Moved.{Moved}
use Rattle.entries.specs.Entries.{looks_line, refused_line}
use Rattle.listing.specs.Listing.{boundless, line_in, lines_in, fit_of, list_of, listed_of, page_text, last_of, page_of, paged_of}

-- ---- events in words
-- how many events the words have
abbrev pub total : List ℕ → ℕ
total ws = length ws / width

-- from the front on: what is stored, and what was behind it
pub sets-front : (out vs : List ℕ) → length vs ≤ length out → sets out 0 vs ≡ vs ++ drop (length vs) out
sets-front out vs h =
    let e : 0 + length vs ≡ length vs = zero-add (length vs) in
    sets-eq vs out 0 (omega (arith, h)) ∙ rw e

-- ---- measuring
-- what is left gives the same answer
pub record Fitting (mode : ℕ) (words : List ℕ) (room i size : ℕ) : Type 0 where
  pub high : i ≤ total words
  pub within : size ≤ room
  pub same : list_of mode words room ≡ fit_of mode room (rest_of words i) i size

pub fit_refused : (mode : ℕ) (words : List ℕ) (room : ℕ) (a : Moved) → a ≡ write_of words boundless → (a.number ≡ 0 → ⊥) → a ≡ list_of mode words room
unfolding list_of
fit_refused mode words room a e h = sym (rw (← e, ne_eqb a.number 0 h))

pub fit-start : (mode : ℕ) (words : List ℕ) (room : ℕ) (a : Moved) → a ≡ write_of words boundless → a.number ≡ 0 → Fitting mode words room 0 0
unfolding list_of
fit-start mode words room a e h =
    record { high = omega arith; within = omega arith; same = rw (← e, eq-eqb a.number 0 h, rest-start words) }

module _ (mode : ℕ) (words : List ℕ) (room i size n : ℕ) (e : n ≡ length (line_in mode (event_in words (i * width)))) (h : i < total words) (f : Fitting mode words room i size) where
  pub fit-turn : n ≤ room - size → Fitting mode words room (i + 1) (size + n)
  unfolding fit_of
  fit-turn g =
      let w = f.within in
      record {
        high = omega arith;
        within = omega arith;
        same = f.same ∙ rw (rest-next words i h (event_in words (i * width)) refl, ← e, le-ltb room (size + n) (omega arith));
      }

  pub fit_none : room - size < n → moved 8 i 0 ≡ list_of mode words room
  unfolding fit_of
  fit_none g =
      let w = f.within in
      sym (f.same ∙ rw (rest-next words i h (event_in words (i * width)) refl, ← e, lt-ltb room (size + n) (omega arith)))

pub fit-end : (mode : ℕ) (words : List ℕ) (room i size : ℕ) → total words ≤ i → Fitting mode words room i size → moved 0 (total words) size ≡ list_of mode words room
unfolding fit_of
fit-end mode words room i size h f =
    let l = f.high in
    let e : i ≡ total words = omega arith in
    sym (f.same ∙ rw (rest_end words i h, e))

-- ---- an answer 0: all lines have room
fit-head : (mode room : ℕ) (x : Event) (xs : List Event) (i size : ℕ) → (fit_of mode room (x ∷ xs) i size).number ≡ 0
    → (size + length (line_in mode x) ≤ room) × (fit_of mode room (x ∷ xs) i size ≡ fit_of mode room xs (i + 1) (size + length (line_in mode x)))
unfolding fit_of
fit-head mode room x xs i size = by-room (ltb room more) refl
  where
    more : ℕ
    more = size + length (line_in mode x)

    next : Moved
    next = fit_of mode room xs (i + 1) more

    by-room : (b : Bool) → ltb room more ≡ b → (pick b (moved 8 i 0) next).number ≡ 0 → (more ≤ room) × (pick b (moved 8 i 0) next ≡ next)
    by-room true e p = absurd (omega (arith, p))
    by-room false e p = (ltb-false room more e, refl)

fit-lines : (mode room : ℕ) (xs : List Event) (i size : ℕ) → size ≤ room → (fit_of mode room xs i size).number ≡ 0
    → (fit_of mode room xs i size ≡ moved 0 (i + length xs) (size + length (lines_in mode xs))) × (size + length (lines_in mode xs) ≤ room)
unfolding fit_of lines_in
fit-lines mode room [] i size h p = (rw (add-zero i, add-zero size), omega arith)
fit-lines mode room (x ∷ xs) i size h p =
    let f = fit-head mode room x xs i size p in
    let r = fit-lines mode room xs (i + 1) (size + length (line_in mode x)) f.0 (ap (λ (m : Moved). m.number) (sym f.1) ∙ p) in
    let n : length (line_in mode x ++ lines_in mode xs) ≡ length (line_in mode x) + length (lines_in mode xs) = length-append (line_in mode x) (lines_in mode xs) in
    let k : i + suc (length xs) ≡ i + 1 + length xs = omega arith in
    let s : size + length (line_in mode x ++ lines_in mode xs) ≡ size + length (line_in mode x) + length (lines_in mode xs) = omega (arith, n) in
    (f.1 ∙ r.0 ∙ rw (k, s), omega (arith, s, r.1))

list-head : (a lines : Moved) → (pick (eqb a.number 0) lines a).number ≡ 0 → pick (eqb a.number 0) lines a ≡ lines
list-head a lines = by_number (eqb a.number 0) refl
  where
    by_number : (b : Bool) → eqb a.number 0 ≡ b → (pick b lines a).number ≡ 0 → pick b lines a ≡ lines
    by_number true e p = refl
    by_number false e p = absurd (eqb-false a.number 0 e p)

-- the bytes of all lines
abbrev pub bytes_in : ℕ → List ℕ → ℕ
bytes_in mode words = length (lines_in mode (all_of words))

pub list-lines : (mode : ℕ) (words : List ℕ) (room : ℕ) → (list_of mode words room).number ≡ 0
    → (list_of mode words room ≡ moved 0 (total words) (bytes_in mode words)) × (bytes_in mode words ≤ room)
unfolding list_of
list-lines mode words room p =
    let e = list-head (write_of words boundless) (fit_of mode room (all_of words) 0 0) p in
    let f = fit-lines mode room (all_of words) 0 0 (omega arith) (ap (λ (m : Moved). m.number) (sym e) ∙ p) in
    let n : 0 + length (all_of words) ≡ total words = zero-add (length (all_of words)) ∙ events-length (total words) words in
    (e ∙ f.0 ∙ rw (n, zero-add (bytes_in mode words)), omega (arith, f.1))

-- ---- the events' listing
module _ (mode : ℕ) (words out : List ℕ) (a : Moved) (e : a ≡ list_of mode words (length out)) where
  pub list_left : (a.number ≡ 0 → ⊥) → out ≡ listed_of mode words out
  unfolding listed_of
  list_left h = sym (rw (← e, ne_eqb a.number 0 h))

  module _ (h : a.number ≡ 0) where
    listed : (list_of mode words (length out) ≡ moved 0 (total words) (bytes_in mode words)) × (bytes_in mode words ≤ length out)
    listed = list-lines mode words (length out) (ap (λ (m : Moved). m.number) (sym e) ∙ h)

    pub list-room : bytes_in mode words ≤ length out
    list-room = listed.1

    pub list_count : a.count ≤ length out
    list_count = let k : a.count ≡ bytes_in mode words = ap (λ (m : Moved). m.count) (e ∙ listed.0) in omega (arith, k, list-room)

    pub list_put : (now : List ℕ) → now ≡ sets out 0 (lines_in mode (all_of words)) → now ≡ listed_of mode words out
    unfolding listed_of
    list_put now q = q ∙ sets-front out (lines_in mode (all_of words)) list-room ∙ sym (rw (← e, eq-eqb a.number 0 h))

-- ---- a page
-- an answer, and the bytes with it
abbrev pub Answered : ℕ → ℕ → ℕ → ℕ → List ℕ → List ℕ → Moved → List ℕ → Type 0
Answered mode number position looks words out r now =
    (r ≡ page_of mode number position looks words (length out)) × (now ≡ paged_of mode number position looks words out)

module _ (mode number position looks : ℕ) (words out : List ℕ) (r : Moved) (e : r ≡ page_of mode number position looks words (length out)) where
  -- a refusal leaves the bytes as found
  page-left : (r.number ≡ 0 → ⊥) → Answered mode number position looks words out r out
  unfolding paged_of
  page-left h = (e, sym (rw (← e, ne_eqb r.number 0 h)))

  -- else its text stands first
  page-set : (now text : List ℕ) → r.number ≡ 0 → text ≡ page_text mode number position looks words → length text ≤ length out → now ≡ sets out 0 text
      → Answered mode number position looks words out r now
  unfolding paged_of
  page-set now text h t g q = (e, q ∙ sets-front out text g ∙ sym (rw (← e, eq-eqb r.number 0 h, ← t)))

-- a refused parse: whatever its looks and words
abbrev pub Alone : ℕ → ℕ → List ℕ → Moved → List ℕ → Type 0
Alone number position out r now =
    ((mode looks : ℕ) (words : List ℕ) → r ≡ page_of mode number position looks words (length out))
    × ((mode looks : ℕ) (words : List ℕ) → now ≡ paged_of mode number position looks words out)

alone : (number position : ℕ) (out : List ℕ) (r : Moved) (now : List ℕ)
    → ((mode looks : ℕ) (words : List ℕ) → Answered mode number position looks words out r now) → Alone number position out r now
alone number position out r now f = (λ mode looks words. (f mode looks words).0, λ mode looks words. (f mode looks words).1)

module _ (number position : ℕ) (out : List ℕ) (n : ℕ) (e : n ≡ length (refused_line number position)) (h : number ≡ 0 → ⊥) where
  pub alone-none : length out < n → Alone number position out (moved 8 0 0) out
  unfolding page_of
  alone-none g =
      let r : (mode looks : ℕ) (words : List ℕ) → moved 8 0 0 ≡ page_of mode number position looks words (length out) =
      λ mode looks words. sym (rw (ne_eqb number 0 h, ← e, lt-ltb (length out) n g)) in
      alone number position out (moved 8 0 0) out
      (λ mode looks words. page-left mode number position looks words out (moved 8 0 0) (r mode looks words) (λ p. omega (arith, p)))

  pub alone-put : (now : List ℕ) → n ≤ length out → now ≡ sets out 0 (refused_line number position) → Alone number position out (moved 0 0 n) now
  unfolding page_of page_text
  alone-put now g q =
      let c = n in
      let f : length (refused_line number position) ≡ c = sym e in
      let l : c ≤ length out = g in
      let t : (mode looks : ℕ) (words : List ℕ) → refused_line number position ≡ page_text mode number position looks words =
      λ mode looks words. sym (rw (ne_eqb number 0 h)) in
      let r : (mode looks : ℕ) (words : List ℕ) → moved 0 0 c ≡ page_of mode number position looks words (length out) =
      λ mode looks words. sym (rw (ne_eqb number 0 h, f, le-ltb (length out) c l)) in
      alone number position out (moved 0 0 c) now
      (λ mode looks words. page-set mode number position looks words out (moved 0 0 c) (r mode looks words) now _ refl (t mode looks words) (omega (arith, e)) q)

module _ (mode number position looks : ℕ) (words out : List ℕ) (z : number ≡ 0) (a : Moved) (e : a ≡ list_of mode words (length out)) where
  pub page-refused : (a.number ≡ 0 → ⊥) → Answered mode number position looks words out a out
  unfolding page_of last_of
  page-refused h = page-left mode number position looks words out a (sym (rw (eq-eqb number 0 z, ← e, ne_eqb a.number 0 h))) h

  module _ (h : a.number ≡ 0) (n : ℕ) (k : n ≡ length (looks_line looks)) where
    all : list_of mode words (length out) ≡ moved 0 (total words) (bytes_in mode words)
    all = (listed mode words out a e h).0

    room : bytes_in mode words ≤ length out
    room = list-room mode words out a e h

    counted : a.count ≡ bytes_in mode words
    counted = ap (λ (m : Moved). m.count) (e ∙ all)

    pub page-events : a.position ≡ total words
    page-events = ap (λ (m : Moved). m.position) (e ∙ all)

    pub page-none : length out - a.count < n → Answered mode number position looks words out (moved 8 (total words) 0) out
    unfolding page_of last_of
    page-none g =
        let f : length out < bytes_in mode words + n = omega (arith, counted, room) in
        page-left mode number position looks words out (moved 8 (total words) 0)
        (sym (rw (eq-eqb number 0 z, all, ← k, lt-ltb (length out) (bytes_in mode words + n) f))) (λ p. omega (arith, p))

    module _ (g : n ≤ length out - a.count) where
      fits : bytes_in mode words + length (looks_line looks) ≤ length out
      fits = omega (arith, counted, room)

      pub page-room : length (lines_in mode (all_of words) ++ looks_line looks) ≤ length out
      page-room = omega (arith, fits, length-append (lines_in mode (all_of words)) (looks_line looks))

      pub page-put : (c : ℕ) (now : List ℕ) → c ≡ 0 + length (lines_in mode (all_of words) ++ looks_line looks) → now ≡ sets out 0 (lines_in mode (all_of words) ++ looks_line looks)
          → Answered mode number position looks words out (moved 0 (total words) c) now
      unfolding page_of last_of page_text
      page-put c now d w =
          let text : List ℕ = lines_in mode (all_of words) ++ looks_line looks in
          let t : text ≡ page_text mode number position looks words = sym (rw (eq-eqb number 0 z)) in
          let f : bytes_in mode words + length (looks_line looks) ≡ c = omega (arith, d, length-append (lines_in mode (all_of words)) (looks_line looks)) in
          let r : moved 0 (total words) c ≡ page_of mode number position looks words (length out) =
          sym (rw (eq-eqb number 0 z, all, f, le-ltb (length out) c (omega (arith, f, fits)))) in
          page-set mode number position looks words out (moved 0 (total words) c) r now text refl t page-room w
