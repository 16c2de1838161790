-- What the exported functions return and leave in the lent words: their contracts' own text (Calls.antt) implies it. Assumes nothing.
use mathlib.Core.Path.{◌≡◌, sym, ap, ap₂, subst, ◌∙◌}
use mathlib.Core.List.{List, [], ◌∷◌, ◌++◌}
use Prim.Native.Nat.{ℕ, zero, ◌+◌, ◌-◌, ◌*◌, ◌/◌, ◌≤◌}
use lib.ListN.{length, get_or, take, drop, replicate}
use Rattle.lines.specs.Lines.{lines_of}
use Rattle.events.specs.Events.{width}
use Rattle.events.specs.Pack.{all_of, pack_of, live_in}
use Rattle.events.proofs.PackLaws.{Below}
use Rattle.events.specs.Names.{largest}
use Rattle.parse.specs.Parse.{limits, parse_of}
use Rattle.parse.specs.declared.Answer.{Answer}
use Rattle.records.specs.Records.{moved, stored_of, write_of, written_of, read_of, unpacked_of}
use Rattle.records.specs.Moved.{Moved}
use Rattle.records.proofs.Trips.{image_of, written-reads-buffers, read-writes-buffers}
use Rattle.editions.specs.declared.Change.{Change}
use Rattle.tolphaneap.specs.Answers.{moved_words, change_words}
use Rattle.theorems.specs.Changed.{Compared}
use Rattle.theorems.specs.Deepest.{deepest_of}
use Rattle.theorems.specs.Sound.{Sound}
use Rattle.theorems.proofs.Looks.{parse-looks}
use Rattle.theorems.proofs.Sound.{parse-sound, parse-returns}
use Rattle.theorems.proofs.NeverLaws.{never-seven}
use Rattle.theorems.proofs.Editions.{compared}
use Rattle.theorems.proofs.Calls.{Parses, parse-says, Writes, write-says, Reads, read-says, Compares, compare-says}
use Rattle.theorems.proofs.Calls.{CParses, c-parse-is, CWrites, c-write-is, CReads, c-read-is, CChanges, c-changes-is}

-- the events in words without the Stale ones, and zeros in what else of ws was lent
abbrev held_in : List ℕ → List ℕ → List ℕ
held_in ws words = pack_of (live_in words) ++ replicate (length ws - width * length (live_in words)) 0

-- a page of so many events, written and then read, with room for the stream and for the events: all is taken, and its events come back without the Stale ones
abbrev pub Returns : (count : ℕ) (page : List ℕ) → Type 0
Returns count page =
    (bytes : List ℕ) (w : Moved) (bytes' : List ℕ) → Writes page bytes w bytes' → (ws : List ℕ) (r : Moved) (ws' : List ℕ) → Reads (take w.count bytes') ws r ws'
    → length (image_of page) ≤ length bytes → length (live_in page) ≤ length ws / width
    → (w ≡ moved 0 count (length (image_of page))) × (r ≡ moved 0 (length (image_of page)) (length (live_in page))) × (ws' ≡ held_in ws page)

-- what holds of the definitions of writing and reading holds of what the two functions return and leave
read-on : (words bytes : List ℕ) (w : Moved) (bytes' : List ℕ) → Writes words bytes w bytes' → (ws : List ℕ) (r : Moved) (ws' : List ℕ) → Reads (take w.count bytes') ws r ws'
    → (m n : Moved) (l : List ℕ) → let stream = take (write_of words (length bytes)).count (written_of words bytes) in
    (write_of words (length bytes) ≡ m) × (read_of stream (length ws) ≡ n) × (unpacked_of stream ws ≡ l) → (w ≡ m) × (r ≡ n) × (ws' ≡ l)
read-on words bytes w bytes' write ws r ws' read m n l t =
    let (p, q) = (write-says words bytes w bytes').0 write in
    let (s, u) = (read-says (take w.count bytes') ws r ws').0 read in
    let e = ap₂ (λ (v : Moved) (k : List ℕ). take v.count k) p q in
    (p ∙ t.0, s ∙ ap (λ (k : List ℕ). read_of k (length ws)) e ∙ t.1, u ∙ ap (λ (k : List ℕ). unpacked_of k ws) e ∙ t.2)

-- ---- `parse`
module _ (text lines events : List ℕ) (r : Answer) (lines' events' : List ℕ) (call : Parses text lines events r lines' events') where
  -- an accepted text's events, as many as the answer counts, are sound
  pub returned-sound : r.number ≡ 0 → Sound text (take (width * r.count) events')
  returned-sound z =
      let (a, l, e) = (parse-says text lines events r lines' events').0 call in
      rw (a, e) (parse-sound limits text lines events (ap (λ (y : Answer). y.number) (sym a) ∙ z))

  -- the looks told are bounded by the lines and the nesting
  pub returned-looks : r.looks ≤ 3 * length (lines_of text) * (deepest_of text limits (length events) + 1)
  returned-looks =
      let (a, l, e) = (parse-says text lines events r lines' events').0 call in
      rw a (parse-looks largest limits text lines events)

  -- refusal 7 is never told
  pub returned-never : r.number ≡ 7 → ⊥
  returned-never z =
      let (a, l, e) = (parse-says text lines events r lines' events').0 call in
      never-seven limits text lines events (ap (λ (y : Answer). y.number) (sym a) ∙ z)

  -- an accepted page can be stored and read again
  pub returned-returns : r.number ≡ 0 → Returns r.count (take (width * r.count) events')
  returned-returns z =
      let (a, l, e) = (parse-says text lines events r lines' events').0 call in
      rw (a, e) (λ bytes w bytes' write ws r ws' read h k.
      let o = parse_of largest limits text lines events in
      let page = take (width * o.answer.count) o.events in
      let t = parse-returns limits text lines events bytes ws (ap (λ (y : Answer). y.number) (sym a) ∙ z) h k in
      read-on page bytes w bytes' write ws r ws' read _ _ _ t)

-- ---- `write`, then `read` of as many bytes as were told
module _ (words bytes : List ℕ) (w : Moved) (bytes' : List ℕ) (write : Writes words bytes w bytes') (ws : List ℕ) (r : Moved) (ws' : List ℕ) (read : Reads (take w.count bytes') ws r ws') where
  -- the events come back without the Stale ones; the writer took all events, and the reader all bytes (a word is below 4294967296)
  pub returned-reads : Below 4294967296 words → w.number ≡ 0 → length (live_in words) ≤ length ws / width
      → (w ≡ moved 0 (length (all_of words)) (length (image_of words))) × (r ≡ moved 0 (length (image_of words)) (length (live_in words))) × (ws' ≡ held_in ws words)
  returned-reads b z h =
      let (p, q) = (write-says words bytes w bytes').0 write in
      let t = written-reads-buffers words bytes ws b (ap (λ (m : Moved). m.number) (sym p) ∙ z) h in
      read-on words bytes w bytes' write ws r ws' read _ _ _ (t.0, t.2, t.3)

-- ---- `read`, then `write` of as many events as were told
module _ (bytes ws : List ℕ) (r : Moved) (ws' : List ℕ) (read : Reads bytes ws r ws') (out : List ℕ) (w : Moved) (out' : List ℕ) (write : Writes (take (width * r.count) ws') out w out') where
  -- the same bytes come back; the reader took all bytes, and the writer all events (a byte is below 256)
  pub returned-writes : Below 256 bytes → r.number ≡ 0 → length bytes ≤ length out
      → (r ≡ moved 0 (length bytes) (length (stored_of zero bytes))) × (w ≡ moved 0 (length (stored_of zero bytes)) (length bytes)) × (out' ≡ bytes ++ drop (length bytes) out)
  returned-writes b z h =
      let (p, q) = (read-says bytes ws r ws').0 read in
      let (s, u) = (write-says (take (width * r.count) ws') out w out').0 write in
      let t = read-writes-buffers bytes ws out b (ap (λ (m : Moved). m.number) (sym p) ∙ z) h in
      let e = ap₂ (λ (m : Moved) (l : List ℕ). take (width * m.count) l) p q in
      (p ∙ t.0, s ∙ ap (λ (l : List ℕ). write_of l (length out)) e ∙ t.2, u ∙ ap (λ (l : List ℕ). written_of l out) e ∙ t.3)

-- ---- `compare`
module _ (older og newer ng lines events : List ℕ) (r : Change) (lines' events' : List ℕ) (call : Compares older og newer ng lines events r lines' events') where
  -- an answer that is no refusal is the part that changed
  pub returned-compared : r.number ≡ 0 → Compared limits (length lines) (length events) older og newer ng r
  returned-compared z =
      let (p, l, e) = (compare-says older og newer ng lines events r lines' events').0 call in
      rw p (compared limits (length lines) (length events) older og newer ng (ap (λ (c : Change). c.number) (sym p) ∙ z))

  -- after any answer all lent words are zero
  pub returned-wiped : (lines' ≡ replicate (length lines) 0) × (events' ≡ replicate (length events) 0)
  returned-wiped = let (p, l, e) = (compare-says older og newer ng lines events r lines' events').0 call in (l, e)

-- ---- the same of the interface for other languages: answers are words, number first
-- `Returns`, with the answers as words
abbrev pub CReturns : (count : ℕ) (page : List ℕ) → Type 0
CReturns count page =
    (bytes wrote bytes' : List ℕ) → CWrites page bytes wrote bytes' → (ws got ws' : List ℕ) → CReads (take (get_or wrote 2 0) bytes') ws got ws'
    → length (image_of page) ≤ length bytes → length (live_in page) ≤ length ws / width
    → (wrote ≡ 0 ∷ count ∷ length (image_of page) ∷ []) × (got ≡ 0 ∷ length (image_of page) ∷ length (live_in page) ∷ []) × (ws' ≡ held_in ws page)

c-returns : (count : ℕ) (page : List ℕ) → Returns count page → CReturns count page
c-returns count page f bytes wrote bytes' write ws got ws' read h k =
    let (v, p, s) = (c-write-is page bytes wrote bytes').0 write in
    let (u, q, t) = (c-read-is (take (get_or wrote 2 0) bytes') ws got ws').0 read in
    let e = f bytes v bytes' p ws u ws' (subst (λ (l : List ℕ). Reads (take (get_or l 2 0) bytes') ws u ws') s q) h k in
    (s ∙ ap moved_words e.0, t ∙ ap moved_words e.1, e.2)

-- `tolphaneap_parse`
module _ (text lines events answer' lines' events' : List ℕ) (call : CParses text lines events answer' lines' events') where
  -- an accepted text's events, as many as the third word counts, are sound
  pub c-returned-sound : get_or answer' 0 0 ≡ 0 → Sound text (take (width * get_or answer' 2 0) events')
  c-returned-sound z =
      let (r, p, w) = (c-parse-is text lines events answer' lines' events').0 call in
      rw w (returned-sound text lines events r lines' events' p (rw w at z))

  -- the fourth word, the looks, is bounded by the lines and the nesting
  pub c-returned-looks : get_or answer' 3 0 ≤ 3 * length (lines_of text) * (deepest_of text limits (length events) + 1)
  c-returned-looks =
      let (r, p, w) = (c-parse-is text lines events answer' lines' events').0 call in
      rw w (returned-looks text lines events r lines' events' p)

  -- the first word is never 7
  pub c-returned-never : get_or answer' 0 0 ≡ 7 → ⊥
  c-returned-never z =
      let (r, p, w) = (c-parse-is text lines events answer' lines' events').0 call in
      returned-never text lines events r lines' events' p (rw w at z)

  -- an accepted page can be stored and read again
  pub c-returned-returns : get_or answer' 0 0 ≡ 0 → CReturns (get_or answer' 2 0) (take (width * get_or answer' 2 0) events')
  c-returned-returns z =
      let (r, p, w) = (c-parse-is text lines events answer' lines' events').0 call in
      let f = returned-returns text lines events r lines' events' p (rw w at z) in
      subst (λ (l : List ℕ). CReturns (get_or l 2 0) (take (width * get_or l 2 0) events')) (sym w) (c-returns r.count (take (width * r.count) events') f)

-- `tolphaneap_write`, then `tolphaneap_read` of as many bytes as were told
module _ (words bytes wrote bytes' : List ℕ) (write : CWrites words bytes wrote bytes') (ws got ws' : List ℕ) (read : CReads (take (get_or wrote 2 0) bytes') ws got ws') where
  -- the events come back without the Stale ones; the writer took all events, and the reader all bytes
  pub c-returned-reads : Below 4294967296 words → get_or wrote 0 0 ≡ 0 → length (live_in words) ≤ length ws / width
      → (wrote ≡ 0 ∷ length (all_of words) ∷ length (image_of words) ∷ []) × (got ≡ 0 ∷ length (image_of words) ∷ length (live_in words) ∷ []) × (ws' ≡ held_in ws words)
  c-returned-reads b z h =
      let (v, p, s) = (c-write-is words bytes wrote bytes').0 write in
      let (u, q, t) = (c-read-is (take (get_or wrote 2 0) bytes') ws got ws').0 read in
      let k = subst (λ (l : List ℕ). Reads (take (get_or l 2 0) bytes') ws u ws') s q in
      let e = returned-reads words bytes v bytes' p ws u ws' k b (rw s at z) h in
      (s ∙ ap moved_words e.0, t ∙ ap moved_words e.1, e.2)

-- `tolphaneap_read`, then `tolphaneap_write` of as many events as were told
module _ (bytes ws got ws' : List ℕ) (read : CReads bytes ws got ws') (out wrote out' : List ℕ) (write : CWrites (take (width * get_or got 2 0) ws') out wrote out') where
  -- the same bytes come back; the reader took all bytes, and the writer all events
  pub c-returned-writes : Below 256 bytes → get_or got 0 0 ≡ 0 → length bytes ≤ length out
      → (got ≡ 0 ∷ length bytes ∷ length (stored_of zero bytes) ∷ []) × (wrote ≡ 0 ∷ length (stored_of zero bytes) ∷ length bytes ∷ []) × (out' ≡ bytes ++ drop (length bytes) out)
  c-returned-writes b z h =
      let (u, q, t) = (c-read-is bytes ws got ws').0 read in
      let (v, p, s) = (c-write-is (take (width * get_or got 2 0) ws') out wrote out').0 write in
      let k = subst (λ (l : List ℕ). Writes (take (width * get_or l 2 0) ws') out v out') t p in
      let e = returned-writes bytes ws u ws' q out v out' k b (rw t at z) h in
      (t ∙ ap moved_words e.0, s ∙ ap moved_words e.1, e.2)

-- `tolphaneap_changes`
module _ (older og newer ng lines events answer' lines' events' : List ℕ) (call : CChanges older og newer ng lines events answer' lines' events') where
  -- the words of an answer that is no refusal are those of the part that changed
  pub c-returned-compared : get_or answer' 0 0 ≡ 0 → (r : Change) × Compared limits (length lines) (length events) older og newer ng r × (answer' ≡ change_words r)
  c-returned-compared z =
      let (r, p, w) = (c-changes-is older og newer ng lines events answer' lines' events').0 call in
      (r, returned-compared older og newer ng lines events r lines' events' p (rw w at z), w)

  -- after any answer all lent words are zero
  pub c-returned-wiped : (lines' ≡ replicate (length lines) 0) × (events' ≡ replicate (length events) 0)
  c-returned-wiped =
      let (r, p, w) = (c-changes-is older og newer ng lines events answer' lines' events').0 call in
      returned-wiped older og newer ng lines events r lines' events' p
