-- A call of `parse`, `write`, `read`, `list`, `page`, `compare` and of each function for C, over plain lists: what its contract's own text admits at some references to them, and that this is its definition.
-- Assumes nothing.
use mathlib.Core.Path.{◌≡◌, refl, sym, ap, ◌∙◌}
use mathlib.Core.Logic.{◌↔◌}
use mathlib.Core.List.{List, []}
use Prim.Native.Nat.{ℕ, zero, suc}
use contract.Lifetimes.{Lfts}
use denote.Bor.{Bor}
use denote.MutBor.{MutBor}
use lib.ListN.{length, get_or, replicate}
use Rattle.events.specs.Names.{largest}
use Rattle.parse.specs.Parse.{limits, parse_of}
use Rattle.parse.specs.declared.Answer.{Answer}
use Rattle.records.specs.Records.{write_of, written_of, read_of, unpacked_of}
use Rattle.records.specs.Moved.{Moved, told}
use Rattle.listing.specs.Listing.{list_of, listed_of, page_of, paged_of}
use Rattle.editions.specs.Editions.{change_of}
use Rattle.editions.specs.declared.Change.{Change}
use Rattle.tolphaneap.specs.Answers.{answer_words, moved_words, change_words}
use Rattle.parse.proofs.parse.Reads.{Post as Parse}
use Rattle.records.proofs.write.Reads.{Post as Write}
use Rattle.records.proofs.read.Reads.{Post as Read}
use Rattle.listing.proofs.list.Reads.{Post as List'}
use Rattle.listing.proofs.page.Reads.{Post as Page}
use Rattle.editions.proofs.compare.Reads.{Post as Compare}
use Rattle.tolphaneap.proofs.tolphaneap_parse.Reads.{Post as CParse}
use Rattle.tolphaneap.proofs.tolphaneap_write.Reads.{Post as CWrite}
use Rattle.tolphaneap.proofs.tolphaneap_read.Reads.{Post as CRead}
use Rattle.tolphaneap.proofs.tolphaneap_list.Reads.{Post as CList}
use Rattle.tolphaneap.proofs.tolphaneap_page.Reads.{Post as CPage}
use Rattle.tolphaneap.proofs.tolphaneap_changes.Reads.{Post as CChange}
use Rattle.theorems.proofs.Told.{write-told, read-told, list-told, page-told}

-- some lifetimes, and a reference to a value, shared and exclusive
abbrev some : (n : ℕ) → Lfts n
some zero = tt
some (suc n) = ([], some n)

abbrev ref : {X : Type 0} → X → Bor X
ref v = record { ref_ptr = (0, 0); now = v }

abbrev lent : {X : Type 0} → X → MutBor X
lent v = record { ref_ptr = (0, 0); ghost_name = 0; now = v }

-- ---- the library
-- `parse`, lent text, lines and events, may answer r and leave lines' and events'
abbrev pub Parses : (text lines events : List ℕ) (r : Answer) (lines' events' : List ℕ) → Type 0
Parses text lines events r lines' events' =
    (κs : _) × (a : _) × (x : _) × Parse κs a r x
    × (a.0.now ≡ text) × (a.1.0.now ≡ lines) × (a.1.1.0.now ≡ events) × (x.1.0.now ≡ lines') × (x.1.1.0.now ≡ events')

pub parse-says : (text lines events : List ℕ) (r : Answer) (lines' events' : List ℕ) → let o = parse_of largest limits text lines events in
    Parses text lines events r lines' events' ↔ ((r ≡ o.answer) × (lines' ≡ o.lines) × (events' ≡ o.events))
parse-says text lines events r lines' events' = (
  λ (κs, a, x, p, t, l, e, l', e'). rw (← t, ← l, ← e, ← l', ← e') (p.0, p.1.0, p.1.1),
  λ (p, q, s). (some 3, (ref text, (lent lines, (lent events, tt))), (ref text, (lent lines', (lent events', tt))), (p, (q, s)), refl, refl, refl, refl, refl),
)

-- `write`, lent words and bytes, may answer what says r and leave bytes'
abbrev pub Writes : (words bytes : List ℕ) (r : Moved) (bytes' : List ℕ) → Type 0
Writes words bytes r bytes' = (κs : _) × (a : _) × (q : _) × (x : _) × Write κs a q x × (r ≡ told q) × (a.0.now ≡ words) × (a.1.0.now ≡ bytes) × (x.1.0.now ≡ bytes')

pub write-says : (words bytes : List ℕ) (r : Moved) (bytes' : List ℕ) → Writes words bytes r bytes' ↔ ((r ≡ write_of words (length bytes)) × (bytes' ≡ written_of words bytes))
write-says words bytes r bytes' = (
  λ (κs, a, q, x, p, t, w, b, b'). rw (← w, ← b, ← b') (t ∙ p.0, p.1),
  λ (p, b).
      let (q, t) = write-told words (length bytes) in
      (some 2, (ref words, (lent bytes, tt)), q, (ref words, (lent bytes', tt)), (t, b), p ∙ sym t, refl, refl, refl),
)

-- `read`, lent bytes and words, may answer what says r and leave words'
abbrev pub Reads : (bytes words : List ℕ) (r : Moved) (words' : List ℕ) → Type 0
Reads bytes words r words' = (κs : _) × (a : _) × (q : _) × (x : _) × Read κs a q x × (r ≡ told q) × (a.0.now ≡ bytes) × (a.1.0.now ≡ words) × (x.1.0.now ≡ words')

pub read-says : (bytes words : List ℕ) (r : Moved) (words' : List ℕ) → Reads bytes words r words' ↔ ((r ≡ read_of bytes (length words)) × (words' ≡ unpacked_of bytes words))
read-says bytes words r words' = (
  λ (κs, a, q, x, p, t, b, w, w'). rw (← b, ← w, ← w') (t ∙ p.0, p.1),
  λ (p, w).
      let (q, t) = read-told bytes (length words) in
      (some 2, (ref bytes, (lent words, tt)), q, (ref bytes, (lent words', tt)), (t, w), p ∙ sym t, refl, refl, refl),
)

-- `list`, given a mode and lent words and out, may answer what says r and leave out'
abbrev pub Lists : (mode : ℕ) (words out : List ℕ) (r : Moved) (out' : List ℕ) → Type 0
Lists mode words out r out' =
    (κs : _) × (a : _) × (q : _) × (x : _) × List' κs a q x × (r ≡ told q) × (a.0 ≡ mode) × (a.1.0.now ≡ words) × (a.1.1.0.now ≡ out) × (x.1.1.0.now ≡ out')

pub list-says : (mode : ℕ) (words out : List ℕ) (r : Moved) (out' : List ℕ)
    → Lists mode words out r out' ↔ ((r ≡ list_of mode words (length out)) × (out' ≡ listed_of mode words out))
list-says mode words out r out' = (
  λ (κs, a, q, x, p, t, m, w, o, o'). rw (← m, ← w, ← o, ← o') (t ∙ p.0, p.1),
  λ (p, o).
      let (q, t) = list-told mode words (length out) in
      (some 2, (mode, (ref words, (lent out, tt))), q, (mode, (ref words, (lent out', tt))), (t, o), p ∙ sym t, refl, refl, refl, refl),
)

-- `page`, given a mode, a parse's number, position and looks and lent words and out, may answer what says r and leave out'
abbrev pub Pages : (mode number position looks : ℕ) (words out : List ℕ) (r : Moved) (out' : List ℕ) → Type 0
Pages mode number position looks words out r out' =
    (κs : _) × (a : _) × (q : _) × (x : _) × Page κs a q x
    × (r ≡ told q) × (a.0 ≡ mode) × (a.1.0 ≡ number) × (a.1.1.0 ≡ position) × (a.1.1.1.0 ≡ looks)
    × (a.1.1.1.1.0.now ≡ words) × (a.1.1.1.1.1.0.now ≡ out) × (x.1.1.1.1.1.0.now ≡ out')

pub page-says : (mode number position looks : ℕ) (words out : List ℕ) (r : Moved) (out' : List ℕ)
    → Pages mode number position looks words out r out'
    ↔ ((r ≡ page_of mode number position looks words (length out)) × (out' ≡ paged_of mode number position looks words out))
page-says mode number position looks words out r out' = (
  λ (κs, a, q, x, p, t, m, n, i, l, w, o, o'). rw (← m, ← n, ← i, ← l, ← w, ← o, ← o') (t ∙ p.0, p.1),
  λ (p, o).
      let (q, t) = page-told mode number position looks words (length out) in (
        some 2,
        (mode, (number, (position, (looks, (ref words, (lent out, tt)))))),
        q,
        (mode, (number, (position, (looks, (ref words, (lent out', tt)))))),
        (t, o),
        p ∙ sym t,
        refl,
        refl,
        refl,
        refl,
        refl,
        refl,
        refl,
      ),
)

-- `compare`, lent two texts with their events, lines and events, may answer r and leave lines' and events'
abbrev pub Compares : (older og newer ng lines events : List ℕ) (r : Change) (lines' events' : List ℕ) → Type 0
Compares older og newer ng lines events r lines' events' =
    (κs : _) × (a : _) × (x : _) × Compare κs a r x
    × (a.0.now ≡ older) × (a.1.0.now ≡ og) × (a.1.1.0.now ≡ newer) × (a.1.1.1.0.now ≡ ng)
    × (a.1.1.1.1.0.now ≡ lines) × (a.1.1.1.1.1.0.now ≡ events) × (x.1.1.1.1.0.now ≡ lines') × (x.1.1.1.1.1.0.now ≡ events')

pub compare-says : (older og newer ng lines events : List ℕ) (r : Change) (lines' events' : List ℕ)
    → Compares older og newer ng lines events r lines' events'
    ↔ ((r ≡ change_of largest limits (length lines) (length events) older og newer ng) × (lines' ≡ replicate (length lines) 0) × (events' ≡ replicate (length events) 0))
compare-says older og newer ng lines events r lines' events' = (
  λ (κs, a, x, p, o, i, n, j, l, e, l', e'). rw (← o, ← i, ← n, ← j, ← l, ← e, ← l', ← e') (p.0, p.1.0, p.1.1),
  λ (p, q, s). (
    some 6,
    (ref older, (ref og, (ref newer, (ref ng, (lent lines, (lent events, tt)))))),
    (ref older, (ref og, (ref newer, (ref ng, (lent lines', (lent events', tt)))))),
    (p, (q, s)),
    refl,
    refl,
    refl,
    refl,
    refl,
    refl,
    refl,
    refl,
  ),
)

-- ---- the interface for other languages: what its contract admits is what the library's does, with the answer's fields as words
abbrev pub CParses : (text lines events answer' lines' events' : List ℕ) → Type 0
CParses text lines events answer' lines' events' =
    (κs : _) × (a : _) × (r : _) × (x : _) × CParse κs a r x
    × (a.0.now ≡ text) × (a.1.0.now ≡ lines) × (a.1.1.0.now ≡ events)
    × (x.1.1.1.0.now ≡ answer') × (x.1.0.now ≡ lines') × (x.1.1.0.now ≡ events')

pub c-parse-is : (text lines events answer' lines' events' : List ℕ)
    → CParses text lines events answer' lines' events' ↔ ((r : Answer) × Parses text lines events r lines' events' × (answer' ≡ answer_words r))
c-parse-is text lines events answer' lines' events' = (
  λ (κs, a, r, x, p, t, l, e, w, l', e'). (
    (parse_of largest limits text lines events).answer,
    (parse-says text lines events _ lines' events').1 (rw (← t, ← l, ← e, ← l', ← e') (refl, p.1.0, p.1.1)),
    rw (← t, ← l, ← e, ← w) p.0,
  ),
  λ (r, q, w).
      let (p, l, e) = (parse-says text lines events r lines' events').0 q in (
        some 4,
        (ref text, (lent lines, (lent events, (lent answer', tt)))),
        tt,
        (ref text, (lent lines', (lent events', (lent answer', tt)))),
        (w ∙ ap answer_words p, (l, e)),
        refl,
        refl,
        refl,
        refl,
        refl,
        refl,
      ),
)

abbrev pub CWrites : (words bytes answer' bytes' : List ℕ) → Type 0
CWrites words bytes answer' bytes' =
    (κs : _) × (a : _) × (r : _) × (x : _) × CWrite κs a r x
    × (a.0.now ≡ words) × (a.1.0.now ≡ bytes) × (x.1.1.0.now ≡ answer') × (x.1.0.now ≡ bytes')

pub c-write-is : (words bytes answer' bytes' : List ℕ) → CWrites words bytes answer' bytes' ↔ ((r : Moved) × Writes words bytes r bytes' × (answer' ≡ moved_words r))
c-write-is words bytes answer' bytes' = (
  λ (κs, a, r, x, p, w, b, t, b'). (
    write_of words (length bytes),
    (write-says words bytes _ bytes').1 (rw (← w, ← b, ← b') (refl, p.1)),
    rw (← w, ← b, ← t) p.0,
  ),
  λ (r, q, t).
      let (p, b) = (write-says words bytes r bytes').0 q in
      (some 3, (ref words, (lent bytes, (lent answer', tt))), tt, (ref words, (lent bytes', (lent answer', tt))), (t ∙ ap moved_words p, b), refl, refl, refl, refl),
)

abbrev pub CReads : (bytes words answer' words' : List ℕ) → Type 0
CReads bytes words answer' words' =
    (κs : _) × (a : _) × (r : _) × (x : _) × CRead κs a r x
    × (a.0.now ≡ bytes) × (a.1.0.now ≡ words) × (x.1.1.0.now ≡ answer') × (x.1.0.now ≡ words')

pub c-read-is : (bytes words answer' words' : List ℕ) → CReads bytes words answer' words' ↔ ((r : Moved) × Reads bytes words r words' × (answer' ≡ moved_words r))
c-read-is bytes words answer' words' = (
  λ (κs, a, r, x, p, b, w, t, w'). (
    read_of bytes (length words),
    (read-says bytes words _ words').1 (rw (← b, ← w, ← w') (refl, p.1)),
    rw (← b, ← w, ← t) p.0,
  ),
  λ (r, q, t).
      let (p, w) = (read-says bytes words r words').0 q in
      (some 3, (ref bytes, (lent words, (lent answer', tt))), tt, (ref bytes, (lent words', (lent answer', tt))), (t ∙ ap moved_words p, w), refl, refl, refl, refl),
)

abbrev pub CLists : (mode : ℕ) (words out answer' out' : List ℕ) → Type 0
CLists mode words out answer' out' =
    (κs : _) × (a : _) × (r : _) × (x : _) × CList κs a r x
    × (a.0 ≡ mode) × (a.1.0.now ≡ words) × (a.1.1.0.now ≡ out) × (x.1.1.1.0.now ≡ answer') × (x.1.1.0.now ≡ out')

pub c-list-is : (mode : ℕ) (words out answer' out' : List ℕ)
    → CLists mode words out answer' out' ↔ ((r : Moved) × Lists mode words out r out' × (answer' ≡ moved_words r))
c-list-is mode words out answer' out' = (
  λ (κs, a, r, x, p, m, w, o, t, o'). (
    list_of mode words (length out),
    (list-says mode words out _ out').1 (rw (← m, ← w, ← o, ← o') (refl, p.1)),
    rw (← m, ← w, ← o, ← t) p.0,
  ),
  λ (r, q, t).
      let (p, o) = (list-says mode words out r out').0 q in (
        some 3,
        (mode, (ref words, (lent out, (lent answer', tt)))),
        tt,
        (mode, (ref words, (lent out', (lent answer', tt)))),
        (t ∙ ap moved_words p, o),
        refl,
        refl,
        refl,
        refl,
        refl,
      ),
)

-- parsed: the words of a parse's answer, of which number, position and looks count
abbrev pub CPages : (mode : ℕ) (parsed words out answer' out' : List ℕ) → Type 0
CPages mode parsed words out answer' out' =
    (κs : _) × (a : _) × (r : _) × (x : _) × CPage κs a r x
    × (a.0 ≡ mode) × (a.1.0.now ≡ parsed) × (a.1.1.0.now ≡ words) × (a.1.1.1.0.now ≡ out)
    × (x.1.1.1.1.0.now ≡ answer') × (x.1.1.1.0.now ≡ out')

pub c-page-is : (mode : ℕ) (parsed words out answer' out' : List ℕ)
    → CPages mode parsed words out answer' out'
    ↔ ((r : Moved) × Pages mode (get_or parsed 0 0) (get_or parsed 1 0) (get_or parsed 3 0) words out r out' × (answer' ≡ moved_words r))
c-page-is mode parsed words out answer' out' =
    let n = get_or parsed 0 0 in
    let i = get_or parsed 1 0 in
    let l = get_or parsed 3 0 in (
      λ (κs, a, r, x, p, m, k, w, o, t, o'). (
        page_of mode n i l words (length out),
        (page-says mode n i l words out _ out').1 (rw (← m, ← k, ← w, ← o, ← o') (refl, p.1)),
        rw (← m, ← k, ← w, ← o, ← t) p.0,
      ),
      λ (r, q, t).
          let (p, o) = (page-says mode n i l words out r out').0 q in (
            some 4,
            (mode, (ref parsed, (ref words, (lent out, (lent answer', tt))))),
            tt,
            (mode, (ref parsed, (ref words, (lent out', (lent answer', tt))))),
            (t ∙ ap moved_words p, o),
            refl,
            refl,
            refl,
            refl,
            refl,
            refl,
          ),
    )

abbrev pub CChanges : (older og newer ng lines events answer' lines' events' : List ℕ) → Type 0
CChanges older og newer ng lines events answer' lines' events' =
    (κs : _) × (a : _) × (r : _) × (x : _) × CChange κs a r x
    × (a.0.now ≡ older) × (a.1.0.now ≡ og) × (a.1.1.0.now ≡ newer) × (a.1.1.1.0.now ≡ ng)
    × (a.1.1.1.1.0.now ≡ lines) × (a.1.1.1.1.1.0.now ≡ events)
    × (x.1.1.1.1.1.1.0.now ≡ answer') × (x.1.1.1.1.0.now ≡ lines') × (x.1.1.1.1.1.0.now ≡ events')

pub c-changes-is : (older og newer ng lines events answer' lines' events' : List ℕ)
    → CChanges older og newer ng lines events answer' lines' events' ↔ ((r : Change) × Compares older og newer ng lines events r lines' events' × (answer' ≡ change_words r))
c-changes-is older og newer ng lines events answer' lines' events' = (
  λ (κs, a, r, x, p, o, i, n, j, l, e, w, l', e'). (
    change_of largest limits (length lines) (length events) older og newer ng,
    (compare-says older og newer ng lines events _ lines' events').1 (rw (← l, ← e, ← l', ← e') (refl, p.1.0, p.1.1)),
    rw (← o, ← i, ← n, ← j, ← l, ← e, ← w) p.0,
  ),
  λ (r, q, w).
      let (p, l, e) = (compare-says older og newer ng lines events r lines' events').0 q in (
        some 7,
        (ref older, (ref og, (ref newer, (ref ng, (lent lines, (lent events, (lent answer', tt))))))),
        tt,
        (ref older, (ref og, (ref newer, (ref ng, (lent lines', (lent events', (lent answer', tt))))))),
        (w ∙ ap change_words p, (l, e)),
        refl,
        refl,
        refl,
        refl,
        refl,
        refl,
        refl,
        refl,
        refl,
      ),
)
