-- The top-level blocks of a text: where a run over its lines finds them, and that the final closings begin none. Assumes nothing.
use mathlib.Core.Path.{◌≡◌, refl, sym, ap, subst, ◌∙◌}
use mathlib.Core.Logic.{◌⊎◌, inl, inr}
use mathlib.Core.Bool.{Bool, true, false}
use mathlib.Core.List.{List, [], ◌∷◌, ◌++◌, append-nil}
use Prim.Native.Nat.{ℕ, zero, suc, ◌-◌, ◌/◌, ◌≤◌, ◌<◌}
use native.Mathlib.Omega.{arith}
use lib.Dec.{eqb}
use lib.ListN.{length, take, get_or, length-append}
use Rattle.classes.specs.Choice.{both}
use Rattle.lines.specs.Lines.{Span, lines_of}
use Rattle.measure.specs.Continue.{kind_num, level_of}
use Rattle.measure.specs.Measure.{measure_of}
use Rattle.measure.specs.declared.Measured.{Measured}
use Rattle.events.specs.State.{State, with_at, refuse_of, go}
use Rattle.events.specs.Events.{exit_event, words_of, enter_of, close_of, exit_of}
use Rattle.events.specs.Pack.{all_of, pack_of}
use Rattle.events.specs.declared.Event.{Event}
use Rattle.events.proofs.PackLaws.{pack-more, all-pack}
use Rattle.tops.specs.Tops.{is_around, open_of, begins_of, line_start, starts_from, starts_of}
use Rattle.walk.specs.Fields.{is_container}
use Rattle.walk.specs.Tree.{met_of, marker_start, run_of, skip_opening, inner_lines, plain_of, body_of, attr_of, ready_of, block_of, container_at, blocks_at}
use Rattle.walk.specs.Document.{start, close_lists, close_sections, close_all, document_of}
use Rattle.walk.specs.declared.Met.{Met}
use Rattle.walk.specs.declared.Limits.{Limits}
use Rattle.theorems.specs.Covers.{Rising, Covers}
use Rattle.theorems.proofs.LevelSteps.{passed, chosen}
use Rattle.theorems.proofs.LevelLaws.{no_item}
use Rattle.theorems.proofs.Nests.{flat}
use Rattle.theorems.proofs.HoldLaws.{close-is}
use Rattle.theorems.proofs.Trees.{Inside, Fit}
use Rattle.theorems.proofs.Spans.{inside-lines, inside_take, inside-skip, inside-inner, met-fit}
use Rattle.theorems.proofs.TreeLevel.{Grows}
use Rattle.theorems.proofs.TreeReady.{ready-tree}
use Rattle.theorems.proofs.TreeLaws.{document, begin-bare, inner-walks, container-walks, close-none, close-one}
use Rattle.theorems.proofs.Tops.{open_all, TopBare, TopListing, TopGrows}
use Rattle.theorems.proofs.TopLaws.{starts-append, shows-some}
use Rattle.theorems.proofs.TopReady.{list-not-around, shows-closed, ready-tops}
use Rattle.theorems.proofs.TopPlain.{plain-tops}
use Rattle.theorems.proofs.TopContainer.{container-tops}
use Rattle.theorems.proofs.TopLines.{Lined, lines-lined, block_start}

-- ---- places up to another one
rising-on : (p q : ℕ) (ss : List ℕ) → p ≤ q → Rising p ss → Rising q ss
rising-on p q [] h r = tt
rising-on p q (s ∷ []) h r = (omega (arith, r.0), tt)
rising-on p q (s ∷ t ∷ ss) h r = (r.0, rising-on p q (t ∷ ss) h r.1)

covers-on : (p q : ℕ) (ss : List ℕ) → p ≤ q → (ss ≡ [] → ⊥) → Covers p ss → Covers q ss
covers-on p q [] h n c = absurd (n refl)
covers-on p q (s ∷ ss) h n c = record { first = c.first; rising = rising-on p q (s ∷ ss) h c.rising }

rising-more : (p q : ℕ) (ss : List ℕ) → p < q → Rising p ss → Rising q (ss ++ (p ∷ []))
rising-more p q [] h r = (h, tt)
rising-more p q (s ∷ []) h r = (r.0, (h, tt))
rising-more p q (s ∷ t ∷ ss) h r = (r.0, rising-more p q (t ∷ ss) h r.1)

covers_more : (p q : ℕ) (ss : List ℕ) → p < q → Covers p ss → Covers q (ss ++ (p ∷ []))
covers_more p q [] h c = record { first = c.first; rising = rising-more p q [] h c.rising }
covers_more p q (s ∷ ss) h c = record { first = c.first; rising = rising-more p q (s ∷ ss) h c.rising }

more-some : (p : ℕ) (ss : List ℕ) → ss ++ (p ∷ []) ≡ [] → ⊥
more-some p ss e = omega (arith, ap (λ (l : List ℕ). length l) e, length-append ss (p ∷ []))

-- ---- a block
-- one more began at p, or the list that was open goes on
abbrev Onward : List ℕ → List ℕ → ℕ → ℕ → State → Type 0
Onward text ss p left r = TopGrows text (ss ++ (p ∷ [])) left r ⊎ TopListing text ss left r

top-grows : (text ss : List ℕ) (left : ℕ) (s : State) → TopGrows text ss left s → Grows text true [] [] left s
top-grows text ss left s (inl b) = inl b.bare
top-grows text ss left s (inr b) = inr b.listing

module _ (text : List ℕ) (lim : Limits) where
  at-tops : (left : ℕ) (ss : List ℕ) (m : Met) (line : ℕ) (ls : List Span) (at w : ℕ) (a : State) → Fit text m line → is_container m.kind ≡ true → Inside text ls
      → TopGrows text ss left a → ((kind_num m.kind ≡ 9 → ⊥) → TopBare text ss left a) → (container_at text lim left m line ls a).number ≡ 0
      → Onward text ss (line_start text m.start) left (with_at at (attr_of m w (container_at text lim left m line ls a)))
  unfolding container_at
  at-tops zero ss m line ls at w a fit e i g b = λ z. absurd (omega arith)
  at-tops (suc n) ss m line ls at w a fit e i g b =
      container-tops text (λ xs. run_of text (block_of text lim (container_at text lim n) n false) xs 0) n ss m line ls at w a fit e
      (inner-walks text lim n (container-walks text lim n) m.kind (m.end - line) ls i) g b

  module _ (left : ℕ) (few : left ≤ 32) where
    body-tops : (ss : List ℕ) (m : Met) (line : ℕ) (ls : List Span) (at : ℕ) (a : State) → Fit text m line → Inside text ls → (kind_num m.kind ≡ 5 → level_of m.kind ≤ 65535)
        → TopGrows text ss left a → ((kind_num m.kind ≡ 9 → ⊥) → TopBare text ss left a) → (body_of text (container_at text lim left) true m line ls a).number ≡ 0
        → Onward text ss (line_start text m.start) left (with_at at (attr_of m (length a.evs) (body_of text (container_at text lim left) true m line ls a)))
    unfolding body_of
    body-tops ss m line ls at a fit i l g b =
        chosen (is_container m.kind) (container_at text lim left m line ls a) (plain_of text true m line ls a)
        (λ x. Onward text ss (line_start text m.start) left (with_at at (attr_of m (length a.evs) x)))
        (λ e. at-tops left ss m line ls at (length a.evs) a fit e i g b)
        (λ e z. inl (inl (plain-tops text left ss m line ls at a few fit i l e (b (no_item m.kind e)) z)))

    block-tops : (ss : List ℕ) (measured : Measured) (l : Span) (ls : List Span) (s : State) → Fit text (met_of measured (l ∷ ls)) l.start → (met_of measured (l ∷ ls)).end ≤ l.end
        → Inside text (l ∷ ls) → TopGrows text ss left s → (block_of text lim (container_at text lim left) left true measured (l ∷ ls) s).number ≡ 0
        → Onward text ss (line_start text (met_of measured (l ∷ ls)).start) left (block_of text lim (container_at text lim left) left true measured (l ∷ ls) s)
    unfolding block_of
    block-tops ss measured l ls s fit e i g =
        let m = met_of measured (l ∷ ls) in
        let line = l.start in
        let c = container_at text lim left in
        let xs = inner_lines m.kind (skip_opening text m (l ∷ ls)) in
        let a = ready_of lim left true m (marker_start m line) measured.looks s in
        let last : State → State → State = λ a b. with_at s.at (attr_of m (length a.evs) b) in
        let b = body_of text c true m line xs a in
        let P : State → Type 0 = λ r. Onward text ss (line_start text m.start) left r in
        let j = inside-inner text m.kind (skip_opening text m (l ∷ ls)) (inside-skip text m l ls e i) in
        passed a (λ a. go (body_of text c true m line xs a) (last a)) P (λ za.
        let r = ready-tops text lim left ss m line (marker_start m line) measured.looks s fit g za in
        let v = (ready-tree text lim left true [] [] m line (marker_start m line) measured.looks s fit (top-grows text ss left s g) za).level in
        passed b (last a) P (λ zb z. body-tops ss m line xs s.at a fit j v r.0 r.1 zb))

    taken-tops : (ss : List ℕ) (measured : Measured) (n : ℕ) (l : Span) (ls : List Span) (s : State) → 1 ≤ n → Fit text (met_of measured (take n (l ∷ ls))) l.start
        → (met_of measured (take n (l ∷ ls))).end ≤ l.end → Inside text (l ∷ ls) → TopGrows text ss left s
        → (block_of text lim (container_at text lim left) left true measured (take n (l ∷ ls)) s).number ≡ 0
        → Onward text ss (line_start text (met_of measured (take n (l ∷ ls))).start) left (block_of text lim (container_at text lim left) left true measured (take n (l ∷ ls)) s)
    taken-tops ss measured zero l ls s k fit e i g = absurd (omega arith)
    taken-tops ss measured (suc n) l ls s k fit e i g = block-tops ss measured l (take n ls) s fit e (i.0, i.1, inside_take text n ls i.2) g

    -- ---- a run of them
    -- the blocks that began go on to p, and of the lines from there on k belong to the last one
    record Reached (p k : ℕ) (s : State) : Type 0 where
      ss : List ℕ
      covers : Covers p ss
      some : 0 < k → ss ≡ [] → ⊥
      grows : TopGrows text ss left s

    abbrev block : Measured → List Span → State → State
    block = block_of text lim (container_at text lim left) left true

    onward-reached : (p q k : ℕ) (ss : List ℕ) (r : State) → p < q → Covers p ss → Onward text ss p left r → Reached q k r
    onward-reached p q k ss r h c (inl g) = record { ss = ss ++ (p ∷ []); covers = covers_more p q ss h c; some = λ l. more-some p ss; grows = g }
    onward-reached p q k ss r h c (inr b) =
        let n = shows-some text ss 0 _ b.shows in
        record { ss = ss; covers = covers-on p q ss (omega arith) n c; some = λ l. n; grows = inr b }

    block-reached : (p k : ℕ) (l : Span) (ls : List Span) (s : State) → Lined text p (l ∷ ls) → Inside text (l ∷ ls) → Reached p 0 s
        → let m = measure_of text (l ∷ ls) in let xs = take (m.lines - m.given) (l ∷ ls) in (block m xs s).number ≡ 0 → Reached l.end k (block m xs s)
    block-reached p k l ls s f i r z =
        let m = measure_of text (l ∷ ls) in
        let n = m.lines - m.given in
        let xs = take n (l ∷ ls) in
        let q = met-fit text l ls i in
        let o = taken-tops r.ss m n l ls s q.2 q.0 q.1 i r.grows z in
        onward-reached p l.end k r.ss (block m xs s) f.2 r.covers
        (subst (λ (t : ℕ). Onward text r.ss t left (block m xs s)) (block_start text p n l ls q.2 f) o)

    run-reached : (ls : List Span) (p k : ℕ) (s : State) → Lined text p ls → Inside text ls → Reached p k s → (run_of text block ls k s).number ≡ 0
        → Reached (length text) 0 (run_of text block ls k s)
    unfolding run_of
    run-reached [] p k s f i r = λ z. record { ss = r.ss; covers = subst (λ (q : ℕ). Covers q r.ss) f r.covers; some = λ l. absurd (omega arith); grows = r.grows }
    run-reached (l ∷ ls) p (suc k) s f i r =
        let n = r.some (omega arith) in
        let h = f.2 in
        run-reached ls l.end k s f.3 i.2 (record { ss = r.ss; covers = covers-on p l.end r.ss (omega arith) n r.covers; some = λ l. n; grows = r.grows })
    run-reached (l ∷ ls) p zero s f i r =
        let m = measure_of text (l ∷ ls) in
        let n = m.lines - m.given in
        let b = block m (take n (l ∷ ls)) s in
        passed b (run_of text block ls (n - 1)) (Reached (length text) 0) (λ zb. run-reached ls l.end (n - 1) b f.3 i.2 (block-reached p (n - 1) l ls s f i r zb))

-- ---- the final closings
exit-begins : (n : ℕ) (x : Event) → x.role ≡ 2 → begins_of n x ≡ false
unfolding begins_of
exit-begins n x e = rw e (by-case (eqb n 0))
  where
    by-case : (b : Bool) → both b false ≡ false
    by-case true = refl
    by-case false = refl

exit-starts : (text : List ℕ) (xs : List Event) (x : Event) → x.role ≡ 2 → starts_from text 0 (xs ++ (x ∷ [])) ≡ starts_from text 0 xs
unfolding starts_from
exit-starts text xs x e = starts-append text 0 xs (x ∷ []) ∙ rw (exit-begins (open_all 0 xs) x e) (append-nil (starts_from text 0 xs))

-- a state's events, with the blocks that begin among them
record Started (text ss : List ℕ) (s : State) : Type 0 where
  events : List Event
  evs : s.evs ≡ pack_of events
  starts : starts_from text 0 events ≡ ss

module _ (text ss : List ℕ) where
  exit-started : (i j : ℕ) (s : State) → Started text ss s → (exit_of i j s).number ≡ 0 → Started text ss (exit_of i j s)
  unfolding exit_of
  exit-started i j s u =
      let o = get_or s.opn (length s.opn - 1) 0 in
      let x = exit_event s.evs o i j in
      chosen (eqb (length s.opn) 0) (refuse_of 7 s) (close_of i j o s) (Started text ss) (λ e z. absurd (omega arith))
      (λ e z. rw (close-is i j o s z) (record {
        events = u.events ++ (x ∷ []);
        evs = ap (λ (l : List ℕ). l ++ words_of x) u.evs ∙ sym (pack-more u.events x);
        starts = exit-starts text u.events x refl ∙ u.starts;
      }))

  sections-started : (pos n : ℕ) (s : State) → Started text ss s → (close_sections pos n s).number ≡ 0 → Started text ss (close_sections pos n s)
  unfolding close_sections
  sections-started pos zero s u = λ z. u
  sections-started pos (suc n) s u = passed (exit_of pos pos s) (close_sections pos n) (Started text ss) (λ za. sections-started pos n (exit_of pos pos s) (exit-started pos pos s u za))

  lists-started : (left : ℕ) (s : State) → TopGrows text ss left s → let r = close_lists (length text) (length s.lst / 5) (with_at (length text) s) in r.number ≡ 0 → Started text ss r
  lists-started left s (inl b) z =
      let h = b.bare in
      rw (close-none text left [] s h) (record { events = flat h.frames ++ h.behind; evs = h.tree.holds.evs; starts = b.shows.starts })
  lists-started left s (inr b) z =
      let h = b.listing in
      let c = close-one text left [] s h z in
      record {
        events = _;
        evs = c.tree.holds.evs;
        starts = (shows-closed text ss 0 (length text) h.frame h.frames h.behind [] _ _ c (list-not-around text left s h) b.shows).starts;
      }

  all-started : (left : ℕ) (s : State) → TopGrows text ss left s → (close_all (length text) s).number ≡ 0 → Started text ss (close_all (length text) s)
  unfolding close_all
  all-started left s g =
      let end = length text in
      let a = close_lists end (length s.lst / 5) (with_at end s) in
      let next : State → State = λ x. go (close_sections end (length x.sec) x) (exit_of end end) in
      passed a next (Started text ss) (λ za.
      let b = close_sections end (length a.sec) a in
      passed b (exit_of end end) (Started text ss) (λ zb. exit-started end end b (sections-started end (length a.sec) a (lists-started left s g za) zb)))

-- ---- the whole text
begin-tops : (text : List ℕ) (cap n : ℕ) → n ≤ 32 → (enter_of document (start cap n)).number ≡ 0 → TopBare text [] n (enter_of document (start cap n))
unfolding begin-bare flat starts_from begins_of open_all open_of is_around
begin-tops text cap n h z = record { bare = begin-bare text cap n h z; arounds = (refl, tt); shows = record { starts = refl; opn = refl } }

covered : (text ss : List ℕ) (s : State) → Covers (length text) ss → Started text ss s → Covers (length text) (starts_of text (all_of s.evs))
covered text ss s c u = subst (Covers (length text)) (sym (ap (λ (l : List ℕ). starts_of text (all_of l)) u.evs ∙ ap (starts_of text) (all-pack u.events) ∙ u.starts)) c

pub document-tops : (text : List ℕ) (lim : Limits) (cap : ℕ) → lim.nesting ≤ 32
    → let s = document_of text lim (start cap lim.nesting) in s.number ≡ 0 → Covers (length text) (starts_of text (all_of s.evs))
unfolding document_of
document-tops text lim cap few =
    let n = lim.nesting in
    let a = enter_of document (start cap n) in
    let next : State → State = λ x. go (blocks_at text lim n true (lines_of text) x) (close_all (length text)) in
    let P : State → Type 0 = λ r. Covers (length text) (starts_of text (all_of r.evs)) in
    passed a next P (λ za.
    let b = run_of text (block text lim n few) (lines_of text) 0 a in
    passed b (close_all (length text)) P (λ zb z.
    let h : Reached text lim n few 0 0 a = record { ss = []; covers = record { first = refl; rising = tt }; some = λ l. absurd (omega arith); grows = inl (begin-tops text cap n few za) } in
    let r = run-reached text lim n few (lines_of text) 0 0 a (lines-lined text) (inside-lines text) h zb in
    covered text r.ss (close_all (length text) b) r.covers (all-started text r.ss n b r.grows z)))
