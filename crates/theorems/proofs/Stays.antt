-- No list closes early: of every block that the walk meets, what Lists says of it (RULES L2). Assumes nothing.
use mathlib.Core.Path.{◌≡◌, refl, sym, ap, ◌∙◌}
use mathlib.Core.Logic.{inl, inr}
use mathlib.Core.Bool.{Bool, true, false, true≢false}
use mathlib.Core.List.{List, [], ◌∷◌, ◌++◌}
use Prim.Native.Nat.{ℕ, zero, suc, ◌-◌, min}
use native.Mathlib.Omega.{arith}
use lib.Dec.{eqb, leb}
use lib.ListN.{length, take, drop, length-append}
use lib.Seq.{take_at, take-append_seam, take-length}
use borrow.Author.Tests.{eqb-true, eqb-false}
use Rattle.classes.specs.Choice.{pick}
use Rattle.lines.specs.Lines.{Span, lines_of}
use Rattle.kinds.specs.Identify.{identify_of}
use Rattle.kinds.specs.declared.Kind.{Kind}
use Rattle.measure.specs.Continue.{kind_num}
use Rattle.measure.specs.Measure.{line_in, measure_of}
use Rattle.measure.specs.declared.Measured.{Measured}
use Rattle.events.specs.State.{State, with_evs, with_opn, with_spare, refuse_of, go}
use Rattle.events.specs.Events.{words_of, push_of, enter_event, enter_of}
use Rattle.lists.specs.Lists.{list_words}
use Rattle.walk.specs.Leaf.{node}
use Rattle.walk.specs.Tree.{first_line, met_of, marker_start, list_here, open_container, strip_lines, block_of, container_at}
use Rattle.walk.specs.Document.{start}
use Rattle.walk.specs.declared.Met.{Met}
use Rattle.walk.specs.declared.Limits.{Limits}
use Rattle.tree.proofs.MeasuredLaws.{measure-takes}
use Rattle.theorems.specs.Lists.{goes_on, around, Stays, InRun, InBlock, InContainer, InText}
use Rattle.theorems.proofs.Level.{Around, None, Here, Level, Between}
use Rattle.theorems.proofs.LevelLists.{none-around, not-here, is-here}
use Rattle.theorems.proofs.LevelLaws.{block-between, Begun, ready-inside}
use Rattle.theorems.proofs.MeasuredItems.{measured-first, item-whole}

-- ---- the list that is open at a level
module _ (top : Bool) (p l : List ℕ) (s : State) where
  here-list : Here top p l s → list_here s ≡ true
  here-list h = (is-here top p l s h).0

  none_list : Around l (length p) → None top p l s → list_here s ≡ false
  none_list a h = (not-here s (none-around top p l s a h)).0

  -- not both
  none_here : {X : Type 0} → Around l (length p) → None top p l s → Here top p l s → X
  none_here a n h = absurd (true≢false (sym (here-list h) ∙ none_list a n))

  -- the lists around a level
  around-level : Around l (length p) → Level top p l s → around s ≡ l
  around-level a (inl n) = rw (none_list a n) n.lst
  around-level a (inr h) =
      let c : length l ≡ length (l ++ list_words h.list) - 5 = omega (arith, length-append l (list_words h.list)) in
      rw (here-list h) (ap (λ (w : List ℕ). take (length w - 5) w) h.lst ∙ take_at l (list_words h.list) _ c)

  level-front : Level top p l s → take (length l) s.lst ≡ l
  level-front (inl n) = ap (λ (w : List ℕ). take (length l) w) n.lst ∙ take-length l
  level-front (inr h) = ap (λ (w : List ℕ). take (length l) w) h.lst ∙ take-append_seam l (list_words h.list)

-- ---- one block
module _ (top : Bool) (p l : List ℕ) (k : Kind) (s r : State) (a : Around l (length p)) where
  stays-blank : Level top p l s → (Here top p l s → kind_num k ≡ 1 → ⊥) → kind_num k ≡ 1 → list_here s ≡ false
  stays-blank (inl n) f e = none_list top p l s a n
  stays-blank (inr h) f e = absurd (f h e)

  stays-item : Level top p l s → Between top p l k s r → list_here s ≡ true → goes_on k s ≡ true → (list_here r ≡ true) × (r.opn ≡ s.opn)
  stays-item (inl n) b t g = absurd (true≢false (sym t ∙ none_list top p l s a n))
  stays-item (inr h) b t g = let o = b.on h g in (here-list top p l r o.0, o.1)

  stays-outside : Level top p l s → Level top p l r → take (length (around s)) r.lst ≡ around s
  stays-outside v w = let e = around-level top p l s a v in ap (λ (x : List ℕ). take (length x) r.lst) e ∙ level-front top p l r w ∙ sym e

  block-stays : Level top p l s → (Here top p l s → kind_num k ≡ 1 → ⊥) → Between top p l k s r → Stays k s r
  block-stays v f b = record { blank = stays-blank v f; item = stays-item v b; outside = stays-outside v b.level }

-- ---- a run of blocks
-- the first of these lines is not blank
abbrev Full : List ℕ → List Span → Type 0
Full text ls = (y : Span) (ys : List Span) → ls ≡ y ∷ ys → kind_num (identify_of (line_in text y)).kind ≡ 1 → ⊥

-- nor is the line behind an item: it keeps all the lines that it takes
item-full : (text : List ℕ) (x : Span) (xs : List Span) → let m = measure_of text (x ∷ xs) in kind_num m.kind ≡ 9 → Full text (drop (m.lines - m.given - 1) xs)
item-full text x xs e y ys d =
    let m = measure_of text (x ∷ xs) in
    let w = item-whole text x xs e in
    let n : m.lines ≡ suc (m.lines - m.given - 1) = omega (arith, w.0, (measure-takes text x xs).some) in
    w.1 y ys (ap (λ (i : ℕ). drop i (x ∷ xs)) n ∙ d)

pub by-test : {X : Type 0} (b : Bool) → (b ≡ true → X) → (b ≡ false → X) → X
by-test true f g = f refl
by-test false f g = g refl

module _ (text : List ℕ) (lim : Limits) (top : Bool) (p l : List ℕ) (a : Around l (length p))
    (block : Measured → List Span → State → State) (inside : Measured → List Span → State → Type 0)
    (between : (m : Measured) (ls : List Span) (s : State) → Level top p l s → (block m ls s).number ≡ 0 → Between top p l m.kind s (block m ls s))
    (within : (m : Measured) (ls : List Span) (s : State) → Level top p l s → inside m ls s) where
  -- behind a block that leaves a list open
  next-full : (x : Span) (xs : List Span) (s r : State) →
      let m = measure_of text (x ∷ xs) in
      Between top p l m.kind s r → Here top p l r → Full text (drop (m.lines - m.given - 1) xs)
  next-full x xs s r b h =
      let k = kind_num (measure_of text (x ∷ xs)).kind in
      by-test (eqb k 9) (λ e. item-full text x xs (eqb-true k 9 e)) (λ e. none_here top p l r a (b.none (eqb-false k 9 e)) h)

  run-stays : (ls : List Span) (k : ℕ) (s : State) → Level top p l s → (Here top p l s → Full text (drop k ls)) → InRun text lim block inside ls k s
  run-stays [] k s v f = tt
  run-stays (x ∷ xs) (suc k) s v f = run-stays xs k s v f
  run-stays (x ∷ xs) zero s v f =
      let m = measure_of text (x ∷ xs) in
      let n = m.lines - m.given in
      let r = block m (take n (x ∷ xs)) s in (
        within m (take n (x ∷ xs)) s v,
        λ z.
            let b = between m (take n (x ∷ xs)) s v z in (
              block-stays top p l m.kind s r a v (λ h e. f h x xs refl (sym (measured-first text x xs) ∙ e)) b,
              run-stays xs (n - 1) r b.level (next-full x xs s r b),
            ),
      )

-- ---- the text: only the Document is open
document-level : (cap n : ℕ) → (enter_of (node 1 0 0 0 0 0 0) (start cap n)).number ≡ 0 → None true (0 ∷ []) [] (enter_of (node 1 0 0 0 0 0 0) (start cap n))
unfolding enter_of push_of go
document-level cap n = by-case (leb 8 cap)
  where
    by-case : (b : Bool) →
        let a = pick b (with_evs (words_of (enter_event (node 1 0 0 0 0 0 0))) (start cap n)) (refuse_of 6 (start cap n)) in
        (pick (eqb a.number 0) (with_opn (0 ∷ []) a) a).number ≡ 0 → None true (0 ∷ []) [] (pick (eqb a.number 0) (with_opn (0 ∷ []) a) a)
    by-case true z = record { secs = []; opn = refl; count = refl; lst = refl }
    by-case false z = absurd (omega arith)

module _ (text : List ℕ) (lim : Limits) where
  -- begun in state s, this container is a level of its own
  abbrev Begins : Met → ℕ → State → Type 0
  Begins m line s = (x : ℕ) → (open_container text m line (with_spare x s)).number ≡ 0 → Begun (open_container text m line (with_spare x s))

  -- the blocks of a level in which no list is open yet
  level-stays : (n : ℕ) → ((m : Met) (line : ℕ) (ls : List Span) (s : State) → Begins m line s → InContainer text lim n m line ls s)
      → (top : Bool) (p l : List ℕ) (ls : List Span) (s : State) → Around l (length p) → None top p l s
      → InRun text lim (block_of text lim (container_at text lim n) n top) (InBlock text lim (InContainer text lim n) n top) ls 0 s
  level-stays n inner top p l ls s a v =
      run-stays text lim top p l a (block_of text lim (container_at text lim n) n top) (InBlock text lim (InContainer text lim n) n top)
      (λ m xs b w z. block-between text lim n top p l m xs b a w z)
      (λ m xs b w z c.
      let met = met_of m xs in
      let line = (first_line xs).start in
      inner met line _ _ (λ x y. ready-inside text lim n top p l met (marker_start met line) m.looks line x b a w z y))
      ls 0 s (inl v) (λ h. none_here top p l s a v h)

  container-stays : (n : ℕ) (m : Met) (line : ℕ) (ls : List Span) (s : State) → Begins m line s → InContainer text lim n m line ls s
  container-stays zero m line ls s b = tt
  container-stays (suc n) m line ls s b = λ z.
      let i = b (min n s.spare) z in
      level-stays n (container-stays n) false i.p i.l (strip_lines text m.kind (m.end - line) ls) _ i.around i.none

  pub no-list-closes-early : (cap : ℕ) → InText text lim cap
  no-list-closes-early cap = λ z.
      level-stays lim.nesting (container-stays lim.nesting) true (0 ∷ []) [] (lines_of text) _ (λ e. absurd (e refl)) (document-level cap lim.nesting z)
