-- The tree of a block, of a run of blocks, of containers within each other, and of a text. Assumes nothing.
use mathlib.Core.Path.{◌≡◌, refl, sym, ap, subst, ◌∙◌}
use mathlib.Core.Logic.{inl, inr}
use mathlib.Core.Bool.{Bool, true, false, true≢false}
use mathlib.Core.List.{List, [], ◌∷◌, ◌++◌}
use Prim.Native.Nat.{ℕ, zero, suc, ◌-◌, ◌/◌, ◌≤◌}
use native.Mathlib.Omega.{arith}
use lib.ListN.{length, take}
use Rattle.lines.specs.Lines.{Span, lines_of}
use Rattle.kinds.specs.declared.Kind.{Kind}
use Rattle.measure.specs.Continue.{kind_num}
use Rattle.measure.specs.Measure.{measure_of}
use Rattle.measure.specs.declared.Measured.{Measured}
use Rattle.events.specs.State.{State, with_at, go}
use Rattle.events.specs.Events.{enter_event, enter_of, exit_of}
use Rattle.events.specs.Pack.{pack_of}
use Rattle.events.specs.declared.Event.{Event}
use Rattle.events.specs.declared.Node.{Node}
use Rattle.fields.specs.Fields.{fields, within, is_listed, field_of, in_range}
use Rattle.nests.specs.Nesting.{outside}
use Rattle.lists.specs.Lists.{close_list_of}
use Rattle.lists.specs.declared.OpenList.{OpenList}
use Rattle.walk.specs.Fields.{is_container}
use Rattle.walk.specs.Leaf.{node}
use Rattle.walk.specs.Tree.{met_of, marker_start, strip_lines, run_of, skip_opening, inner_lines, plain_of, body_of, attr_of, ready_of, block_of, container_at, blocks_at}
use Rattle.walk.specs.Document.{start, close_lists, close_sections, close_all, document_of}
use Rattle.walk.specs.declared.Met.{Met}
use Rattle.walk.specs.declared.Limits.{Limits}
use Rattle.theorems.proofs.LevelSteps.{passed, chosen}
use Rattle.theorems.proofs.LevelLaws.{no_item}
use Rattle.theorems.proofs.Nests.{after_all, Nests, Fine, Fines, Frame, flat, places, Holds}
use Rattle.theorems.proofs.WholeLaws.{whole-none, closing, closing_same, document-nests, fines-append}
use Rattle.theorems.proofs.HoldLaws.{enter-is, holds-enter, holds-exit}
use Rattle.theorems.proofs.Trees.{Tree, lists_words, Inside, Fit}
use Rattle.theorems.proofs.FineLaws.{made-fine, closing-fine}
use Rattle.theorems.proofs.Spans.{inside-lines, inside_take, inside-strip, inside-skip, inside-inner, met-fit}
use Rattle.theorems.proofs.TreeSteps.{tree-beside, exit-tree}
use Rattle.theorems.proofs.ListTree.{Closed, led-none, close-list-tree}
use Rattle.theorems.proofs.TreeLevel.{Bare, Listing, Grows, Ready, Walked}
use Rattle.theorems.proofs.TreeReady.{ready-tree}
use Rattle.theorems.proofs.TreePlain.{plain-tree}
use Rattle.theorems.proofs.TreeContainer.{container-tree}

-- ---- one after another
-- a container's level is not the top
pub not_top : {X : Type 0} → false ≡ true → X
not_top e = absurd (true≢false (sym e))

walked_on : (text : List ℕ) (top : Bool) (own : List Frame) (os : List OpenList) (left : ℕ) (s a r : State) → (top ≡ false → a.sec ≡ s.sec) → Walked text top own os left a r
    → Walked text top own os left s r
walked_on text top own os left s a r e w = record { grows = w.grows; sec = λ t. w.sec t ∙ e t }

-- a container at a level with so much nesting left
abbrev Steady : List ℕ → ℕ → (Met → ℕ → List Span → State → State) → Type 0
Steady text left c = (top : Bool) (own : List Frame) (os : List OpenList) (m : Met) (line : ℕ) (ls : List Span) (at w : ℕ) (a : State)
    → Fit text m line → is_container m.kind ≡ true → Inside text ls → Grows text top own os left a → ((kind_num m.kind ≡ 9 → ⊥) → Bare text top own os left a)
    → (c m line ls a).number ≡ 0 → Walked text top own os left a (with_at at (attr_of m w (c m line ls a)))

-- a block of the level, and a run of them
abbrev pub Calm : List ℕ → Bool → List Frame → List OpenList → ℕ → (Measured → List Span → State → State) → Type 0
Calm text top own os left block = (l : Span) (ls : List Span) (s : State) → Inside text (l ∷ ls) → Grows text top own os left s →
    let m = measure_of text (l ∷ ls) in
    let xs = take (m.lines - m.given) (l ∷ ls) in
    (block m xs s).number ≡ 0 → Walked text top own os left s (block m xs s)

pub run-walks : (text : List ℕ) (top : Bool) (own : List Frame) (os : List OpenList) (left : ℕ) (block : Measured → List Span → State → State) → Calm text top own os left block
    → (ls : List Span) (k : ℕ) (s : State) → Inside text ls → Grows text top own os left s → (run_of text block ls k s).number ≡ 0 → Walked text top own os left s (run_of text block ls k s)
unfolding run_of
run-walks text top own os left block f [] k s i h = λ z. record { grows = h; sec = λ t. refl }
run-walks text top own os left block f (l ∷ ls) (suc k) s i h = run-walks text top own os left block f ls k s i.2 h
run-walks text top own os left block f (l ∷ ls) zero s i h =
    let m = measure_of text (l ∷ ls) in
    let n = m.lines - m.given in
    let b = block m (take n (l ∷ ls)) s in
    passed b (run_of text block ls (n - 1)) (λ r. Walked text top own os left s r) (λ zb z.
    let w = f l ls s i h zb in
    walked_on text top own os left s b (run_of text block ls (n - 1) b) w.sec (run-walks text top own os left block f ls (n - 1) b i.2 w.grows z))

-- ---- a block, and containers within containers
module _ (text : List ℕ) (lim : Limits) where
  module _ (c : Met → ℕ → List Span → State → State) (left : ℕ) (f : Steady text left c) (top : Bool) (own : List Frame) (os : List OpenList)
      (none : top ≡ true → os ≡ []) (few : top ≡ true → left ≤ 32) where
    body-walks : (m : Met) (line : ℕ) (ls : List Span) (at : ℕ) (s a : State) → Fit text m line → Inside text ls → Ready text top own os left m.kind s a
        → (body_of text c top m line ls a).number ≡ 0 → Walked text top own os left a (with_at at (attr_of m (length a.evs) (body_of text c top m line ls a)))
    unfolding body_of
    body-walks m line ls at s a fit i r =
        chosen (is_container m.kind) (c m line ls a) (plain_of text top m line ls a) (λ x. Walked text top own os left a (with_at at (attr_of m (length a.evs) x)))
        (λ e. f top own os m line ls at (length a.evs) a fit e i r.grows r.bare)
        (λ e z.
        let p = plain-tree text top own os left m line ls at a none few fit i r.level e (r.bare (no_item m.kind e)) z in
        record { grows = inl p.0; sec = p.1 })

    block-walks : (measured : Measured) (l : Span) (ls : List Span) (s : State) → Fit text (met_of measured (l ∷ ls)) l.start → (met_of measured (l ∷ ls)).end ≤ l.end → Inside text (l ∷ ls)
        → Grows text top own os left s → (block_of text lim c left top measured (l ∷ ls) s).number ≡ 0 → Walked text top own os left s (block_of text lim c left top measured (l ∷ ls) s)
    unfolding block_of
    block-walks measured l ls s fit e i h =
        let m = met_of measured (l ∷ ls) in
        let line = l.start in
        let xs = inner_lines m.kind (skip_opening text m (l ∷ ls)) in
        let a = ready_of lim left top m (marker_start m line) measured.looks s in
        let last : State → State → State = λ a b. with_at s.at (attr_of m (length a.evs) b) in
        let b = body_of text c top m line xs a in
        let P : State → Type 0 = λ r. Walked text top own os left s r in
        let j = inside-inner text m.kind (skip_opening text m (l ∷ ls)) (inside-skip text m l ls e i) in
        passed a (λ a. go (body_of text c top m line xs a) (last a)) P (λ za.
        let r = ready-tree text lim left top own os m line (marker_start m line) measured.looks s fit h za in
        passed b (last a) P (λ zb z.
        walked_on text top own os left s a (last a b) (λ t. r.sec) (body-walks m line xs s.at s a fit j r zb)))

    taken-walks : (measured : Measured) (n : ℕ) (l : Span) (ls : List Span) (s : State) → 1 ≤ n → Fit text (met_of measured (take n (l ∷ ls))) l.start
        → (met_of measured (take n (l ∷ ls))).end ≤ l.end → Inside text (l ∷ ls) → Grows text top own os left s
        → (block_of text lim c left top measured (take n (l ∷ ls)) s).number ≡ 0 → Walked text top own os left s (block_of text lim c left top measured (take n (l ∷ ls)) s)
    taken-walks measured zero l ls s k fit e i h = absurd (omega arith)
    taken-walks measured (suc n) l ls s k fit e i h = block-walks measured l (take n ls) s fit e (i.0, i.1, inside_take text n ls i.2) h

    pub calm-block : Calm text top own os left (block_of text lim c left top)
    calm-block l ls s i h =
        let m = measure_of text (l ∷ ls) in
        let p = met-fit text l ls i in
        taken-walks m (m.lines - m.given) l ls s p.2 p.0 p.1 i h

  -- the blocks in a container
  pub inner-walks : (n : ℕ) → Steady text n (container_at text lim n) → (k : Kind) (opening : ℕ) (ls : List Span) → Inside text ls → (own : List Frame) (os : List OpenList) (x : State)
      → Bare text false own os n x → let r = run_of text (block_of text lim (container_at text lim n) n false) (strip_lines text k opening ls) 0 x in r.number ≡ 0 → Walked text false own os n x r
  inner-walks n f k opening ls i own os x g =
      run-walks text false own os n (block_of text lim (container_at text lim n) n false) (calm-block (container_at text lim n) n f false own os not_top not_top) (strip_lines text k opening ls) 0 x
      (inside-strip text k opening ls i) (inl g)

  pub container-walks : (n : ℕ) → Steady text n (container_at text lim n)
  unfolding container_at
  container-walks zero top own os m line ls at w a fit e i h b = λ z. absurd (omega arith)
  container-walks (suc n) top own os m line ls at w a fit e i h b =
      container-tree text (λ xs. run_of text (block_of text lim (container_at text lim n) n false) xs 0) n m line ls at w top own os a fit e
      (inner-walks n (container-walks n) m.kind (m.end - line) ls i) h b

-- ---- the whole text
-- its events nest, in one Document
pub record Walks (text : List ℕ) (s : State) : Type 0 where
  pub events : List Event
  pub evs : s.evs ≡ pack_of events
  pub fines : Fines text events
  pub nests : Nests 100 outside events × ((after_all outside events).done ≡ true)

-- Document's Enter
abbrev pub document : Node
document = node 1 0 0 0 0 0 0

pub document-fine : (text : List ℕ) → Fine text (enter_event document)
unfolding fields within is_listed field_of in_range
document-fine text = made-fine text (enter_event document) refl refl (inr (omega arith)) (inr (omega arith)) (omega arith) (omega arith)

pub start-holds : (cap n : ℕ) → Holds [] [] (start cap n)
unfolding flat places pack_of
start-holds cap n = record { evs = refl; opn = refl }

unfoldable pub begin-bare : (text : List ℕ) (cap n : ℕ) → n ≤ 32 → (enter_of document (start cap n)).number ≡ 0 → Bare text true [] [] n (enter_of document (start cap n))
unfolding lists_words
begin-bare text cap n h z =
    let e = enter-is document (start cap n) z in
    let f : Frame = record { before = []; enter = enter_event document } in
    let sec = ap (λ (s : State). length s.sec) e in
    record {
      frames = f ∷ [];
      behind = [];
      tree = record {
        holds = holds-enter document [] [] (start cap n) (start-holds cap n) z;
        frames = (record { role = refl; node = λ l. absurd (omega arith); first = λ k. (refl, refl); fine = document-fine text; whole = whole-none 100; fines = tt }, tt);
        whole = whole-none 99;
        fines = tt;
      };
      stands = record { alike = λ t. absurd (true≢false t); secs = λ t. (omega (arith, sec), omega (arith, sec)); some = omega arith; room = omega arith };
      typed = tt;
      outside = tt;
      lst = ap (λ (s : State). s.lst) e;
      led = led-none 99;
      attrs = λ t. inl (ap (λ (s : State). s.attr) e);
    }

-- Document and sections are open, no list
pub record Unlisted (text : List ℕ) (s : State) : Type 0 where
  pub frames : List Frame
  pub behind : List Event
  pub tree : Tree text frames behind s
  pub count : length frames ≡ suc (length s.sec)
  pub few : length s.sec ≤ 32

-- Document alone is open
pub record Unclosed (text : List ℕ) (s : State) : Type 0 where
  pub frame : Frame
  pub behind : List Event
  pub tree : Tree text (frame ∷ []) behind s

module _ (text : List ℕ) where
  abbrev end : ℕ
  end = length text

  pub close-none : (left : ℕ) (own : List Frame) (s : State) → Bare text true own [] left s → close_lists end (length s.lst / 5) (with_at end s) ≡ with_at end s
  unfolding close_lists lists_words
  close-none left own s b = let n : length s.lst / 5 ≡ 0 = omega (arith, ap (λ (l : List ℕ). length l) b.lst) in ap (λ (k : ℕ). close_lists end k (with_at end s)) n

  pub close-one : (left : ℕ) (own : List Frame) (s : State) (b : Listing text true own [] left s) → let r = close_lists end (length s.lst / 5) (with_at end s) in r.number ≡ 0
      → Closed text end b.frame b.frames b.behind [] (with_at end s) r
  unfolding close_lists lists_words
  close-one left own s b =
      let a = with_at end s in
      let n : length s.lst / 5 ≡ 1 = omega (arith, ap (λ (l : List ℕ). length l) b.lst) in
      let q = b.stands.secs refl in
      let t = tree-beside text (b.frame ∷ b.frames) b.behind s a refl refl b.tree in
      let P : State → Type 0 = λ r. Closed text end b.frame b.frames b.behind [] a r in
      subst (λ (k : ℕ). (close_lists end k a).number ≡ 0 → P (close_lists end k a)) (sym n)
      (passed (close_list_of end a) (close_lists end 0) P (λ za z.
      close-list-tree text end b.frame b.frames b.behind b.list [] a (omega arith) t b.this b.depth b.stands.some (omega (arith, q.0, q.1)) b.lst za))

  pub close-lists : (left : ℕ) (own : List Frame) (s : State) → Grows text true own [] left s → (close_lists end (length s.lst / 5) (with_at end s)).number ≡ 0
      → Unlisted text (close_lists end (length s.lst / 5) (with_at end s))
  close-lists left own s (inl b) z =
      let a = with_at end s in
      let q = b.stands.secs refl in
      rw (close-none left own s b) (record { frames = b.frames; behind = b.behind; tree = tree-beside text b.frames b.behind s a refl refl b.tree; count = q.0; few = q.1 })
  close-lists left own s (inr b) z =
      let q = b.stands.secs refl in
      let c = close-one left own s b z in
      let m = ap (λ (l : List ℕ). length l) c.sec in
      record { frames = b.frames; behind = _; tree = c.tree; count = omega (arith, q.0, m); few = omega (arith, q.1, m) }

  pub close-sections : (n : ℕ) (fs : List Frame) (g : List Event) (s : State) → length fs ≡ suc n → n ≤ 32 → Tree text fs g s → (close_sections end n s).number ≡ 0
      → Unclosed text (close_sections end n s)
  unfolding close_sections
  close-sections n [] g s c h t = absurd (omega arith)
  close-sections zero (f ∷ []) g s c h t = λ z. record { frame = f; behind = g; tree = t }
  close-sections zero (f ∷ (e ∷ fs)) g s c h t = absurd (omega arith)
  close-sections (suc n) (f ∷ fs) g s c h t =
      passed (exit_of end end s) (close_sections end n) (λ r. Unclosed text r) (λ za.
      close-sections n fs _ (exit_of end end s) (omega arith) (omega arith) (exit-tree text end end f fs g s (omega arith) (omega arith) (omega arith) (omega arith) t za))

  close-document : (s : State) → Unclosed text s → (exit_of end end s).number ≡ 0 → Walks text (exit_of end end s)
  unfolding flat
  close-document s u z =
      let f = u.frame in
      let g = u.behind in
      let t = u.tree in
      let p = t.frames.0 in
      let q = p.first refl in
      let x = closing f.enter end end in
      let xs = f.enter ∷ (g ++ (x ∷ [])) in
      record {
        events = xs;
        evs = (holds-exit end end f [] g s t.holds z).evs ∙ ap (λ (b : List Event). pack_of (b ++ xs)) q.1;
        fines = (p.fine, fines-append text g (x ∷ []) t.fines (closing-fine text f.enter end end p.role p.fine (omega arith) (omega arith), tt));
        nests = document-nests 99 f.enter x g p.role q.0 refl (closing_same f.enter end end) (omega arith) t.whole;
      }

  close-all : (left : ℕ) (own : List Frame) (s : State) → Grows text true own [] left s → (close_all end s).number ≡ 0 → Walks text (close_all end s)
  unfolding close_all
  close-all left own s h =
      let a = close_lists end (length s.lst / 5) (with_at end s) in
      let next : State → State = λ x. go (close_sections end (length x.sec) x) (exit_of end end) in
      passed a next (λ r. Walks text r) (λ za.
      let u = close-lists left own s h za in
      let b = close_sections end (length a.sec) a in
      passed b (exit_of end end) (λ r. Walks text r) (λ zb. close-document b (close-sections (length a.sec) u.frames u.behind a u.count u.few u.tree zb)))

pub document-walks : (text : List ℕ) (lim : Limits) (cap : ℕ) → lim.nesting ≤ 32
    → (document_of text lim (start cap lim.nesting)).number ≡ 0 → Walks text (document_of text lim (start cap lim.nesting))
unfolding document_of
document-walks text lim cap few =
    let n = lim.nesting in
    let a = enter_of document (start cap n) in
    let block = block_of text lim (container_at text lim n) n true in
    let next : State → State = λ x. go (blocks_at text lim n true (lines_of text) x) (close_all (length text)) in
    passed a next (λ r. Walks text r) (λ za.
    let b = run_of text block (lines_of text) 0 a in
    passed b (close_all (length text)) (λ r. Walks text r) (λ zb.
    let f = container-walks text lim n in
    let c = calm-block text lim (container_at text lim n) n f true [] [] (λ t. refl) (λ t. few) in
    let w = run-walks text true [] [] n block c (lines_of text) 0 a (inside-lines text) (inl (begin-bare text cap n few za)) zb in
    close-all text n [] b w.grows))
