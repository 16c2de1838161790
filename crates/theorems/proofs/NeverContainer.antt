-- Refusal 7 does not come from a container: its Enters, its term, the list that is open inside, its Exit; and it leaves an event. Assumes nothing.
use mathlib.Core.Path.{◌≡◌, refl, sym, subst}
use mathlib.Core.Logic.{◌⊎◌, ⊎_elim}
use mathlib.Core.Bool.{Bool, true, false}
use mathlib.Core.List.{List, [], ◌∷◌, ◌++◌}
use Prim.Native.Nat.{ℕ, suc, ◌+◌, ◌-◌, ◌*◌, ◌≤◌, min}
use native.Mathlib.Omega.{arith}
use lib.Dec.{eqb}
use lib.ListN.{length, length-append}
use borrow.Author.Tests.{eqb-true, eqb-false}
use Rattle.classes.specs.Choice.{pick}
use Rattle.lines.specs.Lines.{Span}
use Rattle.markers.specs.Markers.{marker_num}
use Rattle.measure.specs.Continue.{kind_num}
use Rattle.events.specs.State.{State, with_attr, with_spare, with_flags, go}
use Rattle.events.specs.Events.{enter_event, enter_of, exit_of}
use Rattle.events.specs.declared.Event.{Event}
use Rattle.lists.specs.declared.OpenList.{OpenList}
use Rattle.walk.specs.Fields.{marker_in}
use Rattle.walk.specs.Leaf.{node}
use Rattle.walk.specs.Tree.{strip_lines, open_list, open_term, container_node, open_container, settle_term, close_inner, close_container, container_of}
use Rattle.walk.specs.declared.Met.{Met}
use Rattle.theorems.proofs.LevelSteps.{passed}
use Rattle.theorems.proofs.Stays.{by-test}
use Rattle.theorems.proofs.Proper.{of-pick}
use Rattle.theorems.proofs.Nests.{Frame, flat}
use Rattle.theorems.proofs.WholeLaws.{closing}
use Rattle.theorems.proofs.HoldLaws.{holds-count, holds-words, holds-enter, holds-exit}
use Rattle.theorems.proofs.Trees.{Tree, AllTyped, lists_words, Termed, Fit}
use Rattle.theorems.proofs.FineNodes.{item-marked, marker-kind}
use Rattle.theorems.proofs.TreeSteps.{tree-beside}
use Rattle.theorems.proofs.ListTree.{alike-count, alike-flat, typed-more}
use Rattle.theorems.proofs.TreeLevel.{Outside, Bare, Grows, Walked}
use Rattle.theorems.proofs.TreeLevelLaws.{none_here, one-here, bare-beside, grows-beside}
use Rattle.theorems.proofs.TreeOpen.{list-opens, term-opens, own_frame, Opened, inside-bare}
use Rattle.theorems.proofs.TreeClose.{Alone, Holding, term-settles, inner-closes}
use Rattle.theorems.proofs.TreeContainer.{item-opens, other-opens, outside-more}
use Rattle.theorems.proofs.Never.{Sure, sure-zero, sure-go, enter-sure, exit-sure}
use Rattle.theorems.proofs.NeverLists.{close-list-sure, open-list-sure}
use Rattle.theorems.proofs.NeverTerms.{Filled, settle-term-sure}

-- ---- its Enters
open-term-sure : (m : Met) (ds : List Frame) (g : List Event) (text : List ℕ) (s : State) → Tree text ds g s → length ds ≤ 98 → Sure s → Sure (open_term m s)
unfolding open_term
open-term-sure m ds g text s t d p =
    let x = node 17 m.start m.end 0 0 0 0 in
    let a = enter_of x s in
    sure-go a _ (enter-sure x ds g s t.holds (omega arith) p) (λ z.
    exit-sure m.end m.end (record { before = g; enter = enter_event x }) ds [] a (holds-enter x ds g s t.holds z) refl (sure-zero a z))

module _ (text : List ℕ) (m : Met) (line : ℕ) (t : Fit text m line) where
  abbrev num : ℕ
  num = marker_num (marker_in m.kind)

  abbrev enter : State → State
  enter = enter_of (container_node text m line)

  within-sure : (ds : List Frame) (g : List Event) (s : State) → Tree text ds g s → 1 ≤ length ds → length ds ≤ 98 → Sure s → Sure (go (pick (eqb num 4) (open_term m s) s) enter)
  within-sure ds g s k o d p = by-case (eqb num 4)
    where
      by-case : (b : Bool) → Sure (go (pick b (open_term m s) s) enter)
      by-case true =
          let a = open_term m s in
          let q = open-term-sure m ds g text s k d p in
          sure-go a enter q (λ z. enter-sure (container_node text m line) ds _ a (term-opens text m line t ds g s k o d z).0.holds (omega arith) q)
      by-case false = sure-go s enter p (λ z. enter-sure (container_node text m line) ds g s k.holds (omega arith) p)

  open-container-sure : (top : Bool) (own : List Frame) (os : List OpenList) (n : ℕ) (s : State) → length os ≤ 31 → Grows text top own os (suc n) s
      → ((kind_num m.kind ≡ 9 → ⊥) → Bare text top own os (suc n) s) → Sure s → Sure (open_container text m line s)
  unfolding open_container
  open-container-sure top own os n s few h bare p = by-case (eqb (kind_num m.kind) 9) refl
    where
      rest : State → State
      rest a = go (pick (eqb num 4) (open_term m a) a) enter

      by-case : (b : Bool) → eqb (kind_num m.kind) 9 ≡ b → Sure (go (pick b (open_list (marker_in m.kind) m.start s) s) rest)
      by-case true e =
          let y = open_list (marker_in m.kind) m.start s in
          let q = open-list-sure text top own os (suc n) (marker_in m.kind) m.start s few h p in
          sure-go y rest q (λ z.
          let i = eqb-true (kind_num m.kind) 9 e in
          let a = (list-opens text top own os (suc n) (marker_in m.kind) m.start s (omega (arith, t.start, t.end)) (item-marked (length text) m.kind i t.proper) h z).listing in
          let fs = a.frame ∷ a.frames in
          within-sure fs a.behind y (tree-beside text fs a.behind (with_attr 0 y) y refl refl a.tree) (omega arith) (omega (arith, a.stands.room)) q)
      by-case false e =
          let b = bare (eqb-false (kind_num m.kind) 9 e) in
          sure-go s rest p (λ z. within-sure b.frames b.behind s b.tree b.stands.some (omega (arith, b.stands.room)) p)

  -- ---- its Exits
  module _ (ds : List Frame) (g : List Event) (os : List OpenList) (one : 1 ≤ length ds) (deep : length ds ≤ 97) (out : Outside os (suc (length ds))) where
    inner-sure : (pos : ℕ) (s a : State) → Alone text m line ds g os s a ⊎ Holding text m line ds g os s a → Sure a → Sure (close_inner pos a)
    unfolding close_inner
    inner-sure pos s a w p = ⊎_elim none some w
      where
        none : (h : Alone text m line ds g os s a) → Sure (close_inner pos a)
        none h =
            let n = alike-count ds h.frames h.alike in
            let o = subst (λ (k : ℕ). Outside os (suc k)) (sym n) out in
            rw (none_here (h.frame ∷ h.frames) h.behind os a h.tree.holds o h.lst).0 p

        some : (h : Holding text m line ds g os s a) → Sure (close_inner pos a)
        some h =
            let fs = h.frame ∷ h.frames in
            let b = with_flags false false a in
            let k = tree-beside text (h.inner ∷ fs) h.behind a b refl refl h.tree in
            rw (one-here (h.inner ∷ fs) h.behind h.list os a h.tree.holds h.depth h.lst).0
            (close-list-sure text pos h.inner fs h.behind h.list os b k h.typed h.depth h.lst p)

    module _ (d n : ℕ) (s : State) (de : d ≡ length ds) (tm : num ≡ 4 → Termed (100 - length ds) g) (h : Grows text false (own_frame text m line g ∷ ds) os n s) where
      abbrev settled : State
      settled = pick (eqb num 4) (settle_term d s) s

      -- what is open before the Exit
      last-open : settled.number ≡ 0 → (close_inner m.from settled).number ≡ 0 → Alone text m line ds g os s (close_inner m.from settled)
      last-open za zb =
          inner-closes text m line ds g os one deep m.from s settled (omega (arith, t.from, t.to)) out (term-settles text m line ds g os one deep d de tm s n h (eqb num 4) refl za) zb

      close-container-sure : (num ≡ 4 → Filled (own_frame text m line g ∷ ds) s) → Sure s → Sure (close_container m d s)
      unfolding close_container
      close-container-sure w p =
          let b = close_inner m.from settled in
          let q = of-pick Sure (eqb num 4) (settle_term d s) s (λ e. settle-term-sure text (own_frame text m line g) ds d s one de p os n h (w (eqb-true num 4 e))) (λ e. p) in
          sure-go settled _ q (λ za.
          sure-go b _ (inner-sure m.from s settled (term-settles text m line ds g os one deep d de tm s n h (eqb num 4) refl za) q) (λ zb.
          let v = last-open za zb in
          exit-sure m.from m.to v.frame v.frames v.behind b v.tree.holds v.tree.frames.0.role (sure-zero b zb)))

      -- its Exit stands behind what is open around it
      close-container-fills : (close_container m d s).number ≡ 0 → Filled ds (close_container m d s)
      unfolding close_container
      close-container-fills =
          let b = close_inner m.from settled in
          passed settled _ (Filled ds) (λ za.
          passed b (exit_of m.from m.to) (Filled ds) (λ zb z.
          let v = last-open za zb in
          let x = v.frame.enter in
          let ys = v.frame.before ++ (x ∷ (v.behind ++ (closing x m.from m.to ∷ []))) in
          let w = holds-words v.frames ys _ (holds-exit m.from m.to v.frame v.frames v.behind b v.tree.holds z) in
          omega (arith, w, alike-flat ds v.frames v.alike, length-append (flat v.frames) ys, length-append v.frame.before (x ∷ (v.behind ++ (closing x m.from m.to ∷ []))))))

-- ---- the blocks inside
module _ (text : List ℕ) (inner : List Span → State → State) (n : ℕ) (m : Met) (line : ℕ) (ls : List Span) (t : Fit text m line)
    (walks : (own : List Frame) (os : List OpenList) (x : State) → Bare text false own os n x → (inner (strip_lines text m.kind (m.end - line) ls) x).number ≡ 0
    → Walked text false own os n x (inner (strip_lines text m.kind (m.end - line) ls) x)) where
  abbrev blocks : State → State
  blocks = inner (strip_lines text m.kind (m.end - line) ls)

  abbrev after : State → State
  after x = go (blocks x) (close_container m (length x.opn - 1))

  -- they leave no 7, and leave an event in an item
  abbrev Inner : State → Type 0
  Inner x = (own : List Frame) (os : List OpenList) → length os + n ≤ 32 → Bare text false own os n x → x.number ≡ 0
      → Sure (blocks x) × (kind_num m.kind ≡ 9 → (blocks x).number ≡ 0 → Filled own (blocks x))

  module _ (ds : List Frame) (g : List Event) (os : List OpenList) (s x : State) (o : Opened text m line ds g s x) (y : AllTyped ds os) (out : Outside os (suc (length ds)))
      (e : s.lst ≡ lists_words os) (one : 1 ≤ length ds) (room : suc (length ds) + 2 * n ≤ 97) where
    abbrev frame : Frame
    frame = own_frame text m line o.before

    bare : Bare text false (frame ∷ ds) os n x
    bare = inside-bare text m line ds g s x os n o y out e room

    depth : length x.opn - 1 ≡ length ds
    depth = omega (arith, holds-count (frame ∷ ds) [] x o.tree.holds)

    after-sure : length os + n ≤ 32 → Inner x → x.number ≡ 0 → Sure (after x)
    after-sure many f z =
        let p = f (frame ∷ ds) os many bare z in
        sure-go (blocks x) _ p.0 (λ za.
        close-container-sure text m line t ds o.before os one (omega (arith, room)) out (length x.opn - 1) n (blocks x) depth o.term (walks (frame ∷ ds) os x bare za).grows
        (λ i. p.1 (marker-kind m.kind i) za) (sure-zero (blocks x) za))

    after-fills : (after x).number ≡ 0 → Filled ds (after x)
    after-fills =
        passed (blocks x) _ (Filled ds) (λ za.
        close-container-fills text m line t ds o.before os one (omega (arith, room)) out (length x.opn - 1) n (blocks x) depth o.term (walks (frame ∷ ds) os x bare za).grows)

  module _ (top : Bool) (own : List Frame) (os : List OpenList) (s : State) (h : Grows text top own os (suc n) s) (bare : (kind_num m.kind ≡ 9 → ⊥) → Bare text top own os (suc n) s) where
    abbrev opened : State
    opened = open_container text m line s

    -- an item's list is open around it
    item-sure : kind_num m.kind ≡ 9 → length os + suc n ≤ 32 → Inner opened → opened.number ≡ 0 → Sure (after opened)
    item-sure e many f z =
        let i = item-opens text m line t top own os n s e h z in
        let a = i.listing in
        let fs = a.frame ∷ a.frames in
        after-sure fs a.behind (a.list ∷ os) i.listed opened i.opened (a.this, typed-more a.frame a.frames os a.typed) (omega (arith, a.depth)) a.lst (omega arith)
        (omega (arith, a.stands.room)) (omega (arith, many)) f z

    other-sure : (kind_num m.kind ≡ 9 → ⊥) → length os + suc n ≤ 32 → Inner opened → opened.number ≡ 0 → Sure (after opened)
    other-sure e many f z =
        let b = bare e in
        let o = other-opens text m line t top own os n s e b z in
        after-sure b.frames b.behind os s opened o b.typed (outside-more os (length b.frames) b.outside) b.lst b.stands.some (omega (arith, b.stands.room))
        (omega (arith, many)) f z

    item-fills : top ≡ false → kind_num m.kind ≡ 9 → opened.number ≡ 0 → (after opened).number ≡ 0 → Filled own (after opened)
    unfolding flat
    item-fills w e z za =
        let i = item-opens text m line t top own os n s e h z in
        let a = i.listing in
        let fs = a.frame ∷ a.frames in
        let k = after-fills fs a.behind (a.list ∷ os) i.listed opened i.opened (a.this, typed-more a.frame a.frames os a.typed) (omega (arith, a.depth)) a.lst (omega arith)
        (omega (arith, a.stands.room)) za in
        omega (arith, k, alike-flat own a.frames (a.stands.alike w), length-append (flat a.frames) (a.frame.before ++ (a.frame.enter ∷ [])))

    other-fills : top ≡ false → (kind_num m.kind ≡ 9 → ⊥) → opened.number ≡ 0 → (after opened).number ≡ 0 → Filled own (after opened)
    other-fills w e z za =
        let b = bare e in
        let o = other-opens text m line t top own os n s e b z in
        let k = after-fills b.frames b.behind os s opened o b.typed (outside-more os (length b.frames) b.outside) b.lst b.stands.some (omega (arith, b.stands.room)) za in
        omega (arith, k, alike-flat own b.frames (b.stands.alike w))

module _ (text : List ℕ) (inner : List Span → State → State) (n : ℕ) (m : Met) (line : ℕ) (ls : List Span) (t : Fit text m line)
    (walks : (own : List Frame) (os : List OpenList) (x : State) → Bare text false own os n x → (inner (strip_lines text m.kind (m.end - line) ls) x).number ≡ 0
    → Walked text false own os n x (inner (strip_lines text m.kind (m.end - line) ls) x))
    (top : Bool) (own : List Frame) (os : List OpenList) (a : State) (h : Grows text top own os (suc n) a) (bare : (kind_num m.kind ≡ 9 → ⊥) → Bare text top own os (suc n) a) where
  abbrev begun : State
  begun = with_spare (min n a.spare) a

  begun-grows : Grows text top own os (suc n) begun
  begun-grows = grows-beside text top own os (suc n) a begun refl refl (refl, refl, refl) h

  begun-bare : (kind_num m.kind ≡ 9 → ⊥) → Bare text top own os (suc n) begun
  begun-bare e = bare-beside text top own os (suc n) a begun refl refl (refl, refl, refl) (bare e)

  pub container-sure : length os + suc n ≤ 32 → Inner text inner n m line ls t walks (open_container text m line begun) → Sure a → Sure (container_of text inner n m line ls a)
  unfolding container_of
  container-sure many f p =
      let x = open_container text m line begun in
      let k = kind_num m.kind in
      sure-go x _ (open-container-sure text m line t top own os n begun (omega arith) begun-grows begun-bare p)
      (by-test (eqb k 9)
      (λ e. item-sure text inner n m line ls t walks top own os begun begun-grows begun-bare (eqb-true k 9 e) many f)
      (λ e. other-sure text inner n m line ls t walks top own os begun begun-grows begun-bare (eqb-false k 9 e) many f))

  pub container-fills : top ≡ false → (container_of text inner n m line ls a).number ≡ 0 → Filled own (container_of text inner n m line ls a)
  unfolding container_of
  container-fills w =
      let x = open_container text m line begun in
      let k = kind_num m.kind in
      passed x _ (Filled own)
      (by-test (eqb k 9)
      (λ e. item-fills text inner n m line ls t walks top own os begun begun-grows begun-bare w (eqb-true k 9 e))
      (λ e. other-fills text inner n m line ls t walks top own os begun begun-grows begun-bare w (eqb-false k 9 e)))
