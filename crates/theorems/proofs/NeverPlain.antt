-- Refusal 7 does not come from what is before a block's own events, nor from a block that is no container; such a block leaves an event. Assumes nothing.
use mathlib.Core.Path.{◌≡◌, refl, sym, subst, ◌∙◌}
use mathlib.Core.Bool.{Bool, true, false, true≢false}
use mathlib.Core.List.{List, [], ◌∷◌, ◌++◌}
use Prim.Native.Nat.{ℕ, ◌+◌, ◌≤◌, ◌<◌}
use native.Mathlib.Omega.{arith}
use lib.Dec.{eqb, leb}
use lib.ListN.{length, length-append}
use borrow.Author.Tests.{eqb-true, leb-true}
use Rattle.classes.specs.Choice.{pick, both}
use Rattle.classes.proofs.ChoiceLaws.{true-left, true-right}
use Rattle.lines.specs.Lines.{Span}
use Rattle.measure.specs.Continue.{kind_num, level_of}
use Rattle.events.specs.State.{State, go}
use Rattle.events.specs.Events.{push_of, enter_event}
use Rattle.events.specs.declared.Event.{Event}
use Rattle.lists.specs.declared.OpenList.{OpenList}
use Rattle.walk.specs.Leaf.{kept_of, section_of, leaf_node, leaf_of}
use Rattle.walk.specs.Table.{table_of}
use Rattle.walk.specs.Tree.{count_of, admit_of, settle_of, plain_of, ready_of}
use Rattle.walk.specs.declared.Met.{Met}
use Rattle.walk.specs.declared.Limits.{Limits}
use Rattle.theorems.proofs.LevelSteps.{passed, chosen, leaf_events, same_count}
use Rattle.theorems.proofs.Proper.{of-pick}
use Rattle.theorems.proofs.Nests.{Frame, flat, Holds}
use Rattle.theorems.proofs.HoldLaws.{holds-push, holds-words, count-more}
use Rattle.theorems.proofs.FineNodes.{leaf-fine}
use Rattle.theorems.proofs.Trees.{Inside, Fit}
use Rattle.theorems.proofs.LeafTree.{leaf-tree}
use Rattle.theorems.proofs.SectionTree.{section-tree}
use Rattle.theorems.proofs.TableNests.{table-paired}
use Rattle.theorems.proofs.ListTree.{alike-flat}
use Rattle.theorems.proofs.TreeLevel.{Bare, Grows}
use Rattle.theorems.proofs.TreeReady.{admit-tree, count-grows, settle-grows}
use Rattle.theorems.proofs.Never.{Sure, sure-go, push-sure, admit-sure, leaf-sure, table-sure}
use Rattle.theorems.proofs.NeverLists.{settle-sure, loosen-sure}
use Rattle.theorems.proofs.NeverSections.{section-sure}
use Rattle.theorems.proofs.NeverTerms.{Filled}

-- ---- before a block's own events
count-sure : (at n : ℕ) (s : State) → s.looks + n ≤ 18446744073709551615 → Sure s → Sure (count_of at n s)
unfolding count_of
count-sure at n s l p = of-pick Sure (leb 18446744073709551616 (s.looks + n)) _ _ (λ e. absurd (omega (arith, leb-true 18446744073709551616 (s.looks + n) e, l))) (λ e. p)

pub ready-sure : (text : List ℕ) (lim : Limits) (left : ℕ) (top : Bool) (own : List Frame) (os : List OpenList) (m : Met) (line at n : ℕ) (s : State) → Fit text m line
    → Grows text top own os left s → s.looks + n ≤ 18446744073709551615 → Sure s → Sure (ready_of lim left top m at n s)
unfolding ready_of
ready-sure text lim left top own os m line at n s f g k p =
    let a = count_of at n s in
    let b = admit_of lim left top m a in
    let c = settle_of m b in
    let pa = count-sure at n s k p in
    let pb = admit-sure lim left top m a pa in
    sure-go a _ pa (λ za.
    sure-go b _ pb (λ zb.
    let h = subst (λ (r : State). Grows text top own os left r) (sym (admit-tree lim left top m a zb).is) (count-grows text top own os left at n s g) in
    let pc = settle-sure text top own os left m b h pb in
    sure-go c _ pc (λ zc.
    loosen-sure text top own os left m c (settle-grows text top own os left m line b f h zc).0 pc)))

-- a heading at the top leaves fewer sections open than there may be
pub ready-kept : (lim : Limits) (left : ℕ) (m : Met) (at n : ℕ) (s : State) → kind_num m.kind ≡ 5 → (ready_of lim left true m at n s).number ≡ 0
    → kept_of s.sec (level_of m.kind) (length s.sec) < lim.sections
unfolding ready_of
ready-kept lim left m at n s e =
    let a = count_of at n s in
    let b = admit_of lim left true m a in
    let level = level_of m.kind in
    let P : State → Type 0 = λ r. kept_of s.sec level (length s.sec) < lim.sections in
    passed a _ P (λ za.
    passed b _ P (λ zb z.
    subst (λ (v : List ℕ). kept_of v level (length v) < lim.sections) (same_count at n s).2 ((admit-tree lim left true m a zb).kept refl e)))

-- ---- its own events
module _ (text : List ℕ) (top : Bool) (own : List Frame) (os : List OpenList) (left : ℕ) (m : Met) (line : ℕ) (ls : List Span) (s : State)
    (f : Fit text m line) (i : Inside text ls) (b : Bare text top own os left s) where
  abbrev level : ℕ
  level = level_of m.kind

  abbrev leaf : State → State
  leaf = leaf_events text m line top ls

  leaf-of-sure : (top ≡ true → kind_num m.kind ≡ 5 → kept_of s.sec level (length s.sec) < 32) → Sure s → Sure (leaf_of text m line top ls s)
  unfolding leaf_of
  leaf-of-sure k p = by-case (both top (eqb (kind_num m.kind) 5)) refl
    where
      by-case : (c : Bool) → both top (eqb (kind_num m.kind) 5) ≡ c → Sure (go (pick c (section_of level m.start s) s) leaf)
      by-case true e =
          let t = true-left top (eqb (kind_num m.kind) 5) e in
          let five = eqb-true (kind_num m.kind) 5 (true-right top (eqb (kind_num m.kind) 5) e) in
          let secs = b.stands.secs t in
          let h : m.start ≤ length text = omega (arith, f.start, f.end) in
          let q = section-sure text level m.start b.frames s secs.0 secs.1 (k t five) p b.behind h b.tree (b.attrs t) in
          sure-go (section_of level m.start s) leaf q (λ z.
          let w = section-tree text level m.start b.frames b.behind s h b.tree (b.attrs t) secs.0 secs.1 z in
          leaf-sure text m line top ls (w.frame ∷ w.frames) [] _ i w.tree.holds (omega (arith, w.count, w.most)) q)
      by-case false e = sure-go s leaf p (λ z. leaf-sure text m line top ls b.frames b.behind s i b.tree.holds (omega (arith, b.stands.room)) p)

  pub plain-sure : (top ≡ true → kind_num m.kind ≡ 5 → kept_of s.sec level (length s.sec) < 32) → Sure s → Sure (plain_of text top m line ls s)
  unfolding plain_of
  plain-sure k p =
      of-pick Sure (leb (kind_num m.kind) 3) _ _ (λ e. push-sure _ s p) (λ e.
      of-pick Sure (eqb (kind_num m.kind) 10) _ _ (λ e. table-sure text m line ls b.frames b.behind s f i b.tree.holds (omega (arith, b.stands.room)) p) (λ e. leaf-of-sure k p))

  -- ---- an event stands behind what is open
  behind-fills : (r : State) (x : Event) (xs : List Event) → top ≡ false → Holds b.frames (b.behind ++ (x ∷ xs)) r → Filled own r
  behind-fills r x xs t h =
      omega (
        arith,
        holds-words b.frames (b.behind ++ (x ∷ xs)) r h,
        alike-flat own b.frames (b.stands.alike t),
        count-more b.frames b.behind (x ∷ xs),
        length-append (flat b.frames) b.behind,
      )

  push-fills : (x : Event) → top ≡ false → (push_of x s).number ≡ 0 → Filled own (push_of x s)
  push-fills x t z = behind-fills (push_of x s) x [] t (holds-push x b.frames b.behind s b.tree.holds z)

  leaf-fills : (kind_num m.kind ≡ 5 → level_of m.kind ≤ 65535) → top ≡ false → (leaf_of text m line top ls s).number ≡ 0 → Filled own (leaf_of text m line top ls s)
  unfolding leaf_of
  leaf-fills k t = by-case (both top (eqb (kind_num m.kind) 5)) refl
    where
      by-case : (c : Bool) → both top (eqb (kind_num m.kind) 5) ≡ c → (go (pick c (section_of level m.start s) s) leaf).number ≡ 0 → Filled own (go (pick c (section_of level m.start s) s) leaf)
      by-case true e = λ z. absurd (true≢false (sym (true-left top (eqb (kind_num m.kind) 5) e) ∙ t))
      by-case false e =
          passed s leaf (Filled own) (λ za z.
          let q = leaf-tree text m line top ls b.frames b.behind s b.tree b.stands.some (omega (arith, b.stands.room)) (leaf-fine text m line top f k) f.from f.to i z in
          behind-fills (leaf s) (enter_event (leaf_node m line top)) _ t q.tree.holds)

  pub plain-fills : (kind_num m.kind ≡ 5 → level_of m.kind ≤ 65535) → top ≡ false → (plain_of text top m line ls s).number ≡ 0 → Filled own (plain_of text top m line ls s)
  unfolding plain_of
  plain-fills k t =
      chosen (leb (kind_num m.kind) 3) _ _ (Filled own) (λ e. push-fills _ t) (λ e.
      chosen (eqb (kind_num m.kind) 10) _ _ (Filled own)
      (λ e z. behind-fills (table_of text m ls s) _ _ t (table-paired text m ls b.frames b.behind s f.start f.end f.from f.to i b.tree.holds z).holds)
      (λ e. leaf-fills k t))
