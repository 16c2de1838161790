-- A block, step by step: what is no container, a container, and the block around them. Assumes nothing.
use Prim.Native.Nat.{ℕ, zero, suc, ◌-◌, ◌≤◌, ◌<◌, min}
use mathlib.Core.Path.{◌≡◌, refl, sym, ◌∙◌}
use mathlib.Core.Bool.{Bool, true, false}
use mathlib.Core.List.{List}
use native.Mathlib.Omega.{arith}
use lib.ListN.{length}
use borrow.Author.Tests.{eq-eqb, ne_eqb, le-leb, lt-leb}
use Rattle.lines.specs.Lines.{Span}
use Rattle.measure.specs.Continue.{kind_num}
use Rattle.measure.specs.declared.Measured.{Measured}
use Rattle.events.specs.State.{State, with_spare, with_at, refuse_of}
use Rattle.events.specs.Events.{push_of}
use Rattle.events.specs.declared.Event.{Event}
use Rattle.events.proofs.GoLaws.{go_on, go-stop}
use Rattle.walk.specs.Fields.{is_container}
use Rattle.walk.specs.Leaf.{mark, leaf_of}
use Rattle.walk.specs.Table.{table_of}
use Rattle.walk.specs.Tree.{met_of, marker_start, ready_of, first_line, skip_opening, inner_lines, strip_lines, open_container, close_container, container_of, plain_of, body_of, attr_of, block_of, container_at, blocks_at}
use Rattle.walk.specs.declared.Met.{Met}
use Rattle.walk.specs.declared.Limits.{Limits}

-- ---- what is no container
module _ (text : List ℕ) (top : Bool) (m : Met) (line : ℕ) (ls : List Span) (s : State) (n : ℕ) (en : n ≡ kind_num m.kind) where
  pub plain-atom : n ≤ 3 → (x : Event) → x ≡ mark 4 n m.start m.end 0 → push_of x s ≡ plain_of text top m line ls s
  unfolding plain_of
  plain-atom h x p = rw (p, ← en, le-leb n 3 h)

  module _ (h : 3 < n) where
    pub plain-table : n ≡ 10 → table_of text m ls s ≡ plain_of text top m line ls s
    unfolding plain_of
    plain-table e = rw (← en, lt-leb n 3 h, eq-eqb n 10 e)

    pub plain-leaf : (n ≡ 10 → ⊥) → leaf_of text m line top ls s ≡ plain_of text top m line ls s
    unfolding plain_of
    plain-leaf e = rw (← en, lt-leb n 3 h, ne_eqb n 10 e)

-- ---- a container
module _ (text : List ℕ) (lim : Limits) (left : ℕ) (m : Met) (line : ℕ) (ls : List Span) (s : State) where
  pub container-deep : left ≡ 0 → refuse_of 3 s ≡ container_at text lim left m line ls s
  unfolding container_at
  container-deep z = rw z

opened : (text : List ℕ) (lim : Limits) (left : ℕ) (m : Met) (line : ℕ) (ls : List Span) (s : State) → (left ≡ 0 → ⊥)
    → container_at text lim left m line ls s ≡ container_of text (λ xs. blocks_at text lim (left - 1) false xs) (left - 1) m line ls s
unfolding container_at
opened text lim zero m line ls s h = absurd (h refl)
opened text lim (suc n) m line ls s h =
    let e : suc n - 1 ≡ n = omega arith in
    rw e

module _ (text : List ℕ) (lim : Limits) (left : ℕ) (m : Met) (line : ℕ) (ls : List Span) (s : State) (ne : left ≡ 0 → ⊥)
    (x : ℕ) (ex : x ≡ min (left - 1) s.spare) (a : State) (p : a ≡ open_container text m line (with_spare x s)) where
  pub container-1 : (a.number ≡ 0 → ⊥) → a ≡ container_at text lim left m line ls s
  unfolding container_of
  container-1 z = sym (opened text lim left m line ls s ne ∙ rw (← ex, ← p) (go-stop a _ z))

  module _ (za : a.number ≡ 0) (o : ℕ) (eo : o ≡ m.end - line) (ms : List Span) (e : ms ≡ strip_lines text m.kind o ls) (b : State) (i : b ≡ blocks_at text lim (left - 1) false ms a) where
    pub container-2 : (b.number ≡ 0 → ⊥) → b ≡ container_at text lim left m line ls s
    unfolding container_of
    container-2 z = sym (opened text lim left m line ls s ne ∙ rw (← ex, ← p) (go_on a _ za ∙ rw (← eo, ← e, ← i) (go-stop b _ z)))

    pub container-3 : b.number ≡ 0 → (d : ℕ) → d ≡ length a.opn → close_container m (d - 1) b ≡ container_at text lim left m line ls s
    unfolding container_of
    container-3 z d ed = sym (opened text lim left m line ls s ne ∙ rw (← ex, ← p) (go_on a _ za ∙ rw (← eo, ← e, ← i, ← ed) (go_on b _ z)))

-- ---- the block around them
module _ (text : List ℕ) (container : Met → ℕ → List Span → State → State) (top : Bool) (m : Met) (line : ℕ) (ls : List Span) (s x : State) where
  pub body-container : is_container m.kind ≡ true → x ≡ container m line ls s → x ≡ body_of text container top m line ls s
  unfolding body_of
  body-container e p = p ∙ rw e

  pub body-plain : is_container m.kind ≡ false → x ≡ plain_of text top m line ls s → x ≡ body_of text container top m line ls s
  unfolding body_of
  body-plain e p = p ∙ rw e

module _ (text : List ℕ) (lim : Limits) (container : Met → ℕ → List Span → State → State) (left : ℕ) (top : Bool) (measured : Measured) (ls : List Span) (s : State)
    (m : Met) (em : m ≡ met_of measured ls) (line : ℕ) (el : line ≡ (first_line ls).start) (at : ℕ) (ea : at ≡ marker_start m line)
    (a : State) (p : a ≡ ready_of lim left top m at measured.looks s) where
  pub block_1 : (a.number ≡ 0 → ⊥) → a ≡ block_of text lim container left top measured ls s
  unfolding block_of
  block_1 z = sym (rw (← em, ← el, ← ea, ← p) (go-stop a _ z))

  module _ (za : a.number ≡ 0) (ms : List Span) (e : ms ≡ inner_lines m.kind (skip_opening text m ls)) (b : State) (q : b ≡ body_of text container top m line ms a) where
    pub block_2 : (b.number ≡ 0 → ⊥) → b ≡ block_of text lim container left top measured ls s
    unfolding block_of
    block_2 z = sym (rw (← em, ← el, ← ea, ← p) (go_on a _ za ∙ rw (← e, ← q) (go-stop b _ z)))

    pub block_3 : b.number ≡ 0 → (w : ℕ) → w ≡ length a.evs → with_at s.at (attr_of m w b) ≡ block_of text lim container left top measured ls s
    unfolding block_of
    block_3 z w ew = sym (rw (← em, ← el, ← ea, ← p) (go_on a _ za ∙ rw (← e, ← q, ← ew) (go_on b _ z)))
