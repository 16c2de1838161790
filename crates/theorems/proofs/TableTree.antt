-- A table in the tree of a walk's events. Assumes nothing.
use mathlib.Core.Path.{◌≡◌, ap}
use mathlib.Core.List.{List, [], ◌∷◌, ◌++◌}
use Prim.Native.Nat.{ℕ, ◌-◌, ◌≤◌}
use native.Mathlib.Omega.{arith}
use lib.ListN.{length}
use Rattle.lines.specs.Lines.{Span}
use Rattle.events.specs.State.{State}
use Rattle.events.specs.declared.Event.{Event}
use Rattle.walk.specs.Leaf.{mark}
use Rattle.walk.specs.Table.{table_of}
use Rattle.walk.specs.declared.Met.{Met}
use Rattle.theorems.proofs.LevelSteps.{same-table}
use Rattle.theorems.proofs.Nests.{Whole, Frame}
use Rattle.theorems.proofs.WholeLaws.{whole-more, closing}
use Rattle.theorems.proofs.Trees.{Tree, NoParagraph, Inside}
use Rattle.theorems.proofs.TreeSteps.{tree-more}
use Rattle.theorems.proofs.TableNests.{table-paired}

-- behind g there is more, a table's Enter with what is in it, and the open lists are as they were
pub record Tabled (text : List ℕ) (e : Event) (fs : List Frame) (g : List Event) (s r : State) : Type 0 where
  pub more : List Event
  pub inner : List Event
  pub from : ℕ
  pub to : ℕ
  pub is : more ≡ e ∷ (inner ++ (closing e from to ∷ []))
  pub inside : Whole 3 inner
  pub tree : Tree text fs (g ++ more) r
  pub whole : Whole (100 - length fs) more
  pub first : NoParagraph more
  pub some : more ≡ [] → ⊥
  pub lst : r.lst ≡ s.lst

pub table-tree : (text : List ℕ) (m : Met) (ls : List Span) (fs : List Frame) (g : List Event) (s : State)
    → m.start ≤ m.end → m.end ≤ length text → m.from ≤ m.to → m.to ≤ length text → Inside text ls
    → Tree text fs g s → 1 ≤ length fs → length fs ≤ 97 → (table_of text m ls s).number ≡ 0
    → Tabled text (mark 1 12 m.start m.end 0) fs g s (table_of text m ls s)
table-tree text m ls fs g s a b c d w t o n z =
    let p = table-paired text m ls fs g s a b c d w t.holds z in
    let k = 100 - length fs in
    let x = mark 1 12 m.start m.end 0 in
    let l = x ∷ p.rest in
    let q : Whole k l = whole-more 3 k l (omega arith) p.whole in
    record {
      more = l;
      inner = p.inner;
      from = p.from;
      to = p.to;
      is = ap (λ (v : List Event). x ∷ v) p.is;
      inside = p.inside;
      tree = tree-more text fs g l s (table_of text m ls s) t p.holds q p.fines;
      whole = q;
      first = λ x y. omega (arith, y);
      some = λ e. omega (arith, ap (λ (x : List Event). length x) e);
      lst = (same-table text m ls s z).1;
    }
