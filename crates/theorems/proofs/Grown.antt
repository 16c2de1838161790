-- Steps that add events: those nest, and a record can hold each. Assumes nothing.
use mathlib.Core.Path.{◌≡◌, refl, sym}
use mathlib.Core.List.{List, [], ◌∷◌, ◌++◌, append_assoc, append-nil}
use Prim.Native.Nat.{ℕ, suc, ◌≤◌}
use native.Mathlib.Omega.{arith}
use lib.ListN.{length}
use Rattle.events.specs.State.{State}
use Rattle.events.specs.Events.{push_of, exit_of}
use Rattle.events.specs.declared.Event.{Event}
use Rattle.theorems.proofs.Nests.{Whole, Fine, Fines, Frame, Holds}
use Rattle.theorems.proofs.WholeLaws.{whole-none, whole_append, whole-more, whole-leaf, whole_pair, closing, closing_same, fines-append}
use Rattle.theorems.proofs.HoldLaws.{holds-push, holds-exit, holds_as}
use Rattle.theorems.proofs.FineLaws.{closing-fine}

-- behind g there is more, which nests h deep at most
pub record Grown (text : List ℕ) (h : ℕ) (fs : List Frame) (g : List Event) (s : State) : Type 0 where
  pub more : List Event
  pub holds : Holds fs (g ++ more) s
  pub whole : Whole h more
  pub fines : Fines text more

pub grown-none : (text : List ℕ) (h : ℕ) (fs : List Frame) (g : List Event) (s : State) → Holds fs g s → Grown text h fs g s
grown-none text h fs g s k = record { more = []; holds = holds_as fs g (g ++ []) s (sym (append-nil g)) k; whole = whole-none h; fines = tt }

-- as deep or deeper
pub grown-more : (text : List ℕ) (h k : ℕ) (fs : List Frame) (g : List Event) (s : State) → h ≤ k → Grown text h fs g s → Grown text k fs g s
grown-more text h k fs g s l p = record { more = p.more; holds = p.holds; whole = whole-more h k p.more l p.whole; fines = p.fines }

pub grown-on : (text : List ℕ) (h : ℕ) (fs : List Frame) (g : List Event) (s r : State) → (p : Grown text h fs g s) → Grown text h fs (g ++ p.more) r → Grown text h fs g r
grown-on text h fs g s r p q = record {
  more = p.more ++ q.more;
  holds = holds_as fs ((g ++ p.more) ++ q.more) (g ++ (p.more ++ q.more)) r (append_assoc g p.more q.more) q.holds;
  whole = whole_append h p.more q.more p.whole q.whole;
  fines = fines-append text p.more q.more p.fines q.fines;
}

-- an Inline, an Atom, a Stale one
pub grown-leaf : (text : List ℕ) (h : ℕ) (x : Event) (fs : List Frame) (g : List Event) (s : State) → (x.role ≡ 1 → ⊥) → (x.role ≡ 2 → ⊥) → Fine text x
    → Holds fs g s → (push_of x s).number ≡ 0 → Grown text h fs g (push_of x s)
grown-leaf text h x fs g s i j f k z = record {
  more = x ∷ [];
  holds = holds-push x fs g s k z;
  whole = whole-more 0 h (x ∷ []) (omega arith) (whole-leaf x i j);
  fines = (f, tt);
}

-- an Enter behind g, what is in it, and its Exit
pub record Paired (text : List ℕ) (h : ℕ) (e : Event) (fs : List Frame) (g : List Event) (s : State) : Type 0 where
  pub rest : List Event
  pub inner : List Event
  pub from : ℕ
  pub to : ℕ
  pub is : rest ≡ inner ++ (closing e from to ∷ [])
  pub inside : Whole h inner
  pub holds : Holds fs (g ++ (e ∷ rest)) s
  pub whole : Whole h (e ∷ rest)
  pub fines : Fines text (e ∷ rest)

paired-grown : (text : List ℕ) (h : ℕ) (e : Event) (fs : List Frame) (g : List Event) (s : State) → Paired text h e fs g s → Grown text h fs g s
paired-grown text h e fs g s p = record { more = e ∷ p.rest; holds = p.holds; whole = p.whole; fines = p.fines }

-- the Exit of an Enter behind g
pub paired-exit : (text : List ℕ) (h i j : ℕ) (e : Event) (fs : List Frame) (g : List Event) (s : State) → e.role ≡ 1 → (e.node ≡ 1 → ⊥) → Fine text e
    → i ≤ j → j ≤ length text → Grown text h ((record { before = g; enter = e }) ∷ fs) [] s → (exit_of i j s).number ≡ 0 → Paired text (suc h) e fs g (exit_of i j s)
paired-exit text h i j e fs g s r n f a b p z =
    let o : Frame = record { before = g; enter = e } in
    let x = closing e i j in
    record {
      rest = p.more ++ (x ∷ []);
      inner = p.more;
      from = i;
      to = j;
      is = refl;
      inside = whole-more h (suc h) p.more (omega arith) p.whole;
      holds = holds-exit i j o fs p.more s p.holds z;
      whole = whole_pair h e x p.more r n refl (closing_same e i j) p.whole;
      fines = (f, fines-append text p.more (x ∷ []) p.fines (closing-fine text e i j r f a b, tt));
    }

pub grown-exit : (text : List ℕ) (h i j : ℕ) (e : Event) (fs : List Frame) (g : List Event) (s : State) → e.role ≡ 1 → (e.node ≡ 1 → ⊥) → Fine text e
    → i ≤ j → j ≤ length text → Grown text h ((record { before = g; enter = e }) ∷ fs) [] s → (exit_of i j s).number ≡ 0 → Grown text (suc h) fs g (exit_of i j s)
grown-exit text h i j e fs g s r n f a b p z = paired-grown text (suc h) e fs g (exit_of i j s) (paired-exit text h i j e fs g s r n f a b p z)
