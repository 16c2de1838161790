-- The tree after one step: the events stay or there are more behind them, an Enter, an Exit. Assumes nothing.
use mathlib.Core.Path.{◌≡◌, refl, ◌∙◌}
use mathlib.Core.List.{List, [], ◌∷◌, ◌++◌}
use Prim.Native.Nat.{ℕ, suc, ◌-◌, ◌≤◌}
use native.Mathlib.Omega.{arith}
use lib.Dec.{eqb}
use lib.ListN.{length, get_or}
use Rattle.events.specs.State.{State}
use Rattle.events.specs.Events.{enter_event, enter_of, close_of, exit_of}
use Rattle.events.specs.declared.Event.{Event}
use Rattle.events.specs.declared.Node.{Node}
use Rattle.theorems.proofs.Proper.{of-pick}
use Rattle.theorems.proofs.Nests.{Whole, Fine, Fines, Frame, Holds}
use Rattle.theorems.proofs.WholeLaws.{whole-none, whole_append, whole-more, whole_pair, closing, closing_same, fines-append}
use Rattle.theorems.proofs.HoldLaws.{enter-is, holds-enter, close-is, holds-exit}
use Rattle.theorems.proofs.Trees.{Tree}
use Rattle.theorems.proofs.FineLaws.{closing-fine}

-- ---- events that stay, and more of them
pub tree-beside : (text : List ℕ) (fs : List Frame) (g : List Event) (s r : State) → r.evs ≡ s.evs → r.opn ≡ s.opn → Tree text fs g s → Tree text fs g r
tree-beside text fs g s r a b t = record { holds = record { evs = a ∙ t.holds.evs; opn = b ∙ t.holds.opn }; frames = t.frames; whole = t.whole; fines = t.fines }

-- w behind g
pub tree-more : (text : List ℕ) (fs : List Frame) (g w : List Event) (s r : State) → Tree text fs g s → Holds fs (g ++ w) r → Whole (100 - length fs) w → Fines text w → Tree text fs (g ++ w) r
tree-more text fs g w s r t h p q = record { holds = h; frames = t.frames; whole = whole_append (100 - length fs) g w t.whole p; fines = fines-append text g w t.fines q }

-- lists, sections and attributes are as they were
abbrev pub Besides : State → State → Type 0
Besides s r = (r.lst ≡ s.lst) × (r.sec ≡ s.sec) × (r.attr ≡ s.attr)

-- ---- an Enter
pub enter-tree : (text : List ℕ) (fs : List Frame) (g : List Event) (x : Node) (s : State) → Fine text (enter_event x) → (x.node ≡ 1 → ⊥) → 1 ≤ length fs → Tree text fs g s → (enter_of x s).number ≡ 0
    → Tree text ((record { before = g; enter = enter_event x }) ∷ fs) [] (enter_of x s)
enter-tree text fs g x s f k o p z = record {
  holds = holds-enter x fs g s p.holds z;
  frames = (record { role = refl; node = λ v. k; first = λ v. absurd (omega (arith, v)); fine = f; whole = p.whole; fines = p.fines }, p.frames);
  whole = whole-none (100 - suc (length fs));
  fines = tt;
}

pub enter-besides : (x : Node) (s : State) → (enter_of x s).number ≡ 0 → Besides s (enter_of x s)
enter-besides x s z = rw (enter-is x s z) (refl, refl, refl)

-- ---- an Exit
pub exit-besides : (i j : ℕ) (s : State) → (exit_of i j s).number ≡ 0 → Besides s (exit_of i j s)
unfolding exit_of
exit-besides i j s =
    let o = get_or s.opn (length s.opn - 1) 0 in
    of-pick (λ (r : State). r.number ≡ 0 → Besides s r) (eqb (length s.opn) 0) _ (close_of i j o s) (λ p z. (refl, refl, refl)) (λ p z. rw (close-is i j o s z) (refl, refl, refl))

module _ (text : List ℕ) (i j : ℕ) (f : Frame) (fs : List Frame) (g : List Event) (s : State) (a : 1 ≤ length fs) (b : length fs ≤ 98) (t : Tree text (f ∷ fs) g s) where
  abbrev pair : List Event
  pair = f.enter ∷ (g ++ (closing f.enter i j ∷ []))

  pub exit-whole : Whole (100 - length fs) pair
  exit-whole =
      let e = f.enter in
      let p = t.frames.0 in
      let h = 100 - length (f ∷ fs) in
      let m : suc h ≤ 100 - length fs = omega arith in
      whole-more (suc h) (100 - length fs) pair m (whole_pair h e (closing e i j) g p.role (p.node a) refl (closing_same e i j) t.whole)

  exit-fines : i ≤ j → j ≤ length text → Fines text pair
  exit-fines h k =
      let e = f.enter in
      let p = t.frames.0 in
      (p.fine, fines-append text g (closing e i j ∷ []) t.fines (closing-fine text e i j p.role p.fine h k, tt))

pub exit-tree : (text : List ℕ) (i j : ℕ) (f : Frame) (fs : List Frame) (g : List Event) (s : State) → i ≤ j → j ≤ length text
    → 1 ≤ length fs → length fs ≤ 98 → Tree text (f ∷ fs) g s → (exit_of i j s).number ≡ 0
    → Tree text fs (f.before ++ (f.enter ∷ (g ++ (closing f.enter i j ∷ [])))) (exit_of i j s)
exit-tree text i j f fs g s h k a b t z =
    let p = t.frames.0 in
    let l = pair text i j f fs g s a b t in
    record {
      holds = holds-exit i j f fs g s t.holds z;
      frames = t.frames.1;
      whole = whole_append (100 - length fs) f.before l p.whole (exit-whole text i j f fs g s a b t);
      fines = fines-append text f.before l p.fines (exit-fines text i j f fs g s a b t h k);
    }
