-- Refusal 7 does not come from the steps on events: a push, an Enter, an Exit, Inlines, a leaf, a table. Assumes nothing.
use mathlib.Core.Path.{◌≡◌, refl, sym, ap, subst, ◌∙◌}
use mathlib.Core.Bool.{Bool, true}
use mathlib.Core.List.{List, [], ◌∷◌, ◌++◌}
use Prim.Native.Nat.{ℕ, suc, ◌+◌, ◌*◌, ◌≤◌}
use native.Mathlib.Omega.{arith}
use lib.Dec.{eqb, leb}
use lib.ListN.{length, take, drop, get_or, length-append}
use borrow.Author.Tests.{eqb-true, eq-eqb, le-leb, leb-true}
use Rattle.lines.specs.Lines.{Span}
use Rattle.markers.specs.declared.Marker.{Marker}
use Rattle.kinds.specs.declared.Kind.{Kind}
use Rattle.events.specs.State.{State, with_evs, refuse_of, go}
use Rattle.events.specs.Events.{width, push_of, enter_event, exit_event, enter_of, close_of, exit_of}
use Rattle.events.specs.declared.Event.{Event}
use Rattle.events.specs.declared.Node.{Node}
use Rattle.lists.specs.Lists.{retype_of}
use Rattle.walk.specs.Leaf.{node, inlines_of, leaf_node}
use Rattle.walk.specs.Table.{Rows, rows, caption_line, caption_lines, caption_of, rows_of, table_of}
use Rattle.walk.specs.Tree.{admit_of}
use Rattle.walk.specs.declared.Met.{Met}
use Rattle.walk.specs.declared.Limits.{Limits}
use Rattle.theorems.proofs.Untouched.{un-push, un-retype, un-inlines, un-caption-lines, un-rows, un-admit}
use Rattle.theorems.proofs.LevelSteps.{leaf_events}
use Rattle.theorems.proofs.Proper.{of-pick}
use Rattle.theorems.proofs.Nests.{Frame, flat, Holds}
use Rattle.theorems.proofs.HoldLaws.{holds-count, flat-at, exit-close, enter-word, holds-words, holds-enter}
use Rattle.theorems.proofs.Trees.{Inside, Fit}
use Rattle.theorems.proofs.Spans.{inside_take, inside-drop}
use Rattle.theorems.proofs.TableNests.{lines-grown, Spans, caption-grown, rows_grown}
use Rattle.theorems.proofs.LeafTree.{inlines-lined}

-- ---- a state that is not refused by 7
abbrev pub Sure : State → Type 0
Sure s = s.number ≡ 7 → ⊥

pub sure-zero : (s : State) → s.number ≡ 0 → Sure s
sure-zero s z e = omega (arith, z, e)

pub sure-go : (a : State) (f : State → State) → Sure a → (a.number ≡ 0 → Sure (f a)) → Sure (go a f)
unfolding go
sure-go a f p q = of-pick Sure (eqb a.number 0) (f a) a (λ e. q (eqb-true a.number 0 e)) (λ e. p)

-- ---- steps that only write events
abbrev Stays : State → State → Type 0
Stays s r = Sure s → Sure r

stays_same : (s : State) → Stays s s
stays_same s p = p

stays_on : (s a r : State) → Stays s a → Stays a r → Stays s r
stays_on s a r p q k = q (p k)

stays-events : (e : List ℕ) (s : State) → Stays s (with_evs e s)
stays-events e s p = p

stays-refused : (n : ℕ) → (n ≡ 7 → ⊥) → (s : State) → Stays s (refuse_of n s)
stays-refused n k s p = k

pub push-sure : (x : Event) (s : State) → Sure s → Sure (push_of x s)
push-sure = un-push Stays stays_same stays_on stays-events stays-refused

pub retype-sure : (e : ℕ) (ty : Marker) (s : State) → Sure s → Sure (retype_of e ty s)
retype-sure = un-retype Stays stays_same stays_on stays-events stays-refused

inlines-sure : (text : List ℕ) (k : Kind) (first : Bool) (ls : List Span) (s : State) → Sure s → Sure (inlines_of text k first ls s)
inlines-sure = un-inlines Stays stays_same stays_on stays-events stays-refused

caption-lines-sure : (text : List ℕ) (first : Bool) (ls : List Span) (s : State) → Sure s → Sure (caption_lines text first ls s)
caption-lines-sure = un-caption-lines Stays stays_same stays_on stays-events stays-refused

rows-sure : (text : List ℕ) (ls : List Span) (r : Rows) → Sure r.st → Sure (rows_of text ls r).st
rows-sure = un-rows Stays stays_same stays_on stays-events stays-refused

pub admit-sure : (lim : Limits) (left : ℕ) (top : Bool) (m : Met) (s : State) → Sure s → Sure (admit_of lim left top m s)
admit-sure = un-admit Stays stays_same stays_on stays-events stays-refused

-- ---- an Enter, an Exit
pub enter-sure : (x : Node) (fs : List Frame) (g : List Event) (s : State) → Holds fs g s → length fs ≤ 120 → Sure s → Sure (enter_of x s)
unfolding enter_of
enter-sure x fs g s h l p =
    let n = holds-count fs g s h in
    of-pick Sure (leb 128 (length s.opn)) _ _ (λ e. absurd (omega (arith, leb-true 128 (length s.opn) e, n, l)))
    (λ e. sure-go (push_of (enter_event x) s) _ (push-sure (enter_event x) s p) (λ z. push-sure (enter_event x) s p))

-- an open Enter stands whole
pub open-whole : (us : List Frame) (f : Frame) (fs : List Frame) (g : List Event) (s : State) → Holds (us ++ (f ∷ fs)) g s
    → width * length (flat fs ++ f.before) + width * suc (length (flat us ++ g)) ≡ length s.evs
open-whole us f fs g s h =
    let xs = flat fs ++ f.before in
    let ys = flat us ++ g in
    omega (arith, holds-words (us ++ (f ∷ fs)) g s h, ap (λ (v : List Event). length v) (flat-at us f fs g), length-append xs (f.enter ∷ ys))

close-sure : (i j o : ℕ) (s : State) → leb (o + 8) (length s.evs) ≡ true → eqb (get_or s.evs o 0) 1 ≡ true → Sure s → Sure (close_of i j o s)
unfolding close_of
close-sure i j o s w r p =
    let x = exit_event s.evs o i j in
    rw (w, r) (sure-go (push_of x s) _ (push-sure x s p) (λ z. push-sure x s p))

pub exit-sure : (i j : ℕ) (f : Frame) (fs : List Frame) (g : List Event) (s : State) → Holds (f ∷ fs) g s → f.enter.role ≡ 1 → Sure s → Sure (exit_of i j s)
exit-sure i j f fs g s h r p = subst Sure (sym (exit-close i j f fs g s h)) closes
  where
    place : ℕ
    place = width * length (flat fs ++ f.before)

    whole : leb (place + 8) (length s.evs) ≡ true
    whole = le-leb (place + 8) (length s.evs) (omega (arith, open-whole [] f fs g s h))

    role : eqb (get_or s.evs place 0) 1 ≡ true
    role =
        let n : place ≡ place + 0 = omega arith in
        eq-eqb (get_or s.evs place 0) 1 (ap (λ (k : ℕ). get_or s.evs k 0) n ∙ enter-word f fs g s.evs h.evs 0 (omega arith) ∙ r)

    closes : Sure (close_of i j place s)
    closes = close-sure i j place s whole role p

-- ---- a leaf without its section, and a table
module _ (text : List ℕ) where
  pub leaf-sure : (m : Met) (line : ℕ) (top : Bool) (ls : List Span) (fs : List Frame) (g : List Event) (s : State) → Inside text ls → Holds fs g s → length fs ≤ 120 → Sure s
      → Sure (leaf_events text m line top ls s)
  leaf-sure m line top ls fs g s i h l p =
      let x = leaf_node m line top in
      let a = enter_of x s in
      let b = inlines_of text m.kind true ls a in
      let f : Frame = record { before = g; enter = enter_event x } in
      let q = enter-sure x fs g s h l p in
      sure-go a _ q (λ za.
      sure-go b _ (inlines-sure text m.kind true ls a q) (λ zb.
      let k = inlines-lined text m.kind true ls (f ∷ fs) [] a i (holds-enter x fs g s h za) zb in
      exit-sure m.from m.to f fs k.lines b k.holds refl (sure-zero b zb)))

  caption-sure : (m : Met) (ls : List Span) (fs : List Frame) (g : List Event) (s : State) → Inside text ls → Holds fs g s → length fs ≤ 120 → Sure s → Sure (caption_of text m ls s)
  unfolding caption_of
  caption-sure m [] fs g s i h l p = p
  caption-sure m (y ∷ ls) fs g s i h l p =
      let x = node 19 m.start m.end 0 0 0 0 in
      let a = enter_of x s in
      let b = caption_lines text true (y ∷ ls) a in
      let f : Frame = record { before = g; enter = enter_event x } in
      let q = enter-sure x fs g s h l p in
      sure-go a _ q (λ za.
      sure-go b _ (caption-lines-sure text true (y ∷ ls) a q) (λ zb.
      let k = lines-grown text true (y ∷ ls) (f ∷ fs) [] a i (holds-enter x fs g s h za) zb in
      exit-sure m.from m.to f fs k.more b k.holds refl (sure-zero b zb)))

  pub table-sure : (m : Met) (line : ℕ) (ls : List Span) (fs : List Frame) (g : List Event) (s : State) → Fit text m line → Inside text ls → Holds fs g s → length fs ≤ 119 → Sure s
      → Sure (table_of text m ls s)
  unfolding table_of
  table-sure m line ls fs g s t i h l p =
      let c = caption_line text ls in
      let x = node 12 m.start m.end 0 0 0 0 in
      let f : Frame = record { before = g; enter = enter_event x } in
      let a = enter_of x s in
      let b = caption_of text m (drop c ls) a in
      let d = (rows_of text (take c ls) (rows b [] 0 0)).st in
      let q = enter-sure x fs g s h (omega arith) p in
      let v : Spans text m = record { start = t.start; end = t.end; from = t.from; to = t.to } in
      sure-go a _ q (λ za.
      let ha = holds-enter x fs g s h za in
      let qb = caption-sure m (drop c ls) (f ∷ fs) [] a (inside-drop text c ls i) ha (omega arith) q in
      sure-go b _ qb (λ zb.
      sure-go d _ (rows-sure text (take c ls) (rows b [] 0 0) qb) (λ zd.
      let u = caption-grown text m (drop c ls) (f ∷ fs) [] a v (inside-drop text c ls i) ha zb in
      let k = rows_grown text (take c ls) (f ∷ fs) u.more b (inside_take text c ls i) u.holds zd in
      exit-sure m.from m.to f fs (u.more ++ k.more) d k.holds refl (sure-zero d zd))))
