-- What the single steps of the walk do to the open events, lists and sections: most leave all three as they were. Assumes nothing.
use mathlib.Core.Path.{◌≡◌, refl, ◌∙◌}
use mathlib.Core.Bool.{Bool, true, false}
use mathlib.Core.List.{List, [], ◌∷◌, ◌++◌}
use Prim.Native.Nat.{ℕ, ◌+◌, ◌-◌}
use native.Mathlib.Omega.{arith}
use lib.Dec.{eqb, leb}
use lib.ListN.{length, take, drop, get_or, length-append}
use lib.Seq.{take_at}
use borrow.Author.Tests.{eqb-true, eqb-false}
use Rattle.classes.specs.Choice.{pick, both}
use Rattle.lines.specs.Lines.{Span}
use Rattle.markers.specs.declared.Marker.{Marker}
use Rattle.kinds.specs.declared.Kind.{Kind}
use Rattle.measure.specs.Continue.{kind_num}
use Rattle.events.specs.State.{State, with_evs, with_opn, refuse_of, go}
use Rattle.events.specs.Events.{push_of, whole_at, enter_event, enter_of, exit_event, close_of, exit_of}
use Rattle.events.specs.declared.Event.{Event}
use Rattle.events.specs.declared.Node.{Node}
use Rattle.lists.specs.Lists.{retype_of}
use Rattle.moves.specs.Moves.{sections_of}
use Rattle.walk.specs.Leaf.{node, inlines_of, leaf_node}
use Rattle.walk.specs.Table.{rows, caption_line, caption_lines, caption_of, rows_of, table_of}
use Rattle.walk.specs.Tree.{count_of, admit_of, loosen_of, open_term, attr_of}
use Rattle.walk.specs.declared.Met.{Met}
use Rattle.walk.specs.declared.Limits.{Limits}
use Rattle.theorems.proofs.Untouched.{un-pick, un-push, un-retype, un-exits, un-inlines, un-caption-lines, un-rows, un-admit, un-loosen}

-- ---- refusals
-- what is shown of a step that was made holds of all that was not refused
pub passed : (a : State) (f : State → State) (P : State → Type 0) → (a.number ≡ 0 → (f a).number ≡ 0 → P (f a)) → (go a f).number ≡ 0 → P (go a f)
unfolding go
passed a f P h = by-case (eqb a.number 0) refl
  where
    by-case : (b : Bool) → eqb a.number 0 ≡ b → (pick b (f a) a).number ≡ 0 → P (pick b (f a) a)
    by-case true e z = h (eqb-true a.number 0 e) z
    by-case false e z = absurd (eqb-false a.number 0 e z)

pub chosen : (b : Bool) (x y : State) (P : State → Type 0) → (b ≡ true → x.number ≡ 0 → P x) → (b ≡ false → y.number ≡ 0 → P y) → (pick b x y).number ≡ 0 → P (pick b x y)
chosen true x y P p q z = p refl z
chosen false x y P p q z = q refl z

-- ---- one step after another
-- the open events, lists and sections are as they were
abbrev pub Same : State → State → Type 0
Same s r = (r.opn ≡ s.opn) × (r.lst ≡ s.lst) × (r.sec ≡ s.sec)

same-same : (s : State) → Same s s
same-same s = (refl, refl, refl)

pub same-on : (s a r : State) → Same s a → Same a r → Same s r
same-on s a r p q = (q.0 ∙ p.0, q.1 ∙ p.1, q.2 ∙ p.2)

same-events : (e : List ℕ) (s : State) → Same s (with_evs e s)
same-events e s = (refl, refl, refl)

same-refused : (n : ℕ) → (n ≡ 7 → ⊥) → (s : State) → Same s (refuse_of n s)
same-refused n k s = (refl, refl, refl)

same-seven : (s : State) → Same s (refuse_of 7 s)
same-seven s = (refl, refl, refl)

same-pick : (b : Bool) (s x y : State) → Same s x → Same s y → Same s (pick b x y)
same-pick = un-pick Same same-same same-on same-events same-refused

-- ---- events
pub same-push : (x : Event) (s : State) → Same s (push_of x s)
same-push = un-push Same same-same same-on same-events same-refused

-- the events that are open in s, and one more
pub record Entered (s r : State) : Type 0 where
  pub place : ℕ
  pub opn : r.opn ≡ s.opn ++ (place ∷ [])
  pub lst : r.lst ≡ s.lst
  pub sec : r.sec ≡ s.sec

pub enter_step : (x : Node) (s : State) → (enter_of x s).number ≡ 0 → Entered s (enter_of x s)
unfolding enter_of
enter_step x s =
    let k = same-push (enter_event x) s in
    chosen (leb 128 (length s.opn)) _ _ (λ r. Entered s r) (λ e z. absurd (omega arith)) (λ e.
    passed (push_of (enter_event x) s) _ (λ r. Entered s r) (λ y z. record { place = length s.evs; opn = refl; lst = k.1; sec = k.2 }))

-- the last of some places taken off
but_last : (o q : List ℕ) (x : ℕ) → o ≡ q ++ (x ∷ []) → take (length o - 1) o ≡ q
but_last o q x e = rw e (take_at q (x ∷ []) (length (q ++ (x ∷ [])) - 1) (omega (arith, length-append q (x ∷ []))))

close-event : (i j o : ℕ) (y s : State) → Entered y s → (close_of i j o s).number ≡ 0 → Same y (close_of i j o s)
unfolding close_of
close-event i j o y s h =
    let x = exit_event s.evs o i j in
    let off : State → State = with_opn (take (length s.opn - 1) s.opn) in
    let k = same-push x s in
    chosen (both (whole_at s.evs o) (eqb (get_or s.evs o 0) 1)) (go (push_of x s) off) (refuse_of 7 s) (λ r. Same y r)
    (λ e. passed (push_of x s) off (λ r. Same y r) (λ u v. (but_last s.opn y.opn h.place h.opn, k.1 ∙ h.lst, k.2 ∙ h.sec)))
    (λ e z. absurd (omega arith))

pub exit-step : (i j : ℕ) (y s : State) → Entered y s → (exit_of i j s).number ≡ 0 → Same y (exit_of i j s)
unfolding exit_of
exit-step i j y s h =
    let o = get_or s.opn (length s.opn - 1) 0 in
    chosen (eqb (length s.opn) 0) (refuse_of 7 s) (close_of i j o s) (λ r. Same y r) (λ e z. absurd (omega arith)) (λ e. close-event i j o y s h)

entered_on : (y s r : State) → Entered y s → Same s r → Entered y r
entered_on y s r h k = record { place = h.place; opn = k.0 ∙ h.opn; lst = k.1 ∙ h.lst; sec = k.2 ∙ h.sec }

pub same-retype : (e : ℕ) (ty : Marker) (s : State) → Same s (retype_of e ty s)
same-retype = un-retype Same same-same same-on same-events same-refused

pub same-exits : (pos a : ℕ) (os : List ℕ) (s : State) → Same s (sections_of pos a os s)
same-exits = un-exits Same same-same same-on same-events same-refused same-seven

pub same-inlines : (text : List ℕ) (k : Kind) (first : Bool) (ls : List Span) (s : State) → Same s (inlines_of text k first ls s)
same-inlines = un-inlines Same same-same same-on same-events same-refused

-- ---- leaves
-- a leaf's events without its section
abbrev pub leaf_events : List ℕ → Met → ℕ → Bool → List Span → State → State
leaf_events text m line top ls s = go (enter_of (leaf_node m line top) s) (λ b. go (inlines_of text m.kind true ls b) (exit_of m.from m.to))

pub same-leaf : (text : List ℕ) (m : Met) (line : ℕ) (top : Bool) (ls : List Span) (s : State) → (leaf_events text m line top ls s).number ≡ 0 → Same s (leaf_events text m line top ls s)
same-leaf text m line top ls s =
    let a = enter_of (leaf_node m line top) s in
    let b = inlines_of text m.kind true ls a in
    passed a _ (λ r. Same s r) (λ za.
    passed b _ (λ r. Same s r) (λ zb.
    exit-step m.from m.to s b (entered_on s a b (enter_step (leaf_node m line top) s za) (same-inlines text m.kind true ls a))))

-- ---- tables
same-caption : (text : List ℕ) (m : Met) (ls : List Span) (s : State) → (caption_of text m ls s).number ≡ 0 → Same s (caption_of text m ls s)
unfolding caption_of
same-caption text m [] s = λ z. (refl, refl, refl)
same-caption text m (l ∷ ls) s =
    let a = enter_of (node 19 m.start m.end 0 0 0 0) s in
    let b = caption_lines text true (l ∷ ls) a in
    passed a _ (λ r. Same s r) (λ za.
    passed b _ (λ r. Same s r) (λ zb.
    exit-step m.from m.to s b (entered_on s a b (enter_step _ s za) (un-caption-lines Same same-same same-on same-events same-refused text true (l ∷ ls) a))))

pub same-table : (text : List ℕ) (m : Met) (ls : List Span) (s : State) → (table_of text m ls s).number ≡ 0 → Same s (table_of text m ls s)
unfolding table_of
same-table text m ls s =
    let c = caption_line text ls in
    let a = enter_of (node 12 m.start m.end 0 0 0 0) s in
    let b = caption_of text m (drop c ls) a in
    let d = (rows_of text (take c ls) (rows b [] 0 0)).st in
    let k = un-rows Same same-same same-on same-events same-refused text (take c ls) (rows b [] 0 0) in
    passed a _ (λ r. Same s r) (λ za.
    passed b _ (λ r. Same s r) (λ zb.
    passed d _ (λ r. Same s r) (λ zd.
    exit-step m.from m.to s d (entered_on s a d (enter_step _ s za) (same-on a b d (same-caption text m (drop c ls) a zb) k)))))

-- ---- before and after a block's own events
pub same_count : (at n : ℕ) (s : State) → Same s (count_of at n s)
unfolding count_of
same_count at n s = same-pick (leb 18446744073709551616 (s.looks + n)) s _ _ (refl, refl, refl) (refl, refl, refl)

pub same-admit : (lim : Limits) (left : ℕ) (top : Bool) (m : Met) (s : State) → Same s (admit_of lim left top m s)
same-admit = un-admit Same same-same same-on same-events same-refused

pub same-loosen : (m : Met) (s : State) → Same s (loosen_of m s)
same-loosen = un-loosen Same same-same same-on same-events same-refused same-seven (λ b l s. (refl, refl, refl))

pub same-attr : (m : Met) (w : ℕ) (s : State) → Same s (attr_of m w s)
same-attr m w s = same-pick (eqb (kind_num m.kind) 2) s _ _ (refl, refl, refl) (refl, refl, refl)

-- a description item's term, entered and left
pub same-term : (m : Met) (s : State) → (open_term m s).number ≡ 0 → Same s (open_term m s)
unfolding open_term
same-term m s =
    let a = enter_of (node 17 m.start m.end 0 0 0 0) s in
    passed a _ (λ r. Same s r) (λ za. exit-step m.end m.end s a (enter_step _ s za))
