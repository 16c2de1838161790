-- What the steps of the walk leave as it was: the looks and the nesting left. Assumes nothing.
use mathlib.Core.Path.{◌≡◌, refl, ◌∙◌}
use mathlib.Core.Bool.{Bool, true, false}
use mathlib.Core.List.{List, [], ◌∷◌}
use Prim.Native.Nat.{ℕ, zero, suc, ◌-◌}
use lib.Dec.{eqb, leb, ltb}
use lib.ListN.{length, get_or}
use borrow.Author.Tests.{eqb-true}
use Rattle.classes.specs.Choice.{pick, both}
use Rattle.lines.specs.Lines.{Span}
use Rattle.markers.specs.Markers.{marker_num}
use Rattle.markers.specs.Lists.{continues_of}
use Rattle.markers.specs.declared.Marker.{Marker}
use Rattle.markers.specs.declared.Continued.{Continued}
use Rattle.std.specs.Prelude.{Option, Some, None}
use Rattle.measure.specs.Continue.{kind_num}
use Rattle.events.specs.State.{State, with_evs, refuse_of, go}
use Rattle.events.specs.Events.{push_of, whole_at, enter_of, close_of, exit_of}
use Rattle.events.specs.declared.Event.{Event}
use Rattle.events.specs.declared.Node.{Node}
use Rattle.lists.specs.Lists.{push_list_of, last_list_of, set_list_of, pop_list_of, retype_of, end_of, close_of as close_as_of, close_list_of}
use Rattle.lists.specs.declared.OpenList.{OpenList}
use Rattle.walk.specs.Fields.{marker_in}
use Rattle.walk.specs.Leaf.{begin_section, end_sections, section_at, section_of, leaf_of}
use Rattle.walk.specs.Table.{rows, caption_of, table_of}
use Rattle.walk.specs.Tree.{admit_of, list_here, go_on, settle_of, loosen_of, open_here, open_list, open_term, open_container, settle_term, close_inner, close_container, plain_of, attr_of}
use Rattle.walk.specs.Document.{close_lists, close_sections, close_all}
use Rattle.walk.specs.declared.Met.{Met}
use Rattle.walk.specs.declared.Limits.{Limits}
use Rattle.theorems.proofs.Untouched.{un-pick, un-go, un-push, un-retype, un-exits, un-inlines, un-caption-lines, un-rows, un-admit, un-loosen, un-settle-term}

-- ---- refusals
-- what was not refused after a step was not refused before it, and the step was made
pass : (b : Bool) (a r : State) → (b ≡ true → a.number ≡ 0) → (pick b r a).number ≡ 0 → a.number ≡ 0
pass true a r h z = h refl
pass false a r h z = z

pub accepted : (a : State) (f : State → State) → (go a f).number ≡ 0 → a.number ≡ 0
unfolding go
accepted a f z = pass (eqb a.number 0) a (f a) (eqb-true a.number 0) z

-- ---- one step after another
-- the looks and the nesting left are as they were
abbrev pub Kept : State → State → Type 0
Kept s r = (r.looks ≡ s.looks) × (r.spare ≡ s.spare)

kept_same : (s : State) → Kept s s
kept_same s = (refl, refl)

kept_on : (s a r : State) → Kept s a → Kept a r → Kept s r
kept_on s a r p q = (q.0 ∙ p.0, q.1 ∙ p.1)

kept-events : (e : List ℕ) (s : State) → Kept s (with_evs e s)
kept-events e s = (refl, refl)

kept-refused : (n : ℕ) → (n ≡ 7 → ⊥) → (s : State) → Kept s (refuse_of n s)
kept-refused n k s = (refl, refl)

kept-seven : (s : State) → Kept s (refuse_of 7 s)
kept-seven s = (refl, refl)

kept-pick : (b : Bool) (s x y : State) → Kept s x → Kept s y → Kept s (pick b x y)
kept-pick = un-pick Kept kept_same kept_on kept-events kept-refused

pub kept-go : (s a : State) (f : State → State) → Kept s a → ((x : State) → Kept x (f x)) → Kept s (go a f)
kept-go = un-go Kept kept_same kept_on kept-events kept-refused

-- ---- events
kept_push : (x : Event) (s : State) → Kept s (push_of x s)
kept_push = un-push Kept kept_same kept_on kept-events kept-refused

pub kept-enter : (x : Node) (s : State) → Kept s (enter_of x s)
unfolding enter_of
kept-enter x s = kept-pick (leb 128 (length s.opn)) s _ _ (refl, refl) (kept-go s _ _ (kept_push _ s) (λ a. (refl, refl)))

kept-close : (i j o : ℕ) (s : State) → Kept s (close_of i j o s)
unfolding close_of
kept-close i j o s =
    kept-pick (both (whole_at s.evs o) (eqb (get_or s.evs o 0) 1)) s _ _
    (kept-go s _ _ (kept_push _ s) (λ a. (refl, refl)))
    (refl, refl)

kept-exit : (i j : ℕ) (s : State) → Kept s (exit_of i j s)
unfolding exit_of
kept-exit i j s = kept-pick (eqb (length s.opn) 0) s _ _ (refl, refl) (kept-close i j _ s)

-- ---- open lists
kept-push-list : (o : OpenList) (s : State) → Kept s (push_list_of o s)
unfolding push_list_of
kept-push-list o s = kept-pick (leb 160 (length s.lst)) s _ _ (refl, refl) (refl, refl)

kept-set-list : (o : OpenList) (s : State) → Kept s (set_list_of o s)
unfolding set_list_of
kept-set-list o s = (refl, refl)

kept-pop-list : (s : State) → Kept s (pop_list_of s)
unfolding pop_list_of
kept-pop-list s = (refl, refl)

kept-end : (pos : ℕ) (o : OpenList) (e : ℕ) (s : State) → Kept s (end_of pos o e s)
unfolding end_of
kept-end pos o e s =
    let a = retype_of e o.start s in
    kept-pick (whole_at s.evs e) s _ _
    (kept-go s _ _ (kept_on s a (exit_of pos pos a) (un-retype Kept kept_same kept_on kept-events kept-refused e o.start s) (kept-exit pos pos a)) kept-pop-list)
    (refl, refl)

kept-close-as : (pos : ℕ) (o : OpenList) (s : State) → Kept s (close_as_of pos o s)
unfolding close_as_of
kept-close-as pos o s =
    kept-pick (eqb o.depth 0) s _ _ (refl, refl)
    (kept-pick (ltb (length s.opn) o.depth) s _ _ (refl, refl)
    (kept-end pos o _ s))

kept-close-list : (pos : ℕ) (s : State) → Kept s (close_list_of pos s)
unfolding close_list_of
kept-close-list pos s = kept-pick (eqb (length s.lst) 0) s _ _ (refl, refl) (kept-close-as pos (last_list_of s) s)

-- ---- leaf blocks
kept-begin : (level i kept : ℕ) (s : State) → Kept s (begin_section level i kept s)
unfolding begin_section
kept-begin level i kept s = kept-pick (leb 32 kept) s _ _ (refl, refl) (kept-enter _ _)

kept-ends : (kept pos word : ℕ) (s : State) → Kept s (end_sections kept pos word s)
unfolding end_sections
kept-ends kept pos word s =
    kept-pick (ltb (length s.opn) (length s.sec - kept)) s _ _ (refl, refl)
    (kept-go s _ _ (un-exits Kept kept_same kept_on kept-events kept-refused kept-seven pos word _ s) (λ a. (refl, refl)))

kept-section-at : (level i pos word : ℕ) (s : State) → Kept s (section_at level i pos word s)
unfolding section_at
kept-section-at level i pos word s = kept-go s _ _ (kept-ends _ pos word s) (kept-begin level i _)

kept-section : (level i : ℕ) (s : State) → Kept s (section_of level i s)
unfolding section_of
kept-section level i s =
    kept-pick (eqb s.attr 0) s _ _ (kept-section-at level i i _ s)
    (kept-pick (whole_at s.evs (s.attr - 1)) s _ _ (kept-section-at level i _ _ s)
    (refl, refl))

kept-leaf : (text : List ℕ) (m : Met) (line : ℕ) (top : Bool) (ls : List Span) (s : State) → Kept s (leaf_of text m line top ls s)
unfolding leaf_of
kept-leaf text m line top ls s =
    kept-go s _ _ (kept-pick (both top (eqb (kind_num m.kind) 5)) s _ _ (kept-section _ m.start s) (refl, refl)) (λ a.
    kept-go a _ _ (kept-enter _ a) (λ b.
    kept-go b _ _ (un-inlines Kept kept_same kept_on kept-events kept-refused text m.kind true ls b) (kept-exit m.from m.to)))

-- ---- tables
kept-caption : (text : List ℕ) (m : Met) (ls : List Span) (s : State) → Kept s (caption_of text m ls s)
unfolding caption_of
kept-caption text m [] s = (refl, refl)
kept-caption text m (l ∷ ls) s =
    kept-go s _ _ (kept-enter _ s) (λ a.
    kept-go a _ _ (un-caption-lines Kept kept_same kept_on kept-events kept-refused text true (l ∷ ls) a) (kept-exit m.from m.to))

kept_table : (text : List ℕ) (m : Met) (ls : List Span) (s : State) → Kept s (table_of text m ls s)
unfolding table_of
kept_table text m ls s =
    kept-go s _ _ (kept-enter _ s) (λ a.
    kept-go a _ _ (kept-caption text m _ a) (λ b.
    kept-go b _ _ (un-rows Kept kept_same kept_on kept-events kept-refused text _ (rows b [] 0 0)) (kept-exit m.from m.to)))

-- ---- before a block's own events
pub kept-admit : (lim : Limits) (left : ℕ) (top : Bool) (m : Met) (s : State) → Kept s (admit_of lim left top m s)
kept-admit = un-admit Kept kept_same kept_on kept-events kept-refused

kept-go-on : (o : OpenList) (pos : ℕ) (c : Option Continued) (s : State) → Kept s (go_on o pos c s)
kept-go-on o pos None s = kept-close-list pos s
kept-go-on o pos (Some x) s = kept-set-list _ s

pub kept-settle : (m : Met) (s : State) → Kept s (settle_of m s)
unfolding settle_of
kept-settle m s =
    let o = last_list_of s in
    kept-pick (list_here s) s _ _
    (kept-pick (eqb (kind_num m.kind) 9) s _ _
    (kept-go-on o m.start (continues_of o.prev (marker_in m.kind)) s)
    (kept-close-list m.start s))
    (refl, refl)

pub kept-loosen : (m : Met) (s : State) → Kept s (loosen_of m s)
kept-loosen = un-loosen Kept kept_same kept_on kept-events kept-refused kept-seven (λ b l s. (refl, refl))

-- ---- containers: Enters
kept-open-list : (ty : Marker) (pos : ℕ) (s : State) → Kept s (open_list ty pos s)
unfolding open_list
kept-open-list ty pos s = kept-pick (open_here s) s _ _ (refl, refl) (kept-go s _ _ (kept-enter _ s) (λ a. kept-push-list _ a))

kept-open-term : (m : Met) (s : State) → Kept s (open_term m s)
unfolding open_term
kept-open-term m s = kept-go s _ _ (kept-enter _ s) (kept-exit m.end m.end)

pub kept-open-container : (text : List ℕ) (m : Met) (line : ℕ) (s : State) → Kept s (open_container text m line s)
unfolding open_container
kept-open-container text m line s =
    let ty = marker_in m.kind in
    kept-go s _ _ (kept-pick (eqb (kind_num m.kind) 9) s _ _ (kept-open-list ty m.start s) (refl, refl)) (λ a.
    kept-go a _ _ (kept-pick (eqb (marker_num ty) 4) a _ _ (kept-open-term m a) (refl, refl)) (kept-enter _))

-- ---- containers: Exits
kept-settle-term : (d : ℕ) (s : State) → Kept s (settle_term d s)
kept-settle-term = un-settle-term Kept kept_same kept_on kept-events kept-refused kept-seven (λ o s. (refl, refl))

kept-close-inner : (pos : ℕ) (s : State) → Kept s (close_inner pos s)
unfolding close_inner
kept-close-inner pos s = kept-pick (list_here s) s _ _ (kept-close-list pos _) (refl, refl)

pub kept-close-container : (m : Met) (d : ℕ) (s : State) → Kept s (close_container m d s)
unfolding close_container
kept-close-container m d s =
    kept-go s _ _ (kept-pick (eqb (marker_num (marker_in m.kind)) 4) s _ _ (kept-settle-term d s) (refl, refl)) (λ a.
    kept-go a _ _ (kept-close-inner m.from a) (kept-exit m.from m.to))

-- ---- blocks
pub kept-plain : (text : List ℕ) (top : Bool) (m : Met) (line : ℕ) (ls : List Span) (s : State) → Kept s (plain_of text top m line ls s)
unfolding plain_of
kept-plain text top m line ls s =
    let k = kind_num m.kind in
    kept-pick (leb k 3) s _ _ (kept_push _ s)
    (kept-pick (eqb k 10) s _ _ (kept_table text m ls s)
    (kept-leaf text m line top ls s))

pub kept-attr : (m : Met) (w : ℕ) (s : State) → Kept s (attr_of m w s)
kept-attr m w s = kept-pick (eqb (kind_num m.kind) 2) s _ _ (refl, refl) (refl, refl)

-- ---- the final closings
kept-close-lists : (pos n : ℕ) (s : State) → Kept s (close_lists pos n s)
unfolding close_lists
kept-close-lists pos zero s = (refl, refl)
kept-close-lists pos (suc n) s = kept-go s _ _ (kept-close-list pos s) (kept-close-lists pos n)

kept-close-sections : (pos n : ℕ) (s : State) → Kept s (close_sections pos n s)
unfolding close_sections
kept-close-sections pos zero s = (refl, refl)
kept-close-sections pos (suc n) s = kept-go s _ _ (kept-exit pos pos s) (kept-close-sections pos n)

pub kept-close-all : (e : ℕ) (s : State) → Kept s (close_all e s)
unfolding close_all
kept-close-all e s =
    kept-go s _ _ (kept-close-lists e _ _) (λ a.
    kept-go a _ _ (kept-close-sections e _ a) (kept-exit e e))
