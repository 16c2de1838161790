-- A description item's first paragraph becomes its term while a list is open in the item. Assumes nothing.
use mathlib.Core.Path.{◌≡◌, refl, sym, ap, ap₂, subst, ◌∙◌}
use mathlib.Core.Logic.{⊎_elim}
use mathlib.Core.Bool.{Bool}
use mathlib.Core.List.{List, [], ◌∷◌, ◌++◌, append_assoc}
use Prim.Native.Nat.{ℕ, suc, ◌+◌, ◌-◌, ◌*◌, ◌≤◌}
use native.Mathlib.Omega.{arith}
use lib.ListN.{length, drop, get_or, set, length-append}
use lib.Seq.{set-append_left}
use Rattle.classes.specs.Choice.{pick}
use Rattle.events.specs.State.{State, with_evs, with_opn}
use Rattle.events.specs.Events.{width}
use Rattle.events.specs.Pack.{pack_of}
use Rattle.events.specs.declared.Event.{Event}
use Rattle.events.proofs.PackLaws.{pack-length, pack-append}
use Rattle.moves.specs.Moves.{is_at, find_of}
use Rattle.walk.specs.Leaf.{mark}
use Rattle.walk.specs.Tree.{stale, move_term, term_of, settle_term}
use Rattle.theorems.proofs.Nests.{Roles, Frame, flat, places, Holds}
use Rattle.theorems.proofs.WholeLaws.{closing, fines-append}
use Rattle.theorems.proofs.HoldLaws.{places_count}
use Rattle.theorems.proofs.Trees.{Framed, Tree, Termed, Paragraph, NoParagraph, Led}
use Rattle.theorems.proofs.TermTree.{term_is, word-find, Settled, settled, Moved, lead, item, left, turned, term_words, term-place, inner-fines, left-fine, term_moved, other-kept, paragraph-is, settle_is}

-- the list's Enter as it was, behind other events
abbrev pub behind_as : List Event → Frame → Frame
behind_as g u = record { before = g; enter = u.enter }

pub record MovedInner (text : List ℕ) (u : Frame) (fs : List Frame) (k : List Event) (s r : State) : Type 0 where
  pub frame : Frame
  pub behind : List Event
  pub tree : Tree text (behind_as behind u ∷ (frame ∷ fs)) k r

-- ---- events with an Enter among them
-- Atoms at the front end before it
record Before (bs hs rs : List Event) (e : Event) (ms : List Event) : Type 0 where
  mid : List Event
  front : rs ≡ bs ++ mid
  back : hs ≡ mid ++ (e ∷ ms)

atoms-before : (bs hs rs : List Event) (e : Event) (ms : List Event) → rs ++ (e ∷ ms) ≡ bs ++ hs → Roles 4 bs → e.role ≡ 1 → Before bs hs rs e ms
atoms-before [] hs rs e ms q p o = record { mid = rs; front = refl; back = sym q }
atoms-before (b ∷ bs) hs [] e ms q p o = absurd (omega (arith, o, p.0, ap (λ (l : List Event). (get_or l 0 e).role) q))
atoms-before (b ∷ bs) hs (r ∷ rs) e ms q p o =
    let n = atoms-before bs hs rs e ms (ap (λ (l : List Event). drop 1 l) q) p.1 o in
    record { mid = n.mid; front = ap₂ (λ (x : Event) (l : List Event). x ∷ l) (ap (λ (l : List Event). get_or l 0 e) q) n.front; back = n.back }

-- ---- the item f, with the list u open in it
module _ (text : List ℕ) (u f : Frame) (fs : List Frame) (k : List Event) (s : State) (tr : Tree text (u ∷ (f ∷ fs)) k s) where
  -- the state as if it ended before the list
  abbrev short : State
  short = with_opn (places (f ∷ fs)) (with_evs (pack_of (flat (f ∷ fs) ++ u.before)) s)

  short-tree : Tree text (f ∷ fs) u.before short
  short-tree = let p = tr.frames.0 in record { holds = record { evs = refl; opn = refl }; frames = tr.frames.1; whole = p.whole; fines = p.fines }

  long-words : s.evs ≡ pack_of (flat (f ∷ fs) ++ u.before) ++ pack_of (u.enter ∷ k)
  unfolding flat
  long-words =
      let e : flat (u ∷ (f ∷ fs)) ++ k ≡ (flat (f ∷ fs) ++ u.before) ++ (u.enter ∷ k) = simp append_assoc in
      tr.holds.evs ∙ ap pack_of e ∙ pack-append (flat (f ∷ fs) ++ u.before) (u.enter ∷ k)

  -- its own events, and the list's Enter among them
  pub long-holds : Holds (f ∷ fs) (u.before ++ (u.enter ∷ k)) (with_opn (places (f ∷ fs)) s)
  long-holds = record {
    evs = long-words ∙ sym (pack-append (flat (f ∷ fs) ++ u.before) (u.enter ∷ k)) ∙ ap pack_of (append_assoc (flat (f ∷ fs)) u.before (u.enter ∷ k));
    opn = refl;
  }

  list-framed : (g : List Event) (e : Frame) (r : State) → Tree text (e ∷ fs) g r → Framed text (behind_as g u) (length (e ∷ fs))
  list-framed g e r t =
      let p = tr.frames.0 in
      record { role = p.role; node = p.node; first = λ z. absurd (omega (arith, z)); fine = p.fine; whole = t.whole; fines = t.fines }

  -- other events before the list, as many
  long-tree : (g : List Event) (e : Frame) (a r : State) → Tree text (e ∷ fs) g a → r.evs ≡ a.evs ++ pack_of (u.enter ∷ k) → length a.evs ≡ length short.evs
      → r.opn ≡ a.opn ++ (width * length (flat (f ∷ fs) ++ u.before) ∷ []) → Tree text (behind_as g u ∷ (e ∷ fs)) k r
  unfolding flat places
  long-tree g e a r t q n o =
      let c : (flat (e ∷ fs) ++ g) ++ (u.enter ∷ k) ≡ flat (behind_as g u ∷ (e ∷ fs)) ++ k = simp append_assoc in
      let m : width * length (flat (f ∷ fs) ++ u.before) ≡ width * length (flat (e ∷ fs) ++ g) =
      sym (pack-length (flat (f ∷ fs) ++ u.before)) ∙ sym n ∙ ap (λ (w : List ℕ). length w) t.holds.evs ∙ pack-length (flat (e ∷ fs) ++ g) in
      record {
        holds = record {
          evs = q ∙ ap (λ (w : List ℕ). w ++ pack_of (u.enter ∷ k)) t.holds.evs ∙ sym (pack-append (flat (e ∷ fs) ++ g) (u.enter ∷ k)) ∙ ap pack_of c;
          opn = o ∙ ap₂ (λ (w : List ℕ) (j : ℕ). w ++ (j ∷ [])) t.holds.opn m;
        };
        frames = (list-framed g e a t, t.frames);
        whole = tr.whole;
        fines = tr.fines;
      }

  -- a paragraph is first in it
  module _ (tm : Termed (100 - length fs) f.before) (p : Paragraph (100 - suc (length fs)) u.before) (one : 1 ≤ length fs) (deep : length fs ≤ 98) where
    abbrev head : List Event
    head = lead text f fs u.before short short-tree tm p one deep

    abbrev place : ℕ
    place = item text f fs u.before short short-tree tm p one deep

    abbrev gone : Event
    gone = closing tm.enter tm.from tm.to

    abbrev last : Event
    last = left text f fs u.before short short-tree tm p one deep

    abbrev rest : List Event
    rest = p.rest ++ (u.enter ∷ k)

    para-words : s.evs ≡ pack_of (head ++ (gone ∷ f.enter ∷ p.enter ∷ (p.lines ++ (last ∷ rest))))
    para-words =
        let more = u.enter ∷ k in
        let xs = head ++ (gone ∷ f.enter ∷ p.enter ∷ (p.lines ++ (last ∷ p.rest))) in
        let c : xs ++ more ≡ head ++ (gone ∷ f.enter ∷ p.enter ∷ (p.lines ++ (last ∷ rest))) = simp append_assoc in
        long-words ∙ ap (λ (w : List ℕ). w ++ pack_of more) (term_words text f fs u.before short short-tree tm p one deep) ∙ sym (pack-append xs more) ∙ ap pack_of c

    abbrev ended : Event
    ended = turned text f fs u.before short short-tree tm p one deep

    module _ (r : State) (st : Settled text head p.lines ended rest (length fs) s r) where
      abbrev term : List Event
      term = head ++ (stale ∷ stale ∷ (p.lines ++ (ended ∷ st.blanks)))

      -- the blank lines end before the list
      parted : Before st.blanks st.behind p.rest u.enter k
      parted = atoms-before st.blanks st.behind p.rest u.enter k st.is st.atoms tr.frames.0.role

      abbrev events : List Event
      events = term ++ (mark 1 10 st.from st.from 0 ∷ parted.mid)

      abbrev after : State
      after = with_opn (set (places (f ∷ fs)) (length fs) (width * length term)) (with_evs (pack_of events) short)

      short-moved : Moved text fs short after
      short-moved = term_moved text f fs u.before short short-tree tm p one deep after (record {
        blanks = st.blanks;
        behind = parted.mid;
        is = parted.front;
        atoms = st.atoms;
        from = st.from;
        inside = st.inside;
        same = refl;
      })

      moved-words : r.evs ≡ pack_of events ++ pack_of (u.enter ∷ k)
      moved-words =
          let x = mark 1 10 st.from st.from 0 in
          ap (λ (a : State). a.evs) st.same
          ∙ ap (λ (v : List Event). pack_of (term ++ (x ∷ v))) parted.back
          ∙ ap pack_of (sym (append_assoc term (x ∷ parted.mid) (u.enter ∷ k)))
          ∙ pack-append events (u.enter ∷ k)

      moved-count : length (pack_of events) ≡ length (pack_of (flat (f ∷ fs) ++ u.before))
      moved-count =
          let x = mark 1 10 st.from st.from 0 in
          let old = gone ∷ f.enter ∷ p.enter ∷ (p.lines ++ (last ∷ p.rest)) in
          let e = ap (λ (w : List ℕ). length w) (term_words text f fs u.before short short-tree tm p one deep) in
          let n = ap (λ (v : List Event). length v) parted.front in
          omega (
            arith,
            e,
            n,
            pack-length events,
            pack-length (head ++ old),
            length-append term (x ∷ parted.mid),
            length-append head (stale ∷ stale ∷ (p.lines ++ (ended ∷ st.blanks))),
            length-append p.lines (ended ∷ st.blanks),
            length-append head old,
            length-append p.lines (last ∷ p.rest),
            length-append st.blanks parted.mid,
          )

      moved_open : r.opn ≡ after.opn ++ (width * length (flat (f ∷ fs) ++ u.before) ∷ [])
      unfolding places
      moved_open =
          let w = width * length term in
          ap (λ (a : State). a.opn) st.same
          ∙ ap (λ (o : List ℕ). set o (length fs) w) tr.holds.opn
          ∙ set-append_left (places (f ∷ fs)) _ (length fs) w (omega (arith, places_count (f ∷ fs)))

      list-moved : MovedInner text u fs k s r
      list-moved =
          let w = short-moved in
          record { frame = w.frame; behind = w.behind; tree = long-tree w.behind w.frame after r w.tree moved-words moved-count moved_open }

    paragraph-moved : MovedInner text u fs k s (move_term (length fs) place (find_of 2 15 (place + width + width) s) s)
    paragraph-moved =
        let at = term-place text f fs u.before short short-tree tm p one deep in
        let v = inner-fines text f fs u.before short short-tree tm p one deep in
        let y = left-fine text f fs u.before short short-tree tm p one deep in
        let e = word-find head gone f.enter p.enter p.lines last rest place at s para-words p.inlines refl p.node in
        let z = fines-append text p.rest (u.enter ∷ k) v.2 (tr.frames.0.fine, tr.fines) in
        subst (λ (x : ℕ). MovedInner text u fs k s (move_term (length fs) place x s)) (sym e)
        (list-moved _ (settled text head gone f.enter p.enter p.lines last rest (length fs) place at s para-words y z))

-- ---- the step
pub none_before : (g ys : List Event) (e : Event) → (e.node ≡ 15 → ⊥) → NoParagraph g → NoParagraph (g ++ (e ∷ ys))
none_before [] ys e n p = λ r k. n k
none_before (x ∷ xs) ys e n p = p

pub term-inner-tree : (text : List ℕ) (u f : Frame) (fs : List Frame) (k : List Event) (d : ℕ) (s : State)
    → Tree text (u ∷ (f ∷ fs)) k s → (u.enter.node ≡ 15 → ⊥) → Termed (100 - length fs) f.before → Led (100 - suc (length fs)) u.before
    → d ≡ length fs → 1 ≤ length fs → length fs ≤ 98 → (settle_term d s).number ≡ 0
    → MovedInner text u fs k s (settle_term d s)
term-inner-tree text u f fs k d s tr node tm led e one deep z =
    let n = length fs in
    let i = width * length (flat fs ++ f.before) in
    let more = u.enter ∷ k in
    let m : settle_term d s ≡ term_of n i s = ap (λ (c : ℕ). settle_term c s) e ∙ settle_is (u ∷ []) f fs k s tr.holds in
    let t = term_is n i s (sym (ap (λ (r : State). r.number) m) ∙ z) in
    let to = move_term n i (find_of 2 15 (i + width + width) s) s in
    let h = long-holds text u f fs k s tr in
    let a = with_opn (places (f ∷ fs)) s in
    let by : Bool → Type 0 = λ b. MovedInner text u fs k s (pick b to s) in
    let none : NoParagraph u.before → by (is_at s.evs (i + width) 1 15) =
    λ p. subst by (sym (other-kept f fs a (u.before ++ more) h t.0 (none_before u.before k u.enter node p))) (record { frame = f; behind = u.before; tree = tr }) in
    let some : Paragraph (100 - suc n) u.before → by (is_at s.evs (i + width) 1 15) =
    λ p. subst by (sym (paragraph-is f fs a (100 - suc n) u.before more h p)) (paragraph-moved text u f fs k s tr tm p one deep) in
    subst (λ (r : State). MovedInner text u fs k s r) (sym (m ∙ t.1)) (⊎_elim none some led)
