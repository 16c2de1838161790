-- Open lists in the tree: one begins, goes on, is loosened, ends; and frames that differ in bodies only. Assumes nothing.
use mathlib.Core.Path.{◌≡◌, refl, sym, ap, ap₂, subst, ◌∙◌}
use mathlib.Core.Logic.{inl, inr}
use mathlib.Core.Bool.{Bool, true, false, not}
use mathlib.Core.List.{List, [], ◌∷◌, ◌++◌, append_assoc}
use Prim.Native.Nat.{ℕ, suc, ◌+◌, ◌-◌, ◌*◌, ◌/◌, ◌%◌, ◌≤◌, ◌<◌}
use native.Mathlib.Omega.{arith}
use lib.Dec.{eqb, leb, ltb}
use lib.ListN.{length, get_or, length-append}
use borrow.Author.Tests.{eqb-false}
use Rattle.classes.specs.Choice.{pick, both}
use Rattle.markers.specs.Markers.{marker_num}
use Rattle.markers.specs.Lists.{continues_of}
use Rattle.markers.specs.declared.Marker.{Marker}
use Rattle.markers.specs.declared.Continued.{Continued}
use Rattle.std.specs.Prelude.{Option, Some, None}
use Rattle.markers.specs.Lists.{yes}
use Rattle.measure.specs.Continue.{kind_num}
use Rattle.events.specs.State.{State, with_lst, with_flags, refuse_of, go}
use Rattle.events.specs.Events.{width, patch_of, whole_at, enter_event, enter_of, exit_of}
use Rattle.events.specs.declared.Event.{Event}
use Rattle.events.proofs.PackEdits.{body_as}
use Rattle.lists.specs.Lists.{type_detail, type_value, type_of, same_type, list_words, push_list_of, last_list_of, set_list_of, pop_list_of, retype_of, end_of, close_of, close_list_of}
use Rattle.lists.specs.declared.OpenList.{OpenList}
use Rattle.lists.proofs.ListLaws.{type-back}
use Rattle.walk.specs.Tree.{go_on, loose_at, loosen_of, list_node, new_list}
use Rattle.walk.specs.declared.Met.{Met}
use Rattle.theorems.proofs.LevelSteps.{passed}
use Rattle.theorems.proofs.LevelLists.{last_word, last-depth, set_words, pop-words}
use Rattle.theorems.proofs.Proper.{Marked, of-pick, continued-marked}
use Rattle.theorems.proofs.Nests.{Whole, Fine, Frame, flat, places, Holds}
use Rattle.theorems.proofs.WholeLaws.{whole_append, closing}
use Rattle.theorems.proofs.HoldLaws.{holds-count, opened-place, holds-patch}
use Rattle.theorems.proofs.Trees.{Framed, Frames, Tree, Alike, Typed, AllTyped, lists_words, Led, Attributed}
use Rattle.theorems.proofs.FineNodes.{marked-num, list-fine, loose-fine, retype-fine, detail-small}
use Rattle.theorems.proofs.TreeSteps.{tree-beside, Besides, enter-tree, enter-besides, exit-besides, exit-whole, exit-tree}

-- ---- frames that differ in bodies only
pub alike_refl : (fs : List Frame) → Alike fs fs
alike_refl [] = tt
alike_refl (f ∷ fs) = (refl, refl, alike_refl fs, refl, refl)

pub alike-on : (fs es ds : List Frame) → Alike fs es → Alike es ds → Alike fs ds
alike-on [] [] ds p q = q
alike-on [] (e ∷ es) ds p q = absurd p
alike-on (f ∷ fs) [] ds p q = absurd p
alike-on (f ∷ fs) (e ∷ es) [] p q = absurd q
alike-on (f ∷ fs) (e ∷ es) (d ∷ ds) p q = (q.0 ∙ p.0, q.1 ∙ p.1, alike-on fs es ds p.2 q.2, q.3 ∙ p.3, q.4 ∙ p.4)

pub alike-count : (fs es : List Frame) → Alike fs es → length es ≡ length fs
alike-count [] [] p = refl
alike-count [] (e ∷ es) p = absurd p
alike-count (f ∷ fs) [] p = absurd p
alike-count (f ∷ fs) (e ∷ es) p = ap (λ (n : ℕ). suc n) (alike-count fs es p.2)

pub alike-flat : (fs es : List Frame) → Alike fs es → length (flat es) ≡ length (flat fs)
unfolding flat
alike-flat [] [] p = refl
alike-flat [] (e ∷ es) p = absurd p
alike-flat (f ∷ fs) [] p = absurd p
alike-flat (f ∷ fs) (e ∷ es) p =
    let b = ap (λ (l : List Event). length l) p.0 in
    let x = length-append e.before (e.enter ∷ []) in
    let y = length-append f.before (f.enter ∷ []) in
    let n : length (e.before ++ (e.enter ∷ [])) ≡ length (f.before ++ (f.enter ∷ [])) = omega (arith, b, x, y) in
    length-append (flat es) (e.before ++ (e.enter ∷ [])) ∙ ap₂ (λ (k m : ℕ). k + m) (alike-flat fs es p.2) n ∙ sym (length-append (flat fs) (f.before ++ (f.enter ∷ [])))

pub attributed-alike : (fs es : List Frame) (g : List Event) (s r : State) → Alike fs es → r.attr ≡ s.attr → Attributed fs g s → Attributed es g r
attributed-alike fs es g s r a e (inl z) = inl (e ∙ z)
attributed-alike fs es g s r a e (inr p) =
    let n = length-append (flat fs) p.front ∙ ap (λ (k : ℕ). k + length p.front) (sym (alike-flat fs es a)) ∙ sym (length-append (flat es) p.front) in
    inr (record { front = p.front; behind = p.behind; is = p.is; atoms = p.atoms; some = p.some; place = e ∙ p.place ∙ ap (λ (k : ℕ). suc (width * k)) n })

-- the frame that stands where f does
record Matched (f : Frame) (ds es : List Frame) : Type 0 where
  inner : List Frame
  frame : Frame
  outer : List Frame
  whole : es ≡ inner ++ (frame ∷ outer)
  count : length outer ≡ length ds
  node : frame.enter.node ≡ f.enter.node

matched : (us : List Frame) (f : Frame) (ds es : List Frame) → Alike (us ++ (f ∷ ds)) es → Matched f ds es
matched [] f ds [] p = absurd p
matched [] f ds (e ∷ es) p = record { inner = []; frame = e; outer = es; whole = refl; count = alike-count ds es p.2; node = p.1 }
matched (u ∷ us) f ds [] p = absurd p
matched (u ∷ us) f ds (e ∷ es) p =
    let m = matched us f ds es p.2 in
    record { inner = e ∷ m.inner; frame = m.frame; outer = m.outer; whole = ap (λ (l : List Frame). e ∷ l) m.whole; count = m.count; node = m.node }

pub typed-alike-one : (fs es : List Frame) (o : OpenList) → Alike fs es → Typed fs o → Typed es o
typed-alike-one fs es o a t =
    let m = matched t.inner t.frame t.outer es (subst (λ (l : List Frame). Alike l es) t.whole a) in
    record {
      inner = m.inner;
      frame = m.frame;
      outer = m.outer;
      whole = m.whole;
      depth = t.depth ∙ ap (λ (n : ℕ). suc n) (sym m.count);
      node = m.node ∙ t.node;
      start = t.start;
      prev = t.prev;
      same = t.same;
    }

pub typed-alike : (fs es : List Frame) (os : List OpenList) → Alike fs es → AllTyped fs os → AllTyped es os
typed-alike fs es [] a t = tt
typed-alike fs es (o ∷ os) a t = (typed-alike-one fs es o a t.0, typed-alike fs es os a t.1)

typed-more-one : (f : Frame) (fs : List Frame) (o : OpenList) → Typed fs o → Typed (f ∷ fs) o
typed-more-one f fs o t = record {
  inner = f ∷ t.inner;
  frame = t.frame;
  outer = t.outer;
  whole = ap (λ (l : List Frame). f ∷ l) t.whole;
  depth = t.depth;
  node = t.node;
  start = t.start;
  prev = t.prev;
  same = t.same;
}

pub typed-more : (f : Frame) (fs : List Frame) (os : List OpenList) → AllTyped fs os → AllTyped (f ∷ fs) os
typed-more f fs [] t = tt
typed-more f fs (o ∷ os) t = (typed-more-one f fs o t.0, typed-more f fs os t.1)

-- ---- a body word of an open list's Enter
-- us are the frames further in
frames-at : (text : List ℕ) (us : List Frame) (f : Frame) (ds : List Frame) → Frames text (us ++ (f ∷ ds)) → Framed text f (length ds)
frames-at text [] f ds p = p.0
frames-at text (u ∷ us) f ds p = frames-at text us f ds p.1

-- an open Enter that is another
abbrev having : Event → Frame → Frame
having x f = record { before = f.before; enter = x }

module _ (text : List ℕ) (f : Frame) (x : Event) (ds : List Frame) (n : x.node ≡ f.enter.node) (r : x.role ≡ f.enter.role) (i : x.start ≡ f.enter.start) where
  frame-as : (k : ℕ) → Fine text x → Framed text f k → Framed text (having x f) k
  frame-as k h p = record {
    role = r ∙ p.role;
    node = λ l e. p.node l (sym n ∙ e);
    first = λ z. let q = p.first z in (n ∙ q.0, q.1);
    fine = h;
    whole = p.whole;
    fines = p.fines;
  }

  count-as : (us : List Frame) → length (us ++ (f ∷ ds)) ≡ length (us ++ (having x f ∷ ds))
  count-as us = length-append us (f ∷ ds) ∙ sym (length-append us (having x f ∷ ds))

  frames-as : (us : List Frame) → Fine text x → Frames text (us ++ (f ∷ ds)) → Frames text (us ++ (having x f ∷ ds))
  frames-as [] h p = (frame-as (length ds) h p.0, p.1)
  frames-as (u ∷ us) h p = (subst (λ (k : ℕ). Framed text u k) (count-as us) p.0, frames-as us h p.1)

  alike_as : (us : List Frame) → Alike (us ++ (f ∷ ds)) (us ++ (having x f ∷ ds))
  alike_as [] = (refl, n, alike_refl ds, r, i)
  alike_as (u ∷ us) = (refl, refl, alike_as us, refl, refl)

  tree-as : (us : List Frame) (g : List Event) (s a : State) → Fine text x → Holds (us ++ (having x f ∷ ds)) g a → Tree text (us ++ (f ∷ ds)) g s
      → Tree text (us ++ (having x f ∷ ds)) g a
  tree-as us g s a h k t = record {
    holds = k;
    frames = frames-as us h t.frames;
    whole = subst (λ (m : ℕ). Whole (100 - m) g) (count-as us) t.whole;
    fines = t.fines;
  }

-- the place of a list's Enter
pub typed-place : (fs : List Frame) (g : List Event) (o : OpenList) (s : State) → Holds fs g s → (t : Typed fs o)
    → get_or s.opn (o.depth - 1) 0 ≡ width * length (flat t.outer ++ t.frame.before)
typed-place fs g o s h t =
    let n : o.depth - 1 ≡ length t.outer = omega (arith, t.depth) in
    ap₂ (λ (l : List ℕ) (k : ℕ). get_or l k 0) (h.opn ∙ ap places t.whole) n ∙ opened-place t.inner t.frame t.outer

-- frames but for bodies
record Patched (text : List ℕ) (fs : List Frame) (g : List Event) (r : State) : Type 0 where
  es : List Frame
  tree : Tree text es g r
  alike : Alike fs es

-- i is the word
patched : (text : List ℕ) (k v i : ℕ) (fs : List Frame) (g : List Event) (o : OpenList) (s : State) → k < 4 → i ≡ get_or s.opn (o.depth - 1) 0 + 4 + k
    → Tree text fs g s → (y : Typed fs o) → Fine text (body_as k v y.frame.enter) → Patched text fs g (patch_of i v s)
patched text k v i fs g o s l e t y h =
    let x = body_as k v y.frame.enter in
    let u = subst (λ (w : List Frame). Tree text w g s) y.whole t in
    let p : i ≡ width * length (flat y.outer ++ y.frame.before) + 4 + k = omega (arith, e, typed-place fs g o s t.holds y) in
    rw p (record {
      es = y.inner ++ (having x y.frame ∷ y.outer);
      tree = tree-as text y.frame x y.outer refl refl refl y.inner g s _ h (holds-patch k v y.inner y.frame y.outer g s l u.holds) u;
      alike = subst (λ (w : List Frame). Alike w (y.inner ++ (having x y.frame ∷ y.outer))) (sym y.whole) (alike_as text y.frame x y.outer refl refl refl y.inner);
    })

-- ---- the words of open lists
module _ (s : State) (o : OpenList) (os : List OpenList) (e : s.lst ≡ lists_words (o ∷ os)) where
  last-list : type_detail o.start < 256 → type_detail o.prev < 256 → last_list_of s ≡ o
  unfolding last_list_of lists_words
  last-list h k =
      let w = last_word s (lists_words os) o e in
      let z : length s.lst - 5 ≡ length s.lst - 5 + 0 = omega arith in
      let a = ap₂ type_of (ap (λ (i : ℕ). get_or s.lst i 0) z ∙ w 0) (w 1) ∙ type-back o.start h in
      let b = ap₂ type_of (w 2) (w 3) ∙ type-back o.prev k in
      λ i. record { start = a i; prev = b i; depth = w 4 i }

  set-list : (n : OpenList) → set_list_of n s ≡ with_lst (lists_words (n ∷ os)) s
  unfolding set_list_of lists_words
  set-list n = ap (λ (w : List ℕ). with_lst w s) (set_words s (lists_words os) o n e)

  pop-list : pop_list_of s ≡ with_lst (lists_words os) s
  unfolding pop_list_of lists_words
  pop-list = ap (λ (w : List ℕ). with_lst w s) (pop-words s (lists_words os) o e)

-- the innermost list
pub last-typed : (fs : List Frame) (o : OpenList) (os : List OpenList) (s : State) → Typed fs o → s.lst ≡ lists_words (o ∷ os) → last_list_of s ≡ o
last-typed fs o os s t e = last-list s o os e (detail-small o.start t.start) (detail-small o.prev t.prev)

-- ---- the first of a level's events
pub led-none : (h : ℕ) → Led h []
led-none h = inl tt

pub led-append : (h : ℕ) (g w : List Event) → Led h g → Whole h w → (g ≡ [] → Led h w) → Led h (g ++ w)
led-append h [] w p q n = n refl
led-append h (x ∷ xs) w (inl p) q n = inl p
led-append h (x ∷ xs) w (inr p) q n = inr (record {
  enter = p.enter;
  lines = p.lines;
  from = p.from;
  to = p.to;
  rest = p.rest ++ w;
  is = ap (λ (l : List Event). l ++ w) p.is ∙ ap (λ (l : List Event). p.enter ∷ l) (append_assoc p.lines (closing p.enter p.from p.to ∷ p.rest) w);
  role = p.role;
  node = p.node;
  bare = p.bare;
  inlines = p.inlines;
  whole = whole_append h p.rest w p.whole q;
})

-- ---- a list that goes on, and one that does not
-- its type changes only while it is still the last item's
abbrev pub gone_on : OpenList → Marker → Marker → OpenList
gone_on o p n = record { start = pick (same_type o.start o.prev) p o.start; prev = n; depth = o.depth }

gone-typed : (fs : List Frame) (o : OpenList) (mk p n : Marker) → Typed fs o → Marked mk → continues_of o.prev mk ≡ yes p n → Typed fs (gone_on o p n)
gone-typed fs o mk p n t m e =
    let c = continued-marked o.prev mk p n t.prev m e in
    let b = same_type o.start o.prev in
    let k : marker_num (pick b p o.start) ≡ marker_num o.start = of-pick (λ (x : Marker). marker_num x ≡ marker_num o.start) b p o.start (λ q. c.2 ∙ t.same) (λ q. refl) in
    record {
      inner = t.inner;
      frame = t.frame;
      outer = t.outer;
      whole = t.whole;
      depth = t.depth;
      node = t.node ∙ ap (λ (x : ℕ). x + 3) (sym k);
      start = of-pick Marked b p o.start (λ q. c.0) (λ q. t.start);
      prev = c.1;
      same = c.3 ∙ sym c.4 ∙ t.same ∙ sym k;
    }

pub record Gone (text : List ℕ) (fs : List Frame) (g : List Event) (o : OpenList) (os : List OpenList) (p n : Marker) (s r : State) : Type 0 where
  pub is : r ≡ with_lst (lists_words (gone_on o p n ∷ os)) s
  pub lst : r.lst ≡ lists_words (gone_on o p n ∷ os)
  pub tree : Tree text fs g r
  pub typed : Typed fs (gone_on o p n)

pub go-on-tree : (text : List ℕ) (pos : ℕ) (mk p n : Marker) (fs : List Frame) (g : List Event) (o : OpenList) (os : List OpenList) (s : State)
    → Tree text fs g s → Typed fs o → s.lst ≡ lists_words (o ∷ os) → Marked mk → continues_of o.prev mk ≡ yes p n
    → Gone text fs g o os p n s (go_on (last_list_of s) pos (continues_of (last_list_of s).prev mk) s)
go-on-tree text pos mk p n fs g o os s t y e m c =
    let r = set_list_of (gone_on o p n) s in
    let i : r ≡ with_lst (lists_words (gone_on o p n ∷ os)) s = set-list s o os e (gone_on o p n) in
    let k : Gone text fs g o os p n s r = record {
      is = i;
      lst = ap (λ (x : State). x.lst) i;
      tree = tree-beside text fs g s r (ap (λ (x : State). x.evs) i) (ap (λ (x : State). x.opn) i) t;
      typed = gone-typed fs o mk p n y m c;
    } in
    let l : Gone text fs g o os p n s (go_on o pos (continues_of o.prev mk) s) = subst (λ (x : Option Continued). Gone text fs g o os p n s (go_on o pos x s)) (sym c) k in
    subst (λ (x : OpenList). Gone text fs g o os p n s (go_on x pos (continues_of x.prev mk) s)) (sym (last-typed fs o os s y e)) l

pub go-off : (pos : ℕ) (mk : Marker) (fs : List Frame) (o : OpenList) (os : List OpenList) (s : State) → Typed fs o → s.lst ≡ lists_words (o ∷ os) → continues_of o.prev mk ≡ None
    → go_on (last_list_of s) pos (continues_of (last_list_of s).prev mk) s ≡ close_list_of pos s
go-off pos mk fs o os s y e c =
    let l : go_on o pos (continues_of o.prev mk) s ≡ close_list_of pos s = ap (λ (x : Option Continued). go_on o pos x s) c in
    ap (λ (x : OpenList). go_on x pos (continues_of x.prev mk) s) (last-typed fs o os s y e) ∙ l

-- ---- a list that is loosened
pub record Loosened (text : List ℕ) (fs : List Frame) (g : List Event) (s r : State) : Type 0 where
  pub es : List Frame
  pub tree : Tree text es g r
  pub alike : Alike fs es
  pub besides : Besides s r

-- the flags alone
loosened-none : (text : List ℕ) (fs : List Frame) (g : List Event) (s : State) (a b : Bool) → Tree text fs g s → Loosened text fs g s (with_flags a b s)
loosened-none text fs g s a b t = record {
  es = fs;
  tree = tree-beside text fs g s (with_flags a b s) refl refl t;
  alike = alike_refl fs;
  besides = (refl, refl, refl);
}

-- the ways through it: u, v, a refusal w, the Enter's word x
loosen-cases : (P : State → Type 0) (a b c d e f : Bool) (u v w x : State) → P u → P v → P w → (c ≡ false → P x)
    → P (pick a u (pick b v (pick c v (pick d w (pick e v (pick f v x))))))
loosen-cases P true b c d e f u v w x p q r h = p
loosen-cases P false true c d e f u v w x p q r h = q
loosen-cases P false false true d e f u v w x p q r h = q
loosen-cases P false false false true e f u v w x p q r h = r
loosen-cases P false false false false true f u v w x p q r h = q
loosen-cases P false false false false false f u v w x p q r h = of-pick P f v x (λ z. q) (λ z. h refl)

module _ (text : List ℕ) (fs : List Frame) (g : List Event) (s : State) (t : Tree text fs g s) where
  list-loose : (o : OpenList) (y : Typed fs o) (v : ℕ) → v ≤ 1 → Fine text (body_as 0 v y.frame.enter)
  list-loose o y v l =
      let p = frames-at text y.inner y.frame y.outer (subst (λ (w : List Frame). Frames text w) y.whole t.frames) in
      let n = marked-num o.start y.start in
      loose-fine text y.frame.enter v p.role (omega (arith, y.node, n.0)) (omega (arith, y.node, n.1)) l p.fine

  loose-at : (e : ℕ) (o : OpenList) (os : List OpenList) → e ≡ get_or s.opn (o.depth - 1) 0 → AllTyped fs (o ∷ os) → (loose_at e s).number ≡ 0
      → Loosened text fs g s (loose_at e s)
  unfolding loose_at patch_of
  loose-at e o os q y =
      let i : e + 4 ≡ get_or s.opn (o.depth - 1) 0 + 4 + 0 = omega (arith, q) in
      let p = patched text 0 0 (e + 4) fs g o s (omega arith) i t y.0 (list-loose o y.0 0 (omega arith)) in
      let r = patch_of (e + 4) 0 s in
      let P : State → Type 0 = λ x. x.number ≡ 0 → Loosened text fs g s x in
      of-pick P (whole_at s.evs e) _ _
      (λ a. of-pick P (eqb (get_or s.evs (e + 4) 0) 1) _ _
      (λ b z. record {
        es = p.es;
        tree = tree-beside text p.es g r (with_flags false true r) refl refl p.tree;
        alike = p.alike;
        besides = (refl, refl, refl);
      })
      (λ b z. loosened-none text fs g s false false t))
      (λ a z. absurd (omega arith))

  -- the innermost, which there is
  loose-last : (os : List OpenList) → AllTyped fs os → s.lst ≡ lists_words os → eqb (length s.lst) 0 ≡ false
      → let e = get_or s.opn ((last_list_of s).depth - 1) 0 in (loose_at e s).number ≡ 0 → Loosened text fs g s (loose_at e s)
  unfolding lists_words
  loose-last [] y l n = absurd (eqb-false (length s.lst) 0 n (ap (λ (w : List ℕ). length w) l))
  loose-last (o ∷ os) y l n = loose-at (get_or s.opn ((last_list_of s).depth - 1) 0) o os (ap (λ (d : ℕ). get_or s.opn (d - 1) 0) (last-depth s (lists_words os) o l)) y

  pub loosen-tree : (m : Met) (os : List OpenList) → AllTyped fs os → s.lst ≡ lists_words os → (loosen_of m s).number ≡ 0 → Loosened text fs g s (loosen_of m s)
  unfolding loosen_of
  loosen-tree m os y l =
      let o = last_list_of s in
      let P : State → Type 0 = λ x. x.number ≡ 0 → Loosened text fs g s x in
      let flags : (a b : Bool) → P (with_flags a b s) = λ a b z. loosened-none text fs g s a b t in
      loosen-cases P (eqb (kind_num m.kind) 1) (not s.blank) (eqb (length s.lst) 0) (ltb (length s.opn) o.depth) (eqb o.depth 0)
      (both (eqb (kind_num m.kind) 9) (ltb o.depth (length s.opn))) (with_flags true s.loose s) (with_flags false false s) (refuse_of 7 s) (loose_at (get_or s.opn (o.depth - 1) 0) s)
      (flags true s.loose) (flags false false) (λ z. absurd (omega arith)) (loose-last os y l)

-- ---- a list that ends
pub record Closed (text : List ℕ) (pos : ℕ) (f : Frame) (fs : List Frame) (g : List Event) (os : List OpenList) (s r : State) : Type 0 where
  pub enter : Event
  pub node : enter.node ≡ f.enter.node
  pub role : enter.role ≡ f.enter.role
  pub start : enter.start ≡ f.enter.start
  pub whole : Whole (100 - length fs) (enter ∷ (g ++ (closing enter pos pos ∷ [])))
  pub tree : Tree text fs (f.before ++ (enter ∷ (g ++ (closing enter pos pos ∷ [])))) r
  pub lst : r.lst ≡ lists_words os
  pub sec : r.sec ≡ s.sec
  pub attr : r.attr ≡ s.attr

-- its frame is the innermost
first-same : (f : Frame) (fs us : List Frame) (e : Frame) (ds : List Frame) → f ∷ fs ≡ us ++ (e ∷ ds) → length ds ≡ length fs → e ≡ f
first-same f fs [] e ds p n = sym (ap (λ (l : List Frame). get_or l 0 f) p)
first-same f fs (u ∷ us) e ds p n = absurd (omega (arith, ap (λ (l : List Frame). length l) p, length-append us (e ∷ ds), n))

pub typed-first : (f : Frame) (fs : List Frame) (o : OpenList) → Typed (f ∷ fs) o → o.depth ≡ suc (length fs) → f.enter.node ≡ marker_num o.start + 3
typed-first f fs o t d =
    let n : length t.outer ≡ length fs = omega (arith, d, t.depth) in
    ap (λ (e : Frame). e.enter.node) (sym (first-same f fs t.inner t.frame t.outer t.whole n)) ∙ t.node

-- the Enter with other words
pub record Renewed (text : List ℕ) (f : Frame) (fs : List Frame) (g : List Event) (r : State) : Type 0 where
  pub enter : Event
  pub node : enter.node ≡ f.enter.node
  pub role : enter.role ≡ f.enter.role
  pub start : enter.start ≡ f.enter.start
  pub tree : Tree text (having enter f ∷ fs) g r

patch-at : (k v i : ℕ) (f : Frame) (fs : List Frame) (g : List Event) (s : State) → k < 4 → i ≡ width * length (flat fs ++ f.before) + 4 + k → Holds (f ∷ fs) g s
    → Holds (having (body_as k v f.enter) f ∷ fs) g (patch_of i v s)
patch-at k v i f fs g s l e h = rw e (holds-patch k v [] f fs g s l h)

retype-besides : (w : ℕ) (ty : Marker) (s : State) → Besides s (retype_of w ty s)
unfolding retype_of patch_of
retype-besides w ty s = of-pick (λ (r : State). Besides s r) s.loose _ s (λ p. (refl, refl, refl)) (λ p. (refl, refl, refl))

module _ (text : List ℕ) (f : Frame) (fs : List Frame) (g : List Event) (s : State) (t : Tree text (f ∷ fs) g s) (w : ℕ) (at : w ≡ width * length (flat fs ++ f.before)) where
  -- tight again, or as it was
  tighten-tree : (b : Bool) → 4 ≤ f.enter.node → f.enter.node ≤ 7 → Renewed text f fs g (pick b (patch_of (w + 4) 1 s) s)
  tighten-tree true l h =
      let p = t.frames.0 in
      let x = body_as 0 1 f.enter in
      let i : w + 4 ≡ width * length (flat fs ++ f.before) + 4 + 0 = omega (arith, at) in
      record {
        enter = x;
        node = refl;
        role = refl;
        start = refl;
        tree = tree-as text f x fs refl refl refl [] g s (patch_of (w + 4) 1 s) (loose-fine text f.enter 1 p.role l h (omega arith) p.fine)
            (patch-at 0 1 (w + 4) f fs g s (omega arith) i t.holds) t;
      }
  tighten-tree false l h = record { enter = f.enter; node = refl; role = refl; start = refl; tree = t }

  type-tree : (ty : Marker) → f.enter.node ≡ marker_num ty + 3 → Marked ty
      → Renewed text f fs g (patch_of (w + 7) (type_value ty / 4294967296) (patch_of (w + 6) (type_value ty % 4294967296) (patch_of (w + 5) (type_detail ty) s)))
  type-tree ty n m =
      let p = t.frames.0 in
      let l = width * length (flat fs ++ f.before) in
      let i : w + 5 ≡ l + 4 + 1 = omega (arith, at) in
      let j : w + 6 ≡ l + 4 + 2 = omega (arith, at) in
      let k : w + 7 ≡ l + 4 + 3 = omega (arith, at) in
      let x = body_as 1 (type_detail ty) f.enter in
      let y = body_as 2 (type_value ty % 4294967296) x in
      let z = body_as 3 (type_value ty / 4294967296) y in
      let a = patch_of (w + 5) (type_detail ty) s in
      let b = patch_of (w + 6) (type_value ty % 4294967296) a in
      let c = patch_of (w + 7) (type_value ty / 4294967296) b in
      let ha = patch-at 1 (type_detail ty) (w + 5) f fs g s (omega arith) i t.holds in
      let hb = patch-at 2 (type_value ty % 4294967296) (w + 6) (having x f) fs g a (omega arith) j ha in
      let hc = patch-at 3 (type_value ty / 4294967296) (w + 7) (having y f) fs g b (omega arith) k hb in
      record { enter = z; node = refl; role = refl; start = refl; tree = tree-as text f z fs refl refl refl [] g s c (retype-fine text f.enter ty p.role n m p.fine) hc t }

module _ (text : List ℕ) (f : Frame) (fs : List Frame) (g : List Event) (s : State) (t : Tree text (f ∷ fs) g s) (w : ℕ) (at : w ≡ width * length (flat fs ++ f.before)) where
  pub retype-tree : (ty : Marker) → f.enter.node ≡ marker_num ty + 3 → Marked ty → Renewed text f fs g (retype_of w ty s)
  unfolding retype_of
  retype-tree ty n m =
      let k = marked-num ty m in
      let a = tighten-tree text f fs g s t w at s.loose (omega (arith, n, k.0)) (omega (arith, n, k.1)) in
      let r = pick s.loose (patch_of (w + 4) 1 s) s in
      let b = type-tree text (having a.enter f) fs g r a.tree w at ty (a.node ∙ n) m in
      record { enter = b.enter; node = b.node ∙ a.node; role = b.role ∙ a.role; start = b.start ∙ a.start; tree = b.tree }

module _ (text : List ℕ) (pos : ℕ) (f : Frame) (fs : List Frame) (g : List Event) (o : OpenList) (os : List OpenList) (s : State) (h : pos ≤ length text)
    (t : Tree text (f ∷ fs) g s) (y : Typed (f ∷ fs) o) (d : o.depth ≡ suc (length fs)) (i : 1 ≤ length fs) (j : length fs ≤ 98) (l : s.lst ≡ lists_words (o ∷ os)) where
  abbrev Ends : State → Type 0
  Ends r = r.number ≡ 0 → Closed text pos f fs g os s r

  -- after the Enter's words, the Exit
  exit-ends : (a : State) → Renewed text f fs g a → Besides s a → (exit_of pos pos a).number ≡ 0 → Closed text pos f fs g os s (pop_list_of (exit_of pos pos a))
  exit-ends a p b z =
      let x = having p.enter f in
      let r = exit_of pos pos a in
      let c = exit-besides pos pos a z in
      let q = pop-list r o os (c.0 ∙ b.0 ∙ l) in
      let k = exit-tree text pos pos x fs g a (omega arith) h i j p.tree z in
      record {
        enter = p.enter;
        node = p.node;
        role = p.role;
        start = p.start;
        whole = exit-whole text pos pos x fs g a i j p.tree;
        tree = tree-beside text fs _ r (pop_list_of r) (ap (λ (e : State). e.evs) q) (ap (λ (e : State). e.opn) q) k;
        lst = ap (λ (e : State). e.lst) q;
        sec = ap (λ (e : State). e.sec) q ∙ c.1 ∙ b.1;
        attr = ap (λ (e : State). e.attr) q ∙ c.2 ∙ b.2;
      }

  end-ends : (w : ℕ) → w ≡ width * length (flat fs ++ f.before) → Ends (end_of pos o w s)
  unfolding end_of
  end-ends w at =
      let a = retype_of w o.start s in
      let p = retype-tree text f fs g s t w at o.start (typed-first f fs o y d) y.start in
      of-pick Ends (whole_at s.evs w) (go (exit_of pos pos a) pop_list_of) (refuse_of 7 s)
      (λ q. passed (exit_of pos pos a) pop_list_of (λ (r : State). Closed text pos f fs g os s r) (λ za zb. exit-ends a p (retype-besides w o.start s) za))
      (λ q z. absurd (omega arith))

  close-ends : Ends (close_of pos o s)
  unfolding close_of
  close-ends =
      let w = get_or s.opn (o.depth - 1) 0 in
      let k : o.depth - 1 ≡ length fs = omega (arith, d) in
      let at = ap₂ (λ (x : List ℕ) (m : ℕ). get_or x m 0) t.holds.opn k ∙ opened-place [] f fs in
      of-pick Ends (eqb o.depth 0) (refuse_of 7 s) (pick (ltb (length s.opn) o.depth) (refuse_of 7 s) (end_of pos o w s)) (λ q z. absurd (omega arith))
      (λ q. of-pick Ends (ltb (length s.opn) o.depth) (refuse_of 7 s) (end_of pos o w s) (λ e z. absurd (omega arith)) (λ e. end-ends w at))

  pub close-list-tree : (close_list_of pos s).number ≡ 0 → Closed text pos f fs g os s (close_list_of pos s)
  unfolding close_list_of
  close-list-tree =
      of-pick Ends (eqb (length s.lst) 0) (refuse_of 7 s) (close_of pos (last_list_of s) s) (λ q z. absurd (omega arith))
      (λ q. subst (λ (x : OpenList). Ends (close_of pos x s)) (sym (last-typed (f ∷ fs) o os s y l)) close-ends)

-- ---- a list that begins
pub record Begun (text : List ℕ) (pos : ℕ) (fs : List Frame) (g : List Event) (os : List OpenList) (s r : State) : Type 0 where
  pub frame : Frame
  pub before : frame.before ≡ g
  pub start : frame.enter.start ≡ pos
  pub list : OpenList
  pub depth : list.depth ≡ suc (length fs)
  pub tree : Tree text (frame ∷ fs) [] r
  pub typed : Typed (frame ∷ fs) list
  pub lst : r.lst ≡ lists_words (list ∷ os)
  pub sec : r.sec ≡ s.sec

module _ (text : List ℕ) (ty : Marker) (pos : ℕ) (fs : List Frame) (g : List Event) (os : List OpenList) (s : State) (h : pos ≤ length text)
    (t : Tree text fs g s) (l : s.lst ≡ lists_words os) (m : Marked ty) (i : 1 ≤ length fs) (j : length fs ≤ 98) where
  abbrev inside : State
  inside = enter_of (list_node ty pos) s

  abbrev begun : OpenList
  begun = record { start = ty; prev = ty; depth = length inside.opn }

  abbrev listed : Frame
  listed = record { before = g; enter = enter_event (list_node ty pos) }

  list-begins : inside.number ≡ 0 → Begun text pos fs g os s (with_lst (inside.lst ++ list_words begun) inside)
  unfolding lists_words
  list-begins z =
      let k = list-fine text ty pos h m in
      let u = enter-tree text fs g (list_node ty pos) s k.0 (λ b. omega (arith, k.1, b)) i t z in
      let e = enter-besides (list_node ty pos) s z in
      let d = holds-count (listed ∷ fs) [] inside u.holds in
      let p : Typed (listed ∷ fs) begun = record { inner = []; frame = listed; outer = fs; whole = refl; depth = d; node = refl; start = m; prev = m; same = refl } in
      record {
        frame = listed;
        before = refl;
        start = refl;
        list = begun;
        depth = d;
        tree = tree-beside text (listed ∷ fs) [] inside _ refl refl u;
        typed = p;
        lst = ap (λ (v : List ℕ). v ++ list_words begun) (e.0 ∙ l);
        sec = e.1;
      }

  pub new-list-tree : (go inside (new_list ty)).number ≡ 0 → Begun text pos fs g os s (go inside (new_list ty))
  unfolding push_list_of
  new-list-tree z =
      let B : State → Type 0 = λ r. Begun text pos fs g os s r in
      passed inside (new_list ty) B (λ za. of-pick (λ (r : State). r.number ≡ 0 → B r) (leb 160 (length inside.lst)) (refuse_of 7 inside) (with_lst (inside.lst ++ list_words begun) inside)
      (λ q e. absurd (omega arith))
      (λ q e. list-begins za)) z
