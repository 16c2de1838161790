-- A heading's section at the top: the sections that it ends, and the one that it begins. Assumes nothing.
use mathlib.Core.Path.{◌≡◌, refl, sym, ap, ap₂, subst, ◌∙◌}
use mathlib.Core.Logic.{inl, inr}
use mathlib.Core.Bool.{true}
use mathlib.Core.List.{List, [], ◌∷◌, ◌++◌, append_assoc, append-nil}
use Prim.Native.Nat.{ℕ, zero, suc, ◌+◌, ◌-◌, ◌*◌, ◌≤◌}
use native.Mathlib.Omega.{arith}
use lib.Dec.{leb, ltb}
use lib.ListN.{length, take, drop, get_or, length-append, length-take, length-drop, take-append-drop, get_or-append}
use lib.Seq.{take-length, take-append-le, drop-append-le, get_or_at}
use borrow.Author.Tests.{leb-false, le-leb, eq-eqb, ne_eqb}
use Rattle.classes.specs.Choice.{pick}
use Rattle.events.specs.State.{State, with_evs, with_opn, with_sec, refuse_of, go}
use Rattle.events.specs.Events.{width, words_of, exit_event, whole_at, enter_event, enter_of}
use Rattle.events.specs.Pack.{pack_of}
use Rattle.events.specs.declared.Event.{Event}
use Rattle.events.proofs.PackLaws.{pack-append, pack-take, pack-drop, pack-word}
use Rattle.fields.specs.Fields.{fields, within, is_listed, field_of, in_range}
use Rattle.moves.specs.Moves.{exits_of, all_before, sections_of}
use Rattle.walk.specs.Leaf.{node, kept_of, begin_section, end_sections, section_at, section_of}
use Rattle.theorems.proofs.LevelSteps.{passed, chosen}
use Rattle.theorems.proofs.LevelLists.{kept-le}
use Rattle.theorems.proofs.Nests.{Whole, Roles, Fine, Fines, Frame, flat, places, Holds}
use Rattle.theorems.proofs.WholeLaws.{whole_append, whole-more, whole-roles, whole-front, whole_pair, closing, closing_same, fines-append, fines-split}
use Rattle.theorems.proofs.HoldLaws.{places_count, holds-count, holds-words, exit-words, count-more}
use Rattle.theorems.proofs.Trees.{Frames, Tree, Attributed}
use Rattle.theorems.proofs.FineLaws.{made-fine, closing-fine, fine-span}
use Rattle.theorems.proofs.TreeSteps.{tree-beside, enter-tree, enter-besides}

-- ---- frames that end at a place
-- their Exits, the innermost first
unfoldable pub closings : ℕ → List Frame → List Event
closings pos [] = []
closings pos (u ∷ us) = closing u.enter pos pos ∷ closings pos us

-- what stands in their place, with c in the innermost
unfoldable closed : ℕ → List Frame → List Event → List Event
closed pos [] c = c
closed pos (u ∷ us) c = closed pos us (u.before ++ (u.enter ∷ (c ++ (closing u.enter pos pos ∷ []))))

closed-flat : (pos : ℕ) (us ds : List Frame) (c ys : List Event) → (flat (us ++ ds) ++ c) ++ (closings pos us ++ ys) ≡ flat ds ++ (closed pos us c ++ ys)
unfolding closings closed flat
closed-flat pos [] ds c ys = append_assoc (flat ds) c ys
closed-flat pos (u ∷ us) ds c ys =
    let x = closing u.enter pos pos in
    let e : (flat (u ∷ (us ++ ds)) ++ c) ++ (x ∷ (closings pos us ++ ys)) ≡ (flat (us ++ ds) ++ (u.before ++ (u.enter ∷ (c ++ (x ∷ []))))) ++ (closings pos us ++ ys) = simp append_assoc in
    e ∙ closed-flat pos us ds (u.before ++ (u.enter ∷ (c ++ (x ∷ [])))) ys

module _ (text : List ℕ) (pos : ℕ) (ds : List Frame) (some : 1 ≤ length ds) where
  closed-whole : (us : List Frame) (c : List Event) → Frames text (us ++ ds) → length (us ++ ds) ≤ 100 → Whole (100 - length (us ++ ds)) c → Whole (100 - length ds) (closed pos us c)
  unfolding closed
  closed-whole [] c f l w = w
  closed-whole (u ∷ us) c f l w =
      let k = length (us ++ ds) in
      let e = u.enter in
      let x = closing e pos pos in
      let p = whole_pair (100 - suc k) e x c f.0.role (f.0.node (omega (arith, length-append us ds))) refl (closing_same e pos pos) w in
      closed-whole us _ f.1 (omega arith) (whole_append (100 - k) u.before _ f.0.whole (whole-more (suc (100 - suc k)) (100 - k) _ (omega arith) p))

  closed-fines : (us : List Frame) (c : List Event) → pos ≤ length text → Frames text (us ++ ds) → Fines text c → Fines text (closed pos us c)
  unfolding closed
  closed-fines [] c l f p = p
  closed-fines (u ∷ us) c l f p =
      let e = u.enter in
      let x = closing-fine text e pos pos f.0.role f.0.fine (omega arith) l in
      closed-fines us _ l f.1 (fines-append text u.before _ f.0.fines (f.0.fine, fines-append text c _ p (x, tt)))

frames-outer : (text : List ℕ) (us ds : List Frame) → Frames text (us ++ ds) → Frames text ds
frames-outer text [] ds f = f
frames-outer text (u ∷ us) ds f = frames-outer text us ds f.1

-- ---- the words of their Exits
-- the innermost open event comes first
exits-last : (pos : ℕ) (evs os : List ℕ) (p n : ℕ) → n ≤ length os → exits_of pos evs (os ++ (p ∷ [])) (suc n) ≡ words_of (exit_event evs p pos pos) ++ exits_of pos evs os n
unfolding exits_of
exits-last pos evs os p zero l =
    let c : length os ≡ length (os ++ (p ∷ [])) - 1 = omega (arith, length-append os (p ∷ [])) in
    ap (λ (o : ℕ). words_of (exit_event evs o pos pos)) (get_or_at os p [] 0 _ c)
exits-last pos evs os p (suc n) l =
    let os' = os ++ (p ∷ []) in
    let c : length os' - suc (suc n) ≡ length os - suc n = omega (arith, length-append os (p ∷ [])) in
    let e : get_or os' (length os' - suc (suc n)) 0 ≡ get_or os (length os - suc n) 0 =
    ap (λ (i : ℕ). get_or os' i 0) c ∙ get_or-append os (p ∷ []) 0 (length os - suc n) (omega arith) in
    ap₂ (λ (w : List ℕ) (o : ℕ). w ++ words_of (exit_event evs o pos pos)) (exits-last pos evs os p n (omega arith)) e
    ∙ append_assoc (words_of (exit_event evs p pos pos)) (exits_of pos evs os n) (words_of (exit_event evs (get_or os (length os - suc n) 0) pos pos))

open-inner : (us ds : List Frame) → length (drop (length ds) (places (us ++ ds))) ≡ length us
open-inner us ds = omega (arith, length-drop (length ds) (places (us ++ ds)), places_count (us ++ ds), length-append us ds)

open-outer : (us ds : List Frame) → take (length ds) (places (us ++ ds)) ≡ places ds
unfolding places
open-outer [] ds = ap (λ (n : ℕ). take n (places ds)) (sym (places_count ds)) ∙ take-length (places ds)
open-outer (u ∷ us) ds =
    let l = places (us ++ ds) in
    take-append-le (length ds) l _ (omega (arith, places_count (us ++ ds), length-append us ds)) ∙ open-outer us ds

exits-words : (pos : ℕ) (us ds : List Frame) (ys : List Event) (evs : List ℕ) → evs ≡ pack_of (flat (us ++ ds) ++ ys)
    → exits_of pos evs (drop (length ds) (places (us ++ ds))) (length us) ≡ pack_of (closings pos us)
unfolding exits_of closings pack_of places flat
exits-words pos [] ds ys evs e = refl
exits-words pos (u ∷ us) ds ys evs e =
    let l = places (us ++ ds) in
    let p = width * length (flat (us ++ ds) ++ u.before) in
    let os = drop (length ds) l in
    let d : drop (length ds) (l ++ (p ∷ [])) ≡ os ++ (p ∷ []) = drop-append-le (length ds) l _ (omega (arith, places_count (us ++ ds), length-append us ds)) in
    let b = u.before ++ (u.enter ∷ ys) in
    let f : flat (u ∷ (us ++ ds)) ++ ys ≡ flat (us ++ ds) ++ b = simp append_assoc in
    ap (λ (w : List ℕ). exits_of pos evs w (suc (length us))) d
    ∙ exits-last pos evs os p (length us) (omega (arith, open-inner us ds))
    ∙ ap₂ (λ (x : Event) (w : List ℕ). words_of x ++ w) (exit-words pos pos u (us ++ ds) ys evs e) (exits-words pos us ds b evs (e ∙ ap pack_of f))

-- ---- sections that end
sections-is : (pos a : ℕ) (os : List ℕ) (s : State) → (sections_of pos a os s).number ≡ 0
    → sections_of pos a os s ≡ with_evs (take a s.evs ++ exits_of pos s.evs os (length os) ++ drop a s.evs) s
unfolding sections_of
sections-is pos a os s =
    let r = with_evs (take a s.evs ++ exits_of pos s.evs os (length os) ++ drop a s.evs) s in
    let P : State → Type 0 = λ x. x ≡ r in
    chosen (all_before os a 0 (length os)) (pick (leb (length s.evs + width * length os) s.cap) r (refuse_of 6 s)) (refuse_of 7 s) P
    (λ e. chosen (leb (length s.evs + width * length os) s.cap) r (refuse_of 6 s) P (λ e z. refl) (λ e z. absurd (omega arith))) (λ e z. absurd (omega arith))

-- us end at pos, before the events `behind`
sections-hold : (pos a : ℕ) (us ds : List Frame) (c behind : List Event) (s : State) → Holds (us ++ ds) (c ++ behind) s → a ≡ width * length (flat (us ++ ds) ++ c)
    → (sections_of pos a (drop (length ds) s.opn) s).number ≡ 0
    → Holds ds (closed pos us c ++ behind) (with_opn (take (length ds) s.opn) (sections_of pos a (drop (length ds) s.opn) s))
sections-hold pos a us ds c behind s h p z =
    let fs = us ++ ds in
    let os = drop (length ds) s.opn in
    let eo : os ≡ drop (length ds) (places fs) = ap (λ (l : List ℕ). drop (length ds) l) h.opn in
    let n : length os ≡ length us = ap (λ (l : List ℕ). length l) eo ∙ open-inner us ds in
    let ex : exits_of pos s.evs os (length os) ≡ pack_of (closings pos us) =
    ap₂ (λ (l : List ℕ) (k : ℕ). exits_of pos s.evs l k) eo n ∙ exits-words pos us ds (c ++ behind) s.evs h.evs in
    let ev = h.evs ∙ ap pack_of (sym (append_assoc (flat fs) c behind)) in
    let et = ap (λ (w : List ℕ). take a w) ev ∙ pack-take (flat fs ++ c) behind a p in
    let ed = ap (λ (w : List ℕ). drop a w) ev ∙ pack-drop (flat fs ++ c) behind a p in
    let joined : pack_of (flat fs ++ c) ++ pack_of (closings pos us) ++ pack_of behind ≡ pack_of (flat ds ++ (closed pos us c ++ behind)) =
    append_assoc (pack_of (flat fs ++ c)) (pack_of (closings pos us)) (pack_of behind)
    ∙ ap (λ (w : List ℕ). pack_of (flat fs ++ c) ++ w) (sym (pack-append (closings pos us) behind))
    ∙ sym (pack-append (flat fs ++ c) (closings pos us ++ behind))
    ∙ ap pack_of (closed-flat pos us ds c behind) in
    rw (sections-is pos a os s z) (record {
      evs = rw (et, ex, ed) joined;
      opn = ap (λ (w : List ℕ). take (length ds) w) h.opn ∙ open-outer us ds;
    })

-- g behind what is open in fs is h behind what is open in ds: the Exits of the frames between stand before the last of g
pub record Moved (fs : List Frame) (g : List Event) (ds : List Frame) (h : List Event) : Type 0 where
  pub inner : List Frame
  pub front : List Event
  pub behind : List Event
  pub pos : ℕ
  pub old : fs ≡ inner ++ ds
  pub was : g ≡ front ++ behind
  pub now : flat ds ++ h ≡ (flat fs ++ front) ++ (closings pos inner ++ behind)

-- so many sections are left, and Document
pub record Ended (text : List ℕ) (left : ℕ) (fs : List Frame) (g : List Event) (s r : State) : Type 0 where
  pub frames : List Frame
  pub events : List Event
  pub moved : Moved fs g frames events
  pub tree : Tree text frames events r
  pub count : length frames ≡ suc left
  pub sec : r.sec ≡ s.sec
  pub lst : r.lst ≡ s.lst

module _ (text : List ℕ) (left pos word : ℕ) (c behind : List Event) (s : State) (q : pos ≤ length text) (roles : Roles 4 behind) where
  ended-tree : (fs us ds : List Frame) → fs ≡ us ++ ds → length ds ≡ suc left → length (us ++ ds) ≤ 100 → Tree text (us ++ ds) (c ++ behind) s → word ≡ width * length (flat (us ++ ds) ++ c)
      → (sections_of pos word (drop (length ds) s.opn) s).number ≡ 0
      → Ended text left fs (c ++ behind) s (with_opn (take (length ds) s.opn) (sections_of pos word (drop (length ds) s.opn) s))
  ended-tree fs us ds o l m t w z =
      let h = 100 - length (us ++ ds) in
      let fines = fines-split text c behind t.fines in
      let some : 1 ≤ length ds = omega (arith, l) in
      let e = sections-is pos word (drop (length ds) s.opn) s z in
      record {
        frames = ds;
        events = closed pos us c ++ behind;
        moved = record {
          inner = us;
          front = c;
          behind = behind;
          pos = pos;
          old = o;
          was = refl;
          now = sym (ap (λ (v : List Frame). (flat v ++ c) ++ (closings pos us ++ behind)) o ∙ closed-flat pos us ds c behind);
        };
        tree = record {
          holds = sections-hold pos word us ds c behind s t.holds w z;
          frames = frames-outer text us ds t.frames;
          whole = whole_append (100 - length ds) (closed pos us c) behind
              (closed-whole text pos ds some us c t.frames m (whole-front h 4 c behind (omega arith) roles t.whole))
              (whole-more 0 (100 - length ds) behind (omega arith) (whole-roles 4 behind (omega arith) roles));
          fines = fines-append text (closed pos us c) behind (closed-fines text pos ds some us c q t.frames fines.0) fines.1;
        };
        count = l;
        sec = ap (λ (r : State). r.sec) e;
        lst = ap (λ (r : State). r.lst) e;
      }

  pub ended : (fs : List Frame) → Tree text fs (c ++ behind) s → length fs ≡ suc (length s.sec) → length s.sec ≤ 32 → left ≤ length s.sec → word ≡ width * length (flat fs ++ c)
      → (end_sections left pos word s).number ≡ 0 → Ended text left fs (c ++ behind) s (end_sections left pos word s)
  unfolding end_sections
  ended fs t f m k w =
      let d = length s.sec - left in
      let us = take d fs in
      let ds = drop d fs in
      let whole : fs ≡ us ++ ds = sym (take-append-drop d fs) in
      let end-at : ℕ → State = λ i. go (sections_of pos word (drop i s.opn) s) (with_opn (take i s.opn)) in
      let count : length ds ≡ suc left = omega (arith, length-drop d fs, f, k) in
      let there : length ds ≡ length s.opn - d = omega (arith, holds-count fs (c ++ behind) s t.holds, length-drop d fs) in
      chosen (ltb (length s.opn) d) (refuse_of 7 s) (end-at (length s.opn - d)) (Ended text left fs (c ++ behind) s) (λ e z. absurd (omega arith))
      (λ e. subst (λ (i : ℕ). (end-at i).number ≡ 0 → Ended text left fs (c ++ behind) s (end-at i)) there
      (passed _ _ (Ended text left fs (c ++ behind) s) (λ za zb.
      ended-tree fs us ds whole count (omega (arith, ap (λ (l : List Frame). length l) whole, f, m)) (subst (λ (l : List Frame). Tree text l (c ++ behind) s) whole t)
      (w ∙ ap (λ (l : List Frame). width * length (flat l ++ c)) whole) za)))

-- ---- the section that begins
section-fine : (text : List ℕ) (i : ℕ) → i ≤ length text → Fine text (enter_event (node 14 i i i 0 0 0))
unfolding is_listed field_of fields within in_range
section-fine text i l = made-fine text (enter_event (node 14 i i i 0 0 0)) refl (rw (le-leb i (length text) l)) (inr (omega arith)) (inr (omega arith)) (omega arith) l

pub record Sectioned (text : List ℕ) (fs : List Frame) (g : List Event) (s r : State) : Type 0 where
  pub frame : Frame
  pub frames : List Frame
  pub role : frame.enter.role ≡ 1
  pub node : frame.enter.node ≡ 14
  pub moved : Moved fs g frames frame.before
  pub tree : Tree text (frame ∷ frames) [] r
  pub count : length (frame ∷ frames) ≡ suc (length r.sec)
  pub most : length r.sec ≤ 32
  pub lst : r.lst ≡ s.lst

section-begins : (text : List ℕ) (level i left : ℕ) (fs : List Frame) (g : List Event) (s a : State) → i ≤ length text → left ≤ length s.sec → Ended text left fs g s a
    → (begin_section level i left a).number ≡ 0 → Sectioned text fs g s (begin_section level i left a)
unfolding begin_section
section-begins text level i left fs g s a l k p =
    let x = with_sec (take left a.sec ++ (level ∷ [])) a in
    let y = node 14 i i i 0 0 0 in
    let r = enter_of y x in
    let t = tree-beside text p.frames p.events a x refl refl p.tree in
    let count = length-append (take left a.sec) (level ∷ []) in
    chosen (leb 32 left) (refuse_of 7 a) r (Sectioned text fs g s) (λ e z. absurd (omega arith)) (λ e z.
    let b = enter-besides y x z in
    let secs : length r.sec ≡ suc left = omega (arith, ap (λ (w : List ℕ). length w) b.1, count, length-take left a.sec, ap (λ (w : List ℕ). length w) p.sec) in
    record {
      frame = record { before = p.events; enter = enter_event y };
      frames = p.frames;
      role = refl;
      node = refl;
      moved = p.moved;
      tree = enter-tree text p.frames p.events y x (section-fine text i l) (λ e. omega (arith, e)) (omega (arith, p.count)) t z;
      count = omega (arith, p.count, secs);
      most = omega (arith, secs, leb-false 32 left e);
      lst = b.0 ∙ p.lst;
    })

-- ---- a heading's section
-- Attributes just before it stand whole where the state says
pub behind-place : (text : List ℕ) (fs : List Frame) (c behind : List Event) (s : State) → Tree text fs (c ++ behind) s → 1 ≤ length behind → s.attr ≡ suc (width * length (flat fs ++ c))
    → (get_or s.evs (s.attr + 1) 0 ≤ length text) × (s.attr - 1 ≡ width * length (flat fs ++ c)) × (whole_at s.evs (s.attr - 1) ≡ true)
behind-place text fs c [] s t o a = absurd (omega arith)
behind-place text fs c (x ∷ xs) s t o a =
    let k = flat fs ++ c in
    let i : s.attr + 1 ≡ width * length k + 2 = omega (arith, a) in
    let j : s.attr - 1 ≡ width * length k = omega (arith, a) in
    let e : get_or s.evs (s.attr + 1) 0 ≡ x.start =
    ap₂ (λ (w : List ℕ) (o : ℕ). get_or w o 0) (t.holds.evs ∙ ap pack_of (sym (append_assoc (flat fs) c (x ∷ xs)))) i ∙ pack-word k x xs 2 (omega arith) in
    let q = fine-span text x (fines-split text c (x ∷ xs) t.fines).1.0 in
    let w = holds-words fs (c ++ (x ∷ xs)) s t.holds in
    (omega (arith, e, q.0), j, le-leb (s.attr - 1 + 8) (length s.evs) (omega (arith, j, w, count-more fs c (x ∷ xs))))

module _ (text : List ℕ) (level i : ℕ) (fs : List Frame) (s : State) (l : i ≤ length text)
    (f : length fs ≡ suc (length s.sec)) (m : length s.sec ≤ 32) where
  -- before the events `behind`
  section-at : (pos word : ℕ) (c behind : List Event) → Tree text fs (c ++ behind) s → Roles 4 behind → pos ≤ length text → word ≡ width * length (flat fs ++ c)
      → (section_at level i pos word s).number ≡ 0 → Sectioned text fs (c ++ behind) s (section_at level i pos word s)
  unfolding section_at
  section-at pos word c behind t r p w =
      let left = kept_of s.sec level (length s.sec) in
      let k = kept-le s.sec level (length s.sec) in
      passed (end_sections left pos word s) (begin_section level i left) (Sectioned text fs (c ++ behind) s) (λ za.
      section-begins text level i left fs (c ++ behind) s _ l k (ended text left pos word c behind s p r fs t f m k w za))

  section-from : (pos word : ℕ) (c behind g : List Event) → g ≡ c ++ behind → Tree text fs g s → Roles 4 behind → pos ≤ length text → word ≡ width * length (flat fs ++ c)
      → (section_at level i pos word s).number ≡ 0 → Sectioned text fs g s (section_at level i pos word s)
  section-from pos word c behind g e t r p w z =
      subst (λ (k : List Event). Sectioned text fs k s (section_at level i pos word s)) (sym e) (section-at pos word c behind (subst (λ (k : List Event). Tree text fs k s) e t) r p w z)

  section-by : (g : List Event) → Tree text fs g s → Attributed fs g s → (section_of level i s).number ≡ 0 → Sectioned text fs g s (section_of level i s)
  unfolding section_of
  section-by g t (inl e) = rw (eq-eqb s.attr 0 e) (section-from i (length s.evs) g [] g (sym (append-nil g)) t tt l (holds-words fs g s t.holds))
  section-by g t (inr p) =
      let q = behind-place text fs p.front p.behind s (subst (λ (k : List Event). Tree text fs k s) p.is t) p.some p.place in
      rw (ne_eqb s.attr 0 (λ e. omega (arith, e, p.place)), q.2)
      (section-from (get_or s.evs (s.attr + 1) 0) (s.attr - 1) p.front p.behind g p.is t p.atoms q.0 q.1)

pub section-tree : (text : List ℕ) (level i : ℕ) (fs : List Frame) (g : List Event) (s : State) → i ≤ length text
    → Tree text fs g s → Attributed fs g s → length fs ≡ suc (length s.sec) → length s.sec ≤ 32
    → (section_of level i s).number ≡ 0 → Sectioned text fs g s (section_of level i s)
section-tree text level i fs g s l t a f m = section-by text level i fs s l f m g t a
