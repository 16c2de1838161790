-- Refusal 7 does not come from a heading's section: those that end stand whole before the heading, and one more is open. Assumes nothing.
use mathlib.Core.Path.{◌≡◌, refl, sym, ap, subst, ◌∙◌}
use mathlib.Core.Logic.{inl, inr}
use mathlib.Core.Bool.{true}
use mathlib.Core.List.{List, [], ◌∷◌, ◌++◌, append-nil}
use Prim.Native.Nat.{ℕ, zero, suc, ◌+◌, ◌-◌, ◌*◌, ◌≤◌, ◌<◌}
use native.Mathlib.Omega.{arith}
use lib.Dec.{leb, ltb}
use lib.ListN.{length, take, drop, get_or, length-append, length-drop, get_or-append}
use lib.Seq.{get_or_at, get_or-drop}
use borrow.Author.Tests.{eq-eqb, ne_eqb, le-leb, leb-true, ltb-true, ltb-false}
use Rattle.events.specs.State.{State, with_sec}
use Rattle.events.specs.Events.{width}
use Rattle.events.specs.declared.Event.{Event}
use Rattle.moves.specs.Moves.{all_before, sections_of}
use Rattle.walk.specs.Leaf.{node, kept_of, begin_section, end_sections, section_at, section_of}
use Rattle.theorems.proofs.LevelLists.{kept-le}
use Rattle.theorems.proofs.Stays.{by-test}
use Rattle.theorems.proofs.Proper.{of-pick}
use Rattle.theorems.proofs.Nests.{Frame, flat, places, Holds, Roles}
use Rattle.theorems.proofs.HoldLaws.{places_count, holds-count, holds-words}
use Rattle.theorems.proofs.Trees.{Tree, Attributed}
use Rattle.theorems.proofs.SectionTree.{Ended, ended, behind-place}
use Rattle.theorems.proofs.Never.{Sure, sure-go, enter-sure}

-- ---- open events before a word
-- each stands whole among those up to the innermost
places-before : (fs : List Frame) (j : ℕ) → j < length fs → get_or (places fs) j 0 + width ≤ width * length (flat fs)
unfolding places flat
places-before [] j h = absurd (omega arith)
places-before (f ∷ fs) j h =
    let w = width * length (flat fs ++ f.before) in
    let n = length-append (flat fs) (f.before ++ (f.enter ∷ [])) in
    let m = length-append f.before (f.enter ∷ []) in
    let k = length-append (flat fs) f.before in
    let c = places_count fs in
    by-test (ltb j (length fs))
    (λ e.
    let l = ltb-true j (length fs) e in
    let u = get_or-append (places fs) (w ∷ []) 0 j (omega (arith, l, c)) in
    omega (arith, u, n, m, places-before fs j l))
    (λ e.
    let l = ltb-false j (length fs) e in
    let u = get_or_at (places fs) w [] 0 j (omega (arith, l, h, c)) in
    omega (arith, u, n, m, k))

before-all : (os : List ℕ) (a i n : ℕ) → ((j : ℕ) → j < i + n → get_or os j 0 + width ≤ a) → all_before os a i n ≡ true
unfolding all_before
before-all os a i zero h = refl
before-all os a i (suc n) h = rw (le-leb (get_or os i 0 + 8) a (h i (omega arith))) (before-all os a (i + 1) n (λ j l. h j (omega (arith, l))))

-- ---- sections that end
exits-sure : (pos a : ℕ) (os : List ℕ) (s : State) → all_before os a 0 (length os) ≡ true → Sure s → Sure (sections_of pos a os s)
unfolding sections_of
exits-sure pos a os s e p = rw e (of-pick Sure (leb (length s.evs + width * length os) s.cap) _ _ (λ q. p) (λ q z. omega (arith, z)))

end-sure : (left pos word : ℕ) (fs : List Frame) (c k : List Event) (s : State) → Holds fs k s → length fs ≡ suc (length s.sec) → word ≡ width * length (flat fs ++ c) → Sure s
    → Sure (end_sections left pos word s)
unfolding end_sections
end-sure left pos word fs c k s h f w p =
    let d = length s.sec - left in
    let i = length s.opn - d in
    let os = drop i s.opn in
    let n = holds-count fs k s h in
    let e : all_before os word 0 (length os) ≡ true = before-all os word 0 (length os) (λ j l.
    let u = get_or-drop i s.opn j 0 ∙ ap (λ (v : List ℕ). get_or v (i + j) 0) h.opn in
    omega (arith, u, places-before fs (i + j) (omega (arith, l, length-drop i s.opn, n)), w, length-append (flat fs) c)) in
    let q = exits-sure pos word os s e p in
    of-pick Sure (ltb (length s.opn) d) _ _ (λ e. absurd (omega (arith, ltb-true (length s.opn) d e, n, f))) (λ e. sure-go (sections_of pos word os s) _ q (λ z. q))

-- ---- the section that begins
begin-sure : (text : List ℕ) (level i left : ℕ) (fs : List Frame) (g : List Event) (s a : State) → left < 32 → Ended text left fs g s a → Sure a → Sure (begin_section level i left a)
unfolding begin_section
begin-sure text level i left fs g s a l e p =
    let x = with_sec (take left a.sec ++ (level ∷ [])) a in
    let h : Holds e.frames e.events x = record { evs = e.tree.holds.evs; opn = e.tree.holds.opn } in
    of-pick Sure (leb 32 left) _ _ (λ q. absurd (omega (arith, leb-true 32 left q, l))) (λ q. enter-sure (node 14 i i i 0 0 0) e.frames e.events x h (omega (arith, e.count, l)) p)

-- ---- a heading's section
module _ (text : List ℕ) (level i : ℕ) (fs : List Frame) (s : State)
    (f : length fs ≡ suc (length s.sec)) (m : length s.sec ≤ 32) (few : kept_of s.sec level (length s.sec) < 32) (p : Sure s) where
  at-sure : (pos word : ℕ) (c behind : List Event) → Tree text fs (c ++ behind) s → Roles 4 behind → pos ≤ length text → word ≡ width * length (flat fs ++ c)
      → Sure (section_at level i pos word s)
  unfolding section_at
  at-sure pos word c behind t r l w =
      let left = kept_of s.sec level (length s.sec) in
      let k = kept-le s.sec level (length s.sec) in
      let q = end-sure left pos word fs c (c ++ behind) s t.holds f w p in
      sure-go (end_sections left pos word s) (begin_section level i left) q (λ z. begin-sure text level i left fs (c ++ behind) s _ few (ended text left pos word c behind s l r fs t f m k w z) q)

  pub section-sure : (g : List Event) → i ≤ length text → Tree text fs g s → Attributed fs g s → Sure (section_of level i s)
  unfolding section_of
  section-sure g l t (inl e) =
      rw (eq-eqb s.attr 0 e)
      (at-sure i (length s.evs) g [] (subst (λ (k : List Event). Tree text fs k s) (sym (append-nil g)) t) tt l (holds-words fs g s t.holds))
  section-sure g l t (inr a) =
      let u = subst (λ (k : List Event). Tree text fs k s) a.is t in
      let q = behind-place text fs a.front a.behind s u a.some a.place in
      rw (ne_eqb s.attr 0 (λ e. omega (arith, e, a.place)), q.2)
      (at-sure (get_or s.evs (s.attr + 1) 0) (s.attr - 1) a.front a.behind u a.atoms q.0 q.1)
