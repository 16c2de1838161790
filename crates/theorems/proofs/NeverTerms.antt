-- Refusal 7 does not come from a description item's term: the item has an event inside, and a paragraph that begins there ends. Assumes nothing.
use mathlib.Core.Path.{◌≡◌, refl, sym, ap, subst, ◌∙◌}
use mathlib.Core.Logic.{◌⊎◌, inl, inr, ⊎_elim}
use mathlib.Core.Bool.{false, not, true≢false}
use mathlib.Core.List.{List, [], ◌∷◌, ◌++◌, append_assoc, append-nil}
use Prim.Native.Nat.{ℕ, suc, ◌+◌, ◌-◌, ◌*◌, ◌/◌, ◌≤◌, ◌<◌}
use native.Mathlib.Omega.{arith}
use lib.Dec.{ltb}
use lib.ListN.{length, length-append}
use borrow.Author.Tests.{leb-false, ltb-true, not-false, not-true}
use Rattle.events.specs.State.{State, with_opn}
use Rattle.events.specs.Events.{width, patch_of, edit_of, whole_at}
use Rattle.events.specs.Pack.{pack_of}
use Rattle.events.specs.declared.Event.{Event}
use Rattle.events.proofs.PackLaws.{pack-length}
use Rattle.lists.specs.declared.OpenList.{OpenList}
use Rattle.moves.specs.Moves.{is_at, first_from, found, find_of, shift_of}
use Rattle.walk.specs.Tree.{clear_term, place_detail, move_term, term_of, settle_term}
use Rattle.theorems.proofs.Proper.{of-pick}
use Rattle.theorems.proofs.Nests.{Frame, flat, places, Holds}
use Rattle.theorems.proofs.WholeLaws.{closing}
use Rattle.theorems.proofs.HoldLaws.{holds-words}
use Rattle.theorems.proofs.Trees.{Tree, Alike, Typed, Paragraph, NoParagraph, Led}
use Rattle.theorems.proofs.FineNodes.{marked-num}
use Rattle.theorems.proofs.TermTree.{found-behind, other-kept, settle_is}
use Rattle.theorems.proofs.TermInner.{long-holds, none_before}
use Rattle.theorems.proofs.ListTree.{alike-count, alike-flat, typed-first}
use Rattle.theorems.proofs.TreeLevel.{Grows}
use Rattle.theorems.proofs.Never.{Sure, open-whole}

flat-some : (fs : List Frame) → 1 ≤ length fs → 1 ≤ length (flat fs)
unfolding flat
flat-some [] h = h
flat-some (f ∷ fs) h = omega (arith, length-append (flat fs) (f.before ++ (f.enter ∷ [])), length-append f.before (f.enter ∷ []))

move-sure : (d i x : ℕ) (s : State) → Sure s → Sure (move_term d i x s)
unfolding move_term clear_term place_detail edit_of shift_of patch_of
move-sure d i x s p = p

-- ---- the item f with the events g and ys in it, of which a paragraph may be the first of g
module _ (f : Frame) (fs : List Frame) (g ys : List Event) (s : State) (h : Holds (f ∷ fs) (g ++ ys) (with_opn (places (f ∷ fs)) s)) where
  abbrev place : ℕ
  place = width * length (flat fs ++ f.before)

  abbrev inside : State
  inside = with_opn (places (f ∷ fs)) s

  words : place + width * suc (length (g ++ ys)) ≡ length s.evs
  unfolding flat
  words = open-whole [] f fs (g ++ ys) inside h

  -- the paragraph's Exit stands whole
  exit-whole : (n : ℕ) → Paragraph n g → find_of 2 15 (place + width + width) s + width ≤ length s.evs
  unfolding find_of flat
  exit-whole n p =
      let x = closing p.enter p.from p.to in
      let xs = (flat fs ++ (f.before ++ (f.enter ∷ []))) ++ (p.enter ∷ []) in
      let zs = p.rest ++ ys in
      let all = xs ++ (p.lines ++ (x ∷ zs)) in
      let i = place + width + width in
      let k = (length s.evs - i) / width in
      let e : (flat fs ++ (f.before ++ (f.enter ∷ []))) ++ ((p.enter ∷ (p.lines ++ (x ∷ p.rest))) ++ ys) ≡ all = simp append_assoc in
      let q : s.evs ≡ pack_of all = h.evs ∙ ap (λ (v : List Event). pack_of (flat (f ∷ fs) ++ (v ++ ys))) p.is ∙ ap pack_of e in
      let c = ap (λ (v : List ℕ). length v) q ∙ pack-length all in
      let a = length-append xs (p.lines ++ (x ∷ zs)) in
      let b = length-append p.lines (x ∷ zs) in
      let at : i ≡ width * length xs = omega (
        arith,
        length-append (flat fs ++ (f.before ++ (f.enter ∷ []))) (p.enter ∷ []),
        length-append (flat fs) (f.before ++ (f.enter ∷ [])),
        length-append f.before (f.enter ∷ []),
        length-append (flat fs) f.before,
      ) in
      let u = ap (λ (v : List ℕ). first_from (found 2 15) i k v) q ∙ found-behind xs p.lines x zs i k at (omega (arith, c, a, b, at)) p.inlines refl p.node in
      omega (arith, u, c, a, b, at)

  term-sure : (d n : ℕ) → 1 ≤ length fs → 1 ≤ length (g ++ ys) → NoParagraph (g ++ ys) ⊎ Paragraph n g → Sure s → Sure (term_of d place s)
  unfolding term_of
  term-sure d n one some led p =
      let w = words in
      let x = find_of 2 15 (place + width + width) s in
      of-pick Sure (ltb place width) _ _ (λ e. absurd (omega (arith, ltb-true place 8 e, flat-some fs one, length-append (flat fs) f.before))) (λ e.
      of-pick Sure (not (whole_at s.evs place)) _ _ (λ e. absurd (omega (arith, leb-false (place + 8) (length s.evs) (not-true _ e), w))) (λ e.
      of-pick Sure (not (whole_at s.evs (place + width))) _ _ (λ e. absurd (omega (arith, leb-false (place + 8 + 8) (length s.evs) (not-true _ e), w, some))) (λ v.
      of-pick Sure (not (is_at s.evs (place + width) 1 15)) _ _ (λ e. p) (λ i.
      of-pick Sure (not (whole_at s.evs x)) _ _
      (λ e. absurd (⊎_elim
      (λ k. true≢false (sym (not-false _ i) ∙ other-kept f fs inside (g ++ ys) h (not-false _ v) k))
      (λ k. omega (arith, leb-false (x + 8) (length s.evs) (not-true _ e), exit-whole n k)) led))
      (λ e. move-sure d place x s p)))))

-- ---- the item whose level this is
-- more than the open events stands there
abbrev pub Filled : List Frame → State → Type 0
Filled own s = width * length (flat own) < length s.evs

module _ (text : List ℕ) (f : Frame) (ds : List Frame) (d : ℕ) (s : State) (one : 1 ≤ length ds) (de : d ≡ length ds) (p : Sure s) where
  settle-at : (us : List Frame) (e : Frame) (es : List Frame) (k : List Event) → length es ≡ length ds → Holds (us ++ (e ∷ es)) k s
      → Sure (term_of (length es) (width * length (flat es ++ e.before)) s) → Sure (settle_term d s)
  settle-at us e es k n h q = subst (λ (i : ℕ). Sure (settle_term i s)) (n ∙ sym de) (subst Sure (sym (settle_is us e es k s h)) q)

  alone-sure : (fs : List Frame) (k : List Event) → Alike (f ∷ ds) fs → Tree text fs k s → Led (100 - length fs) k → Filled (f ∷ ds) s → Sure (settle_term d s)
  alone-sure [] k a t l w = absurd a
  alone-sure (e ∷ es) k a t l w =
      let n = alike-count ds es a.2 in
      let c = alike-flat (f ∷ ds) (e ∷ es) a in
      let nil = sym (append-nil k) in
      let h : Holds (e ∷ es) (k ++ []) (with_opn (places (e ∷ es)) s) = record { evs = t.holds.evs ∙ ap (λ (v : List Event). pack_of (flat (e ∷ es) ++ v)) nil; opn = refl } in
      let some : 1 ≤ length (k ++ []) = omega (arith, w, c, holds-words (e ∷ es) k s t.holds, length-append (flat (e ∷ es)) k, length-append k []) in
      settle-at [] e es k n t.holds (term-sure e es k [] s h (length es) (100 - suc (length es)) (omega (arith, n, one)) some
      (⊎_elim (λ v. inl (subst NoParagraph nil v)) (λ v. inr v) l) p)

  holding-sure : (u : Frame) (fs : List Frame) (k : List Event) (o : OpenList) → Alike (f ∷ ds) fs → Tree text (u ∷ fs) k s → Led (100 - length fs) u.before → Typed (u ∷ fs) o
      → o.depth ≡ suc (length fs) → Sure (settle_term d s)
  holding-sure u [] k o a t l y c = absurd a
  holding-sure u (e ∷ es) k o a t l y c =
      let n = alike-count ds es a.2 in
      let node = typed-first u (e ∷ es) o y c in
      let h = long-holds text u e es k s t in
      let no : u.enter.node ≡ 15 → ⊥ = λ v. omega (arith, v, node, (marked-num o.start y.start).1) in
      settle-at (u ∷ []) e es k n t.holds (term-sure e es u.before (u.enter ∷ k) s h (length es) (100 - suc (length es)) (omega (arith, n, one))
      (omega (arith, length-append u.before (u.enter ∷ k))) (⊎_elim (λ v. inl (none_before u.before k u.enter no v)) (λ v. inr v) l) p)

  pub settle-term-sure : (os : List OpenList) (left : ℕ) → Grows text false (f ∷ ds) os left s → Filled (f ∷ ds) s → Sure (settle_term d s)
  settle-term-sure os left (inl x) w = alone-sure x.frames x.behind (x.stands.alike refl) x.tree x.led w
  settle-term-sure os left (inr x) w = holding-sure x.frame x.frames x.behind x.list (x.stands.alike refl) x.tree x.led x.this x.depth
