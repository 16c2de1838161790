-- A description item's first paragraph becomes its term, and the tree stands. Assumes nothing.
use mathlib.Core.Path.{◌≡◌, refl, sym, ap, ap₂, subst, ◌∙◌}
use mathlib.Core.Logic.{⊎_elim, inr}
use mathlib.Core.Bool.{Bool, true, false, not, true≢false}
use mathlib.Core.List.{List, [], ◌∷◌, ◌++◌, append_assoc, append-nil}
use Prim.Native.Nat.{ℕ, zero, suc, ◌+◌, ◌-◌, ◌*◌, ◌/◌, ◌≤◌, ◌<◌}
use native.Mathlib.Omega.{arith}
use lib.Dec.{eqb, ltb}
use lib.ListN.{length, take, drop, get_or, set, length-append}
use lib.Seq.{set_at, sets}
use borrow.Author.Tests.{eqb-true, ne_eqb, eq-eqb, le-leb, lt-leb, leb-true, not-false}
use Rattle.classes.specs.Choice.{pick, both}
use Rattle.classes.proofs.ChoiceLaws.{true-left}
use Rattle.events.specs.State.{State, with_evs, with_opn, refuse_of}
use Rattle.events.specs.Events.{width, words_of, patch_of, edit_of, whole_at}
use Rattle.events.specs.Pack.{is_stale, pack_of}
use Rattle.events.specs.declared.Event.{Event}
use Rattle.events.proofs.PackLaws.{pack-length, pack-word}
use Rattle.events.proofs.StaleLaws.{exit_live}
use Rattle.events.proofs.PackEdits.{pack-edit, node_as, pack-node, pack-shift}
use Rattle.fields.specs.Fields.{fields, within, is_listed, field_of, in_range}
use Rattle.moves.specs.Moves.{is_at, first_from, found, other, find_of, other_of, shift_of}
use Rattle.nests.specs.Nesting.{same_body}
use Rattle.walk.specs.Leaf.{mark}
use Rattle.walk.specs.Tree.{stale, clear_term, detail_start, place_detail, move_term, term_of, settle_term}
use Rattle.theorems.proofs.Nests.{Whole, Roles, Fine, Fines, Frame, flat, places, Holds}
use Rattle.theorems.proofs.WholeLaws.{whole_append, whole-more, whole-behind, whole-stale, whole-roles, whole_pair, closing, fines-append, fines-split}
use Rattle.theorems.proofs.HoldLaws.{places_count, holds-count, holds-words, flat-at, opened-place, holds_as}
use Rattle.theorems.proofs.Trees.{Framed, Tree, Termed, Paragraph, NoParagraph, Led}
use Rattle.theorems.proofs.FineLaws.{bodied, ranged-body, made-fine, ranged-span, fine-span}

-- ---- events found
-- the word at which the event behind xs starts, and the next
word_at : (xs : List Event) (x : Event) (ys : List Event) (i : ℕ) → i ≡ width * length xs → get_or (pack_of (xs ++ (x ∷ ys))) i 0 ≡ x.role
word_at xs x ys i e =
    let n : i ≡ width * length xs + 0 = omega (arith, e) in
    ap (λ (j : ℕ). get_or (pack_of (xs ++ (x ∷ ys))) j 0) n ∙ pack-word xs x ys 0 (omega arith)

is-at : (xs : List Event) (x : Event) (ys : List Event) (i role node : ℕ) → i ≡ width * length xs
    → is_at (pack_of (xs ++ (x ∷ ys))) i role node ≡ both (eqb x.role role) (eqb x.node node)
is-at xs x ys i role node e =
    let n : i + 1 ≡ width * length xs + 1 = omega (arith, e) in
    ap₂ (λ (u w : ℕ). both (eqb u role) (eqb w node)) (word_at xs x ys i e) (ap (λ (j : ℕ). get_or (pack_of (xs ++ (x ∷ ys))) j 0) n ∙ pack-word xs x ys 1 (omega arith))

-- one further
more-at : (xs : List Event) (x : Event) (i : ℕ) → i ≡ width * length xs → i + width ≡ width * length (xs ++ (x ∷ []))
more-at xs x i e = omega (arith, e, length-append xs (x ∷ []))

module _ (f : List ℕ → ℕ → Bool) (i n : ℕ) (l : List ℕ) where
  first-here : f l i ≡ true → first_from f i (suc n) l ≡ i
  unfolding first_from
  first-here e = rw e

  first_past : f l i ≡ false → first_from f i (suc n) l ≡ first_from f (i + width) n l
  unfolding first_from
  first_past e = rw e

-- behind Inlines, an Exit of node 15
pub found-behind : (xs ys : List Event) (x : Event) (zs : List Event) (i n : ℕ) → i ≡ width * length xs → length ys < n → Roles 3 ys → x.role ≡ 2 → x.node ≡ 15
    → first_from (found 2 15) i n (pack_of (xs ++ (ys ++ (x ∷ zs)))) ≡ i + width * length ys
found-behind xs ys x zs i zero e h r u v = absurd (omega arith)
found-behind xs [] x zs i (suc n) e h r u v =
    let l = pack_of (xs ++ (x ∷ zs)) in
    let k : is_at l i 2 15 ≡ true = is-at xs x zs i 2 15 e ∙ rw (eq-eqb x.role 2 u, eq-eqb x.node 15 v) in
    let m : i ≡ i + 8 * 0 = omega arith in
    first-here (found 2 15) i n l k ∙ m
found-behind xs (y ∷ ys) x zs i (suc n) e h r u v =
    let rest = ys ++ (x ∷ zs) in
    let l = pack_of (xs ++ (y ∷ rest)) in
    let k : is_at l i 2 15 ≡ false = is-at xs y rest i 2 15 e ∙ rw (ne_eqb y.role 2 (λ z. omega (arith, z, r.0))) in
    let m : i + 8 + 8 * length ys ≡ i + 8 * suc (length ys) = omega arith in
    first_past (found 2 15) i n l k
    ∙ ap (λ (w : List Event). first_from (found 2 15) (i + width) n (pack_of w)) (sym (append_assoc xs (y ∷ []) rest))
    ∙ found-behind (xs ++ (y ∷ [])) ys x zs (i + width) n (more-at xs y i e) (omega arith) r.1 u v
    ∙ m

-- the blank lines at the front of zs, and what is behind them
record Blanks (xs zs : List Event) (i : ℕ) : Type 0 where
  blanks : List Event
  behind : List Event
  is : zs ≡ blanks ++ behind
  atoms : Roles 4 blanks
  place : first_from (other 4 1) i (length zs) (pack_of (xs ++ zs)) ≡ i + width * length blanks

blanks-of : (xs zs : List Event) (i : ℕ) → i ≡ width * length xs → Blanks xs zs i
unfolding first_from
blanks-of xs [] i e = record { blanks = []; behind = []; is = refl; atoms = tt; place = omega arith }
blanks-of xs (z ∷ zs) i e = by-case (is_at l i 4 1) refl (blanks-of (xs ++ (z ∷ [])) zs (i + width) (more-at xs z i e))
  where
    l : List ℕ
    l = pack_of (xs ++ (z ∷ zs))

    by-case : (b : Bool) → is_at l i 4 1 ≡ b → Blanks (xs ++ (z ∷ [])) zs (i + width) → Blanks xs (z ∷ zs) i
    by-case false q r =
        let m : i ≡ i + 8 * 0 = omega arith in
        record { blanks = []; behind = z ∷ zs; is = refl; atoms = tt; place = first-here (other 4 1) i (length zs) l (ap not q) ∙ m }
    by-case true q r =
        let m : i + 8 + 8 * length r.blanks ≡ i + 8 * suc (length r.blanks) = omega arith in
        record {
          blanks = z ∷ r.blanks;
          behind = r.behind;
          is = ap (λ (w : List Event). z ∷ w) r.is;
          atoms = (eqb-true z.role 4 (true-left _ _ (sym (is-at xs z zs i 4 1 e) ∙ q)), r.atoms);
          place = first_past (other 4 1) i (length zs) l (ap not q)
              ∙ ap (λ (w : List Event). first_from (other 4 1) (i + width) (length zs) (pack_of w)) (sym (append_assoc xs (z ∷ []) zs))
              ∙ r.place
              ∙ m;
        }

-- ---- what a record can hold
fine-stale : (text : List ℕ) → Fine text stale
unfolding is_stale
fine-stale text u = absurd (true≢false u)

-- a paragraph's Exit as a term's
term-bodied : (most role node a b c d : ℕ) → role ≡ 2 → node ≡ 15 → bodied most role node a b c d ≡ true → bodied most role 17 a b c d ≡ true
unfolding field_of within fields
term-bodied most role node a b c d r n e = rw r (subst (λ (x : ℕ). bodied most 2 x a b c d ≡ true) n (subst (λ (x : ℕ). bodied most x node a b c d ≡ true) r e))

term-listed : (role : ℕ) → role ≡ 2 → is_listed role 17 ≡ true
unfolding is_listed within
term-listed role r = rw r refl

fine-term : (text : List ℕ) (x : Event) → x.role ≡ 2 → x.node ≡ 15 → Fine text x → Fine text (node_as 17 x)
fine-term text x r n f =
    let k = f (exit_live x r) in
    let b = term-bodied (length text) x.role x.node x.a x.b x.c x.d r n (ranged-body (length text) x k.1) in
    let s = ranged-span (length text) x k.1 in
    made-fine text (node_as 17 x) (term-listed x.role r) b k.2 k.3 s.0 s.1

fine-item : (text : List ℕ) (p : ℕ) → p ≤ length text → Fine text (mark 1 10 p p 0)
unfolding is_listed within field_of fields in_range
fine-item text p h = made-fine text (mark 1 10 p p 0) refl refl (inr (omega arith)) (inr (omega arith)) (omega arith) h

-- the last of them ends in the text
last_end : (text : List ℕ) (xs : List Event) (x : Event) (ys : List Event) (k : ℕ) → Fines text (x ∷ ys) → k ≡ width * length (xs ++ (x ∷ ys))
    → get_or (pack_of (xs ++ (x ∷ ys))) (k - width + 3) 0 ≤ length text
last_end text xs x [] k f e =
    let n : k - 8 + 3 ≡ width * length xs + 3 = omega (arith, e, length-append xs (x ∷ [])) in
    let v = ap (λ (j : ℕ). get_or (pack_of (xs ++ (x ∷ []))) j 0) n ∙ pack-word xs x [] 3 (omega arith) in
    omega (arith, v, (fine-span text x f.0).1)
last_end text xs x (y ∷ ys) k f e =
    let a = append_assoc xs (x ∷ []) (y ∷ ys) in
    subst (λ (l : List Event). get_or (pack_of l) (k - width + 3) 0 ≤ length text) a
    (last_end text (xs ++ (x ∷ [])) y ys k f.1 (e ∙ ap (λ (l : List Event). width * length l) (sym a)))

-- where the details start: zs are the events from word f on
detail-inside : (text : List ℕ) (xs : List Event) (x : Event) (ys zs : List Event) (f : ℕ) (s : State) → s.evs ≡ pack_of ((xs ++ (x ∷ ys)) ++ zs) → f ≡ width * length (xs ++ (x ∷ ys))
    → Fines text (x ∷ ys) → Fines text zs → detail_start f s ≤ length text
unfolding detail_start
detail-inside text xs x ys [] f s q e p r =
    let l = xs ++ (x ∷ ys) in
    let w : s.evs ≡ pack_of l = q ∙ ap pack_of (append-nil l) in
    let n : length s.evs ≡ width * length l = ap (λ (v : List ℕ). length v) w ∙ pack-length l in
    rw (lt-leb (f + 8) (length s.evs) (omega (arith, n, e)))
    (subst (λ (v : List ℕ). get_or v (length s.evs - width + 3) 0 ≤ length text) (sym w) (last_end text xs x ys (length s.evs) p n))
detail-inside text xs x ys (z ∷ zs) f s q e p r =
    let l = xs ++ (x ∷ ys) in
    let n : length s.evs ≡ width * length (l ++ (z ∷ zs)) = ap (λ (v : List ℕ). length v) q ∙ pack-length (l ++ (z ∷ zs)) in
    let v : get_or s.evs (f + 2) 0 ≡ z.start = ap₂ (λ (w : List ℕ) (j : ℕ). get_or w (j + 2) 0) q e ∙ pack-word l z zs 2 (omega arith) in
    rw (le-leb (f + 8) (length s.evs) (omega (arith, n, e, length-append l (z ∷ zs)))) (omega (arith, v, (fine-span text z r.0).0))

-- ---- the steps
-- the Enter of an item whose details start at p
abbrev details-enter : ℕ → Event
details-enter p = mark 1 10 p p 0

-- a step that may be refused and is not
picked : (b : Bool) (s x : State) → (pick b (refuse_of 7 s) x).number ≡ 0 → (b ≡ false) × (x.number ≡ 0) × (pick b (refuse_of 7 s) x ≡ x)
picked true s x z = absurd (omega (arith, z))
picked false s x z = (refl, z, refl)

-- the item's first child stands whole, and where it is a paragraph it becomes the term
pub term_is : (d i : ℕ) (s : State) → (term_of d i s).number ≡ 0
    → (whole_at s.evs (i + width) ≡ true) × (term_of d i s ≡ pick (is_at s.evs (i + width) 1 15) (move_term d i (find_of 2 15 (i + width + width) s) s) s)
unfolding term_of
term_is d i s z =
    let p = picked (ltb i width) s _ z in
    let q = picked (not (whole_at s.evs i)) s _ p.1 in
    let r = picked (not (whole_at s.evs (i + width))) s _ q.1 in
    (not-false (whole_at s.evs (i + width)) r.0, p.2 ∙ q.2 ∙ r.2 ∙ by-case (is_at s.evs (i + width) 1 15) r.1)
  where
    x : ℕ
    x = find_of 2 15 (i + width + width) s

    to : State
    to = move_term d i x s

    step : State
    step = pick (not (whole_at s.evs x)) (refuse_of 7 s) to

    by-case : (b : Bool) → (pick (not b) s step).number ≡ 0 → pick (not b) s step ≡ pick b to s
    by-case true e = (picked (not (whole_at s.evs x)) s to e).2
    by-case false e = refl

-- where a paragraph's Exit stands, with these lines in it, for an item at word i
abbrev exit-word : ℕ → List Event → ℕ
exit-word i lines = i + width + width + width * length lines

-- the empty term's Exit t, the item's Enter e, the paragraph's Enter p and Exit x
module _ (xs : List Event) (t e p : Event) (lines : List Event) (x : Event) (rest : List Event) (i : ℕ) (n : i ≡ width * length xs + 8) (s : State)
    (q : s.evs ≡ pack_of (xs ++ (t ∷ e ∷ p ∷ (lines ++ (x ∷ rest))))) where
  pub word-find : Roles 3 lines → x.role ≡ 2 → x.node ≡ 15 → find_of 2 15 (i + width + width) s ≡ exit-word i lines
  unfolding find_of
  word-find r u v =
      let ys = t ∷ e ∷ p ∷ [] in
      let all = ys ++ (lines ++ (x ∷ rest)) in
      let k : length s.evs ≡ width * length (xs ++ all) = ap (λ (l : List ℕ). length l) q ∙ pack-length (xs ++ all) in
      ap (λ (l : List ℕ). first_from (found 2 15) (i + width + width) ((length s.evs - (i + width + width)) / width) l) (q ∙ ap pack_of (sym (append_assoc xs ys (lines ++ (x ∷ rest)))))
      ∙ found-behind (xs ++ ys) lines x rest (i + width + width) ((length s.evs - (i + width + width)) / width) (omega (arith, n, length-append xs ys))
      (omega (arith, n, k, length-append xs all, length-append lines (x ∷ rest))) r u v

  cleared : (clear_term i (exit-word i lines) s).evs ≡ pack_of (xs ++ (stale ∷ e ∷ stale ∷ (lines ++ (node_as 17 x ∷ rest))))
  unfolding clear_term edit_of patch_of
  cleared =
      let w = exit-word i lines + 1 in
      let ys = t ∷ e ∷ p ∷ lines in
      let y = node_as 17 x in
      let zs = lines ++ (y ∷ rest) in
      let a : set s.evs w 17 ≡ pack_of (xs ++ (t ∷ e ∷ p ∷ zs)) =
      ap (λ (l : List ℕ). set l w 17) (q ∙ ap pack_of (sym (append_assoc xs ys (x ∷ rest))))
      ∙ pack-node 17 (xs ++ ys) x rest w (omega (arith, n, length-append xs ys))
      ∙ ap pack_of (append_assoc xs ys (y ∷ rest)) in
      let b : sets (set s.evs w 17) (i + width) (words_of stale) ≡ pack_of (xs ++ (t ∷ e ∷ stale ∷ zs)) =
      ap (λ (l : List ℕ). sets l (i + width) (words_of stale)) (a ∙ ap pack_of (sym (append_assoc xs (t ∷ e ∷ []) (p ∷ zs))))
      ∙ pack-edit (xs ++ (t ∷ e ∷ [])) p stale zs (i + width) (omega (arith, n, length-append xs (t ∷ e ∷ [])))
      ∙ ap pack_of (append_assoc xs (t ∷ e ∷ []) (stale ∷ zs)) in
      ap (λ (l : List ℕ). sets l (i - width) (words_of stale)) b ∙ pack-edit xs t stale (e ∷ stale ∷ zs) (i - width) (omega (arith, n))

-- the events ys behind the item's Enter come before it
placed : (xs : List Event) (e : Event) (ys zs : List Event) (d i f : ℕ) (s : State) → s.evs ≡ pack_of (xs ++ (e ∷ (ys ++ zs))) → i ≡ width * length xs → f ≡ i + width + width * length ys
    → place_detail d i f s ≡ with_opn (set s.opn d (f - width)) (with_evs (pack_of (xs ++ (ys ++ (details-enter (detail_start f s) ∷ zs)))) s)
unfolding place_detail edit_of shift_of
placed xs e ys zs d i f s q n k =
    let y = details-enter (detail_start f s) in
    let m = f - (i + width) in
    let j : f - 8 ≡ i + m = omega (arith, k) in
    let w : sets (take i s.evs ++ take m (drop (i + width) s.evs) ++ drop (i + m) s.evs) (f - width) (words_of y) ≡ pack_of (xs ++ (ys ++ (y ∷ zs))) =
    ap₂ (λ (l : List ℕ) (c : ℕ). sets (take i l ++ take m (drop (i + width) l) ++ drop (i + m) l) c (words_of y)) q j
    ∙ pack-shift xs e y ys zs i m n (omega (arith, k)) in
    ap (λ (l : List ℕ). with_opn (set s.opn d (f - width)) (with_evs l s)) w

-- what a term's step makes of the words: behind xs the two Stale ones, the lines, their Exit y, the blank lines, the item's Enter
pub record Settled (text : List ℕ) (xs lines : List Event) (y : Event) (rest : List Event) (d : ℕ) (s r : State) : Type 0 where
  pub blanks : List Event
  pub behind : List Event
  pub is : rest ≡ blanks ++ behind
  pub atoms : Roles 4 blanks
  pub from : ℕ
  pub inside : from ≤ length text
  pub same : let ys = stale ∷ stale ∷ (lines ++ (y ∷ blanks)) in
      r ≡ with_opn (set s.opn d (width * length (xs ++ ys))) (with_evs (pack_of ((xs ++ ys) ++ (details-enter from ∷ behind))) s)

module _ (text : List ℕ) (xs : List Event) (t e p : Event) (lines : List Event) (x : Event) (rest : List Event) (d i : ℕ) (n : i ≡ width * length xs + 8) (s : State)
    (q : s.evs ≡ pack_of (xs ++ (t ∷ e ∷ p ∷ (lines ++ (x ∷ rest))))) where
  abbrev ended : Event
  ended = node_as 17 x

  abbrev exit : ℕ
  exit = exit-word i lines

  abbrev clear : State
  clear = clear_term i exit s

  -- the events up to the term's Exit, and all of them
  abbrev upto : List Event
  upto = xs ++ (stale ∷ e ∷ stale ∷ (lines ++ (ended ∷ [])))

  upto_all : (zs : List Event) → upto ++ zs ≡ xs ++ (stale ∷ e ∷ stale ∷ (lines ++ (ended ∷ zs)))
  upto_all zs = simp append_assoc

  upto-count : exit + width ≡ width * length upto
  upto-count = omega (arith, n, length-append xs (stale ∷ e ∷ stale ∷ (lines ++ (ended ∷ []))), length-append lines (ended ∷ []))

  words : clear.evs ≡ pack_of (upto ++ rest)
  words = cleared xs t e p lines x rest i n s q ∙ ap pack_of (sym (upto_all rest))

  blank-place : (b : Blanks upto rest (exit + width)) → other_of 4 1 (exit + width) clear ≡ exit + width + width * length b.blanks
  unfolding other_of
  blank-place b =
      let m : length clear.evs ≡ width * length (upto ++ rest) = ap (λ (l : List ℕ). length l) words ∙ pack-length (upto ++ rest) in
      let c : (length clear.evs - (exit + width)) / width ≡ length rest = omega (arith, m, upto-count, length-append upto rest) in
      ap₂ (λ (l : List ℕ) (k : ℕ). first_from (other 4 1) (exit + width) k l) words c ∙ b.place

  module _ (b : Blanks upto rest (exit + width)) where
    abbrev details : ℕ
    details = exit + width + width * length b.blanks

    abbrev between : List Event
    between = stale ∷ (lines ++ (ended ∷ b.blanks))

    settled-words : clear.evs ≡ pack_of ((xs ++ (stale ∷ [])) ++ (e ∷ (between ++ b.behind)))
    settled-words =
        let c : upto ++ (b.blanks ++ b.behind) ≡ (xs ++ (stale ∷ [])) ++ (e ∷ (between ++ b.behind)) = simp append_assoc in
        words ∙ ap (λ (l : List Event). pack_of (upto ++ l)) b.is ∙ ap pack_of c

    settled-inside : Fines text (ended ∷ b.blanks) → Fines text b.behind → detail_start details clear ≤ length text
    settled-inside u v =
        let zs = xs ++ (stale ∷ e ∷ stale ∷ lines) in
        let c : upto ++ (b.blanks ++ b.behind) ≡ (zs ++ (ended ∷ b.blanks)) ++ b.behind = simp append_assoc in
        detail-inside text zs ended b.blanks b.behind details clear (words ∙ ap (λ (l : List Event). pack_of (upto ++ l)) b.is ∙ ap pack_of c)
        (omega (arith, n, length-append zs (ended ∷ b.blanks), length-append xs (stale ∷ e ∷ stale ∷ lines))) u v

    settled_same : place_detail d i details clear
        ≡ with_opn (set s.opn d (width * length (xs ++ (stale ∷ between)))) (with_evs (pack_of ((xs ++ (stale ∷ between)) ++ (details-enter (detail_start details clear) ∷ b.behind))) s)
    unfolding clear_term edit_of patch_of
    settled_same =
        let z = details-enter (detail_start details clear) in
        let c : (xs ++ (stale ∷ [])) ++ (between ++ (z ∷ b.behind)) ≡ (xs ++ (stale ∷ between)) ++ (z ∷ b.behind) = simp append_assoc in
        let k : details - width ≡ width * length (xs ++ (stale ∷ between)) = omega (arith, n, length-append xs (stale ∷ between), length-append lines (ended ∷ b.blanks)) in
        placed (xs ++ (stale ∷ [])) e between b.behind d i details clear settled-words (omega (arith, n, length-append xs (stale ∷ [])))
        (omega (arith, n, length-append lines (ended ∷ b.blanks)))
        ∙ ap₂ (λ (l : List Event) (m : ℕ). with_opn (set s.opn d m) (with_evs (pack_of l) s)) c k

  pub settled : Fine text ended → Fines text rest → Settled text xs lines ended rest d s (move_term d i exit s)
  unfolding move_term
  settled u v =
      let b = blanks-of upto rest (exit + width) upto-count in
      let w = fines-split text b.blanks b.behind (subst (λ (l : List Event). Fines text l) b.is v) in
      record {
        blanks = b.blanks;
        behind = b.behind;
        is = b.is;
        atoms = b.atoms;
        from = detail_start (details b) clear;
        inside = settled-inside b (u, w.0) w.1;
        same = ap (λ (k : ℕ). place_detail d i k clear) (blank-place b) ∙ settled_same b;
      }

-- ---- the tree
pub record Moved (text : List ℕ) (fs : List Frame) (s r : State) : Type 0 where
  pub frame : Frame
  pub behind : List Event
  pub tree : Tree text (frame ∷ fs) behind r
  pub node : frame.enter.node ≡ 10
  pub lst : r.lst ≡ s.lst

term-same : (t y : Event) → t.node ≡ y.node → (t.a ≡ 0) × (t.b ≡ 0) × (t.c ≡ 0) × (t.d ≡ 0) → (y.a ≡ 0) × (y.b ≡ 0) × (y.c ≡ 0) × (y.d ≡ 0) → same_body t y ≡ true
unfolding same_body
term-same t y n u v =
    rw (
      eq-eqb t.node y.node n,
      eq-eqb t.a y.a (u.0 ∙ sym v.0),
      eq-eqb t.b y.b (u.1 ∙ sym v.1),
      eq-eqb t.c y.c (u.2 ∙ sym v.2),
      eq-eqb t.d y.d (u.3 ∙ sym v.3),
    ) refl

-- a term t with its lines and its Exit y, and what was made Stale
module _ (t y : Event) (lines blanks : List Event) where
  abbrev within-term : List Event
  within-term = stale ∷ stale ∷ lines

  term-whole : (h : ℕ) → 1 ≤ h → t.role ≡ 1 → t.node ≡ 17 → y.role ≡ 2 → same_body t y ≡ true → Roles 3 lines → Roles 4 blanks → Whole h (t ∷ stale ∷ stale ∷ (lines ++ (y ∷ blanks)))
  unfolding is_stale
  term-whole h l r n u b i j =
      let w = whole_append 0 (stale ∷ []) (stale ∷ lines) (whole-stale stale refl)
      (whole_append 0 (stale ∷ []) lines (whole-stale stale refl) (whole-roles 3 lines (omega arith) i)) in
      let p = whole_pair 0 t y within-term r (λ z. omega (arith, n, z)) u b w in
      let k = whole-roles 4 blanks (omega arith) j in
      let e : (t ∷ (within-term ++ (y ∷ []))) ++ blanks ≡ t ∷ (within-term ++ (y ∷ blanks)) = simp append_assoc in
      subst (λ (v : List Event). Whole h v) e
      (whole_append h (t ∷ (within-term ++ (y ∷ []))) blanks (whole-more 1 h (t ∷ (within-term ++ (y ∷ []))) l p) (whole-more 0 h blanks (omega arith) k))

  term-fines : (text : List ℕ) → Fine text t → Fines text lines → Fine text y → Fines text blanks → Fines text (t ∷ stale ∷ stale ∷ (lines ++ (y ∷ blanks)))
  term-fines text p q r v = (p, (fine-stale text, (fine-stale text, fines-append text lines (y ∷ blanks) q (r, v))))

-- the item f with its empty term before it, and a paragraph first in it
module _ (text : List ℕ) (f : Frame) (fs : List Frame) (g : List Event) (s : State) (tr : Tree text (f ∷ fs) g s)
    (tm : Termed (100 - length fs) f.before) (p : Paragraph (100 - suc (length fs)) g) (one : 1 ≤ length fs) (deep : length fs ≤ 98) where
  abbrev pub lead : List Event
  lead = flat fs ++ (tm.front ++ (tm.enter ∷ []))

  abbrev pub item : ℕ
  item = width * length (flat fs ++ f.before)

  abbrev pub left : Event
  left = closing p.enter p.from p.to

  abbrev pub turned : Event
  turned = node_as 17 left

  pub term_words : s.evs ≡ pack_of (lead ++ (closing tm.enter tm.from tm.to ∷ f.enter ∷ p.enter ∷ (p.lines ++ (left ∷ p.rest))))
  unfolding flat
  term_words =
      let x = closing tm.enter tm.from tm.to in
      let ys = p.enter ∷ (p.lines ++ (left ∷ p.rest)) in
      let e : (flat fs ++ ((tm.front ++ (tm.enter ∷ x ∷ [])) ++ (f.enter ∷ []))) ++ ys ≡ lead ++ (x ∷ f.enter ∷ ys) = simp append_assoc in
      tr.holds.evs ∙ ap₂ (λ (b k : List Event). pack_of ((flat fs ++ (b ++ (f.enter ∷ []))) ++ k)) tm.is p.is ∙ ap pack_of e

  pub term-place : item ≡ width * length lead + 8
  term-place =
      let x = closing tm.enter tm.from tm.to in
      let e = ap (λ (b : List Event). length (flat fs ++ b)) tm.is in
      omega (
        arith,
        e,
        length-append (flat fs) (tm.front ++ (tm.enter ∷ x ∷ [])),
        length-append tm.front (tm.enter ∷ x ∷ []),
        length-append (flat fs) (tm.front ++ (tm.enter ∷ [])),
        length-append tm.front (tm.enter ∷ []),
      )

  -- what is fine of the paragraph and behind it, and of the empty term and before it
  pub inner-fines : Fines text p.lines × Fine text left × Fines text p.rest
  inner-fines =
      let k = subst (λ (v : List Event). Fines text v) p.is tr.fines in
      let q = fines-split text p.lines (left ∷ p.rest) k.1 in
      (q.0, q.1.0, q.1.1)

  outer-fines : Fines text tm.front × Fine text tm.enter
  outer-fines =
      let k = subst (λ (v : List Event). Fines text v) tm.is tr.frames.0.fines in
      let q = fines-split text tm.front (tm.enter ∷ closing tm.enter tm.from tm.to ∷ []) k in
      (q.0, q.1.0)

  pub left-fine : Fine text turned
  left-fine = fine-term text left refl p.node inner-fines.1

  module _ (r : State) (st : Settled text lead p.lines turned p.rest (length fs) s r) where
    abbrev mid : List Event
    mid = stale ∷ stale ∷ (p.lines ++ (turned ∷ st.blanks))

    abbrev moved : Frame
    moved = record { before = tm.front ++ (tm.enter ∷ mid); enter = details-enter st.from }

    rest-fines : Fines text st.blanks × Fines text st.behind
    rest-fines = fines-split text st.blanks st.behind (subst (λ (v : List Event). Fines text v) st.is inner-fines.2)

    moved-framed : Framed text moved (length fs)
    moved-framed =
        let h = 100 - length fs in
        let ys = tm.enter ∷ mid in
        let same = term-same tm.enter turned tm.node tm.bare p.bare in
        record {
          role = refl;
          node = λ z e. omega (arith, e);
          first = λ z. absurd (omega (arith, z));
          fine = fine-item text st.from st.inside;
          whole = whole_append h tm.front ys tm.whole
              (term-whole tm.enter turned p.lines st.blanks h (omega arith) tm.role tm.node refl same p.inlines st.atoms);
          fines = fines-append text tm.front ys outer-fines.0
              (term-fines tm.enter turned p.lines st.blanks text outer-fines.1 inner-fines.0 left-fine rest-fines.0);
        }

    moved_holds : Holds (moved ∷ fs) st.behind r
    unfolding flat places
    moved_holds =
        let e : (lead ++ mid) ++ (moved.enter ∷ st.behind) ≡ flat (moved ∷ fs) ++ st.behind = simp append_assoc in
        let k : lead ++ mid ≡ flat fs ++ moved.before = simp append_assoc in
        record {
          evs = ap (λ (a : State). a.evs) st.same ∙ ap pack_of e;
          opn = ap (λ (a : State). a.opn) st.same
              ∙ ap₂ (λ (o : List ℕ) (v : List Event). set o (length fs) (width * length v)) tr.holds.opn k
              ∙ set_at (places fs) item [] (width * length (flat fs ++ moved.before)) (length fs) (places_count fs);
        }

    pub term_moved : Moved text fs s r
    term_moved =
        let h = 100 - suc (length fs) in
        let w = whole-more 0 h st.blanks (omega arith) (whole-roles 4 st.blanks (omega arith) st.atoms) in
        record {
          frame = moved;
          behind = st.behind;
          tree = record {
            holds = moved_holds;
            frames = (moved-framed, tr.frames.1);
            whole = whole-behind h st.blanks st.behind w (subst (λ (v : List Event). Whole h v) st.is p.whole);
            fines = rest-fines.1;
          };
          node = refl;
          lst = ap (λ (a : State). a.lst) st.same;
        }

  paragraph-moved : Moved text fs s (move_term (length fs) item (find_of 2 15 (item + width + width) s) s)
  paragraph-moved =
      let t = closing tm.enter tm.from tm.to in
      let k = word-find lead t f.enter p.enter p.lines left p.rest item term-place s term_words p.inlines refl p.node in
      subst (λ (x : ℕ). Moved text fs s (move_term (length fs) item x s)) (sym k)
      (term_moved _ (settled text lead t f.enter p.enter p.lines left p.rest (length fs) item term-place s term_words left-fine inner-fines.2))

-- ---- the item's first child
-- it stands whole: there is one, and the test reads its role and node
module _ (f : Frame) (fs : List Frame) (s : State) where
  abbrev start : ℕ
  start = width * length (flat fs ++ f.before)

  child-some : Holds (f ∷ fs) [] s → whole_at s.evs (start + width) ≡ true → ⊥
  unfolding flat
  child-some h w =
      let n = holds-words (f ∷ fs) [] s h in
      let e = ap (λ (v : List Event). length v) (flat-at [] f fs []) ∙ length-append (flat fs ++ f.before) (f.enter ∷ []) in
      omega (arith, leb-true (start + 8 + 8) (length s.evs) w, n, e)

  child-is : (x : Event) (xs : List Event) → Holds (f ∷ fs) (x ∷ xs) s → is_at s.evs (start + width) 1 15 ≡ both (eqb x.role 1) (eqb x.node 15)
  unfolding flat
  child-is x xs h =
      let e : flat (f ∷ fs) ++ (x ∷ xs) ≡ ((flat fs ++ f.before) ++ (f.enter ∷ [])) ++ (x ∷ xs) = simp append_assoc in
      ap (λ (v : List ℕ). is_at v (start + width) 1 15) (h.evs ∙ ap pack_of e)
      ∙ is-at ((flat fs ++ f.before) ++ (f.enter ∷ [])) x xs (start + width) 1 15 (omega (arith, length-append (flat fs ++ f.before) (f.enter ∷ [])))

  pub other-kept : (g : List Event) → Holds (f ∷ fs) g s → whole_at s.evs (start + width) ≡ true → NoParagraph g → is_at s.evs (start + width) 1 15 ≡ false
  other-kept [] h w k = absurd (child-some h w)
  other-kept (x ∷ xs) h w k = child-is x xs h ∙ by-case (eqb x.role 1) (eqb x.node 15) refl refl
    where
      by-case : (a b : Bool) → eqb x.role 1 ≡ a → eqb x.node 15 ≡ b → both a b ≡ false
      by-case false b u v = refl
      by-case true false u v = refl
      by-case true true u v = absurd (k (eqb-true x.role 1 u) (eqb-true x.node 15 v))

  -- ys are the events behind the paragraph's
  pub paragraph-is : (h : ℕ) (g ys : List Event) → Holds (f ∷ fs) (g ++ ys) s → Paragraph h g → is_at s.evs (start + width) 1 15 ≡ true
  paragraph-is h g ys k p =
      let xs = p.lines ++ (closing p.enter p.from p.to ∷ p.rest) in
      child-is p.enter (xs ++ ys) (subst (λ (v : List Event). Holds (f ∷ fs) (v ++ ys) s) p.is k)
      ∙ rw (eq-eqb p.enter.role 1 p.role, eq-eqb p.enter.node 15 p.node) refl

-- the item's step at its own word; us are the frames further in
pub settle_is : (us : List Frame) (f : Frame) (fs : List Frame) (g : List Event) (s : State) → Holds (us ++ (f ∷ fs)) g s
    → settle_term (length fs) s ≡ term_of (length fs) (width * length (flat fs ++ f.before)) s
unfolding settle_term
settle_is us f fs g s h =
    let i : get_or s.opn (length fs) 0 ≡ width * length (flat fs ++ f.before) = ap (λ (v : List ℕ). get_or v (length fs) 0) h.opn ∙ opened-place us f fs in
    rw (lt-leb (length s.opn) (length fs) (omega (arith, holds-count (us ++ (f ∷ fs)) g s h, length-append us (f ∷ fs))), i) refl

pub term-tree : (text : List ℕ) (f : Frame) (fs : List Frame) (g : List Event) (d : ℕ) (s : State)
    → Tree text (f ∷ fs) g s → f.enter.node ≡ 10 → Termed (100 - length fs) f.before → Led (100 - suc (length fs)) g
    → d ≡ length fs → 1 ≤ length fs → length fs ≤ 98 → (settle_term d s).number ≡ 0
    → Moved text fs s (settle_term d s)
term-tree text f fs g d s tr node tm led e one deep z =
    let k = length fs in
    let i = width * length (flat fs ++ f.before) in
    let m : settle_term d s ≡ term_of k i s = ap (λ (c : ℕ). settle_term c s) e ∙ settle_is [] f fs g s tr.holds in
    let t = term_is k i s (sym (ap (λ (r : State). r.number) m) ∙ z) in
    let to = move_term k i (find_of 2 15 (i + width + width) s) s in
    let by : Bool → Type 0 = λ b. Moved text fs s (pick b to s) in
    let none : NoParagraph g → by (is_at s.evs (i + width) 1 15) =
    λ p. subst by (sym (other-kept f fs s g tr.holds t.0 p)) (record { frame = f; behind = g; tree = tr; node = node; lst = refl }) in
    let some : Paragraph (100 - suc k) g → by (is_at s.evs (i + width) 1 15) =
    λ p. subst by (sym (paragraph-is f fs s (100 - suc k) g [] (holds_as (f ∷ fs) g (g ++ []) s (sym (append-nil g)) tr.holds) p)) (paragraph-moved text f fs g s tr tm p one deep) in
    subst (λ (r : State). Moved text fs s r) (sym (m ∙ t.1)) (⊎_elim none some led)
