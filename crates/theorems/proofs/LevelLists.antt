-- What a block does to the list that is open at its level, and a heading to the sections. Assumes nothing.
use mathlib.Core.Path.{◌≡◌, refl, sym, ap, ◌∙◌}
use mathlib.Core.Logic.{inl, inr, ⊎_elim}
use mathlib.Core.Bool.{Bool, true, false, not, true≢false}
use mathlib.Core.List.{List, [], ◌∷◌, ◌++◌, append_assoc, append-nil}
use Prim.Native.Nat.{ℕ, zero, suc, ◌+◌, ◌-◌, ◌≤◌}
use native.Mathlib.Omega.{arith}
use lib.Dec.{eqb, leb, ltb}
use lib.ListN.{length, take, drop, get_or, length-append}
use lib.Seq.{take_at, drop-append-add, get_or-append-add, take-append-add, length-take-le, sets-eq}
use borrow.Author.Tests.{eqb-true, eqb-false, ne_eqb, eq-eqb, le-leb, lt-leb}
use Rattle.classes.specs.Choice.{pick, both}
use Rattle.lines.specs.Lines.{Span}
use Rattle.markers.specs.Lists.{continues_of}
use Rattle.markers.specs.declared.Continued.{Continued}
use Rattle.std.specs.Prelude.{Option, Some, None as No}
use Rattle.kinds.specs.declared.Kind.{Kind}
use Rattle.measure.specs.Continue.{kind_num, level_of}
use Rattle.events.specs.State.{State, with_opn, with_sec, refuse_of, go}
use Rattle.events.specs.Events.{push_of, whole_at, enter_of, exit_of}
use Rattle.lists.specs.Lists.{same_type, list_words, last_list_of, set_list_of, pop_list_of, retype_of, end_of, close_of, close_list_of}
use Rattle.lists.specs.declared.OpenList.{OpenList}
use Rattle.moves.specs.Moves.{sections_of}
use Rattle.walk.specs.Fields.{marker_in}
use Rattle.walk.specs.Leaf.{node, mark, kept_of, begin_section, end_sections, section_at, section_of, leaf_of}
use Rattle.walk.specs.Table.{table_of}
use Rattle.walk.specs.Tree.{count_of, admit_of, list_here, go_on, settle_of, loosen_of, open_here, plain_of, ready_of}
use Rattle.walk.specs.declared.Met.{Met}
use Rattle.walk.specs.declared.Limits.{Limits}
use Rattle.theorems.specs.Lists.{goes_on}
use Rattle.theorems.proofs.Level.{Around, None, Here, Level, Between}
use Rattle.theorems.proofs.LevelSteps.{passed, chosen, Same, same-on, same-push, Entered, enter_step, exit-step, same-retype, same-exits, leaf_events, same-leaf, same-table, same_count, same-admit, same-loosen}

-- ---- states that have the same open events, lists and sections
pub none-same : (top : Bool) (p l : List ℕ) (s r : State) → Same s r → None top p l s → None top p l r
none-same top p l s r e h =
    record { secs = h.secs; opn = e.0 ∙ h.opn; count = h.count ∙ ap (λ (x : List ℕ). pick {A = ℕ} top (length x) 0) (sym e.2); lst = e.1 ∙ h.lst }

pub here-same : (top : Bool) (p l : List ℕ) (s r : State) → Same s r → Here top p l s → Here top p l r
here-same top p l s r e h = record {
  secs = h.secs;
  enter = h.enter;
  list = h.list;
  opn = e.0 ∙ h.opn;
  count = h.count ∙ ap (λ (x : List ℕ). pick {A = ℕ} top (length x) 0) (sym e.2);
  lst = e.1 ∙ h.lst;
  depth = h.depth ∙ ap (λ (x : List ℕ). length x) (sym e.0);
}

pub level-same : (top : Bool) (p l : List ℕ) (s r : State) → Same s r → Level top p l s → Level top p l r
level-same top p l s r e h = ⊎_elim (λ n. inl (none-same top p l s r e n)) (λ n. inr (here-same top p l s r e n)) h

-- ---- no list is open here
pub around-on : (l r : List ℕ) (n k : ℕ) → r ≡ l → n ≤ k → Around l n → Around r k
around-on l r n k e h a ne = let q = a (λ z. ne (ap (λ (x : List ℕ). length x) e ∙ z)) in rw e (omega arith)

-- the events of a level are open in it
none-long : (top : Bool) (p l : List ℕ) (s : State) → None top p l s → length p ≤ length s.opn
none-long top p l s h = omega (arith, ap (λ (x : List ℕ). length x) h.opn, length-append p h.secs)

pub none-around : (top : Bool) (p l : List ℕ) (s : State) → Around l (length p) → None top p l s → Around s.lst (length s.opn)
none-around top p l s a h = around-on l s.lst (length p) (length s.opn) h.lst (none-long top p l s h) a

pub not-here : (s : State) → Around s.lst (length s.opn) → (list_here s ≡ false) × (open_here s ≡ false)
unfolding last_list_of
not-here s a = by-case (eqb (length s.lst) 0) refl
  where
    by-case : (b : Bool) → eqb (length s.lst) 0 ≡ b
        → (both (not b) (eqb (get_or s.lst (length s.lst - 5 + 4) 0) (length s.opn)) ≡ false) ×
        (both (not b) (leb (length s.opn) (get_or s.lst (length s.lst - 5 + 4) 0)) ≡ false)
    by-case true e = (refl, refl)
    by-case false e =
        let d = get_or s.lst (length s.lst - 5 + 4) 0 in
        let q = a (eqb-false (length s.lst) 0 e) in
        (ne_eqb d (length s.opn) (λ z. omega (arith, q, z)), lt-leb (length s.opn) d q)

-- ---- the list that is open here
last-words : (l : List ℕ) (o : OpenList) → length (l ++ list_words o) - 5 ≡ length l
last-words l o = omega (arith, length-append l (list_words o))

pub last_word : (s : State) (l : List ℕ) (o : OpenList) → s.lst ≡ l ++ list_words o → (k : ℕ) → get_or s.lst (length s.lst - 5 + k) 0 ≡ get_or (list_words o) k 0
last_word s l o e k = rw (e, last-words l o) (get_or-append-add l (list_words o) k 0)

pub last-depth : (s : State) (l : List ℕ) (o : OpenList) → s.lst ≡ l ++ list_words o → (last_list_of s).depth ≡ o.depth
unfolding last_list_of
last-depth s l o e = last_word s l o e 4

some_words : (s : State) (l : List ℕ) (o : OpenList) → s.lst ≡ l ++ list_words o → length s.lst ≡ 0 → ⊥
some_words s l o e z = omega (arith, ap (λ (x : List ℕ). length x) e, length-append l (list_words o))

pub here-depth : (top : Bool) (p l : List ℕ) (s : State) → Here top p l s → get_or s.lst (length s.lst - 5 + 4) 0 ≡ length s.opn
unfolding last_list_of
here-depth top p l s h = last-depth s l h.list h.lst ∙ h.depth

-- its Enter is the innermost that is open
pub depth-here : (s : State) (l : List ℕ) (o : OpenList) → s.lst ≡ l ++ list_words o → o.depth ≡ length s.opn → (list_here s ≡ true) × (open_here s ≡ true)
depth-here s l o e h =
    let d = last-depth s l o e ∙ h in
    let n = ne_eqb (length s.lst) 0 (some_words s l o e) in
    (rw n (eq-eqb (last_list_of s).depth (length s.opn) d), rw n (le-leb (length s.opn) (last_list_of s).depth (omega (arith, d))))

pub is-here : (top : Bool) (p l : List ℕ) (s : State) → Here top p l s → (list_here s ≡ true) × (open_here s ≡ true)
is-here top p l s h = depth-here s l h.list h.lst h.depth

pub set_words : (s : State) (l : List ℕ) (o x : OpenList) → s.lst ≡ l ++ list_words o → (set_list_of x s).lst ≡ l ++ list_words x
unfolding set_list_of
set_words s l o x e =
    rw (e, last-words l o, sets-eq (list_words x) (l ++ list_words o) (length l) (omega (arith, length-append l (list_words o))), take_at l (list_words o) (length l) refl)
    (ap (λ (t : List ℕ). l ++ list_words x ++ t) (drop-append-add l (list_words o) 5) ∙ append-nil (l ++ list_words x))

-- it is another, as deep
set-step : (top : Bool) (p l : List ℕ) (s : State) (o : OpenList) → Here top p l s → o.depth ≡ (last_list_of s).depth
    → Here top p l (set_list_of o s) × ((set_list_of o s).opn ≡ s.opn) × ((set_list_of o s).sec ≡ s.sec)
unfolding set_list_of
set-step top p l s o h e = (
  record {
    secs = h.secs;
    enter = h.enter;
    list = o;
    opn = h.opn;
    count = h.count;
    lst = set_words s l h.list o h.lst;
    depth = e ∙ last-depth s l h.list h.lst ∙ h.depth;
  },
  refl,
  refl,
)

pub pop-words : (s : State) (l : List ℕ) (o : OpenList) → s.lst ≡ l ++ list_words o → (pop_list_of s).lst ≡ l
unfolding pop_list_of
pop-words s l o e = rw (e, last-words l o) (take_at l (list_words o) (length l) refl)

-- what a level with an open list is after that list's end
abbrev pub Ended : Bool → List ℕ → List ℕ → State → State → Type 0
Ended top p l s r = None top p l r × (r.sec ≡ s.sec)

pop_step : (top : Bool) (p l : List ℕ) (s : State) (h : Here top p l s) (r : State) → Same (with_opn (p ++ h.secs) s) r → Ended top p l s (pop_list_of r)
unfolding pop_list_of
pop_step top p l s h r e = (
  record {
    secs = h.secs;
    opn = e.0;
    count = h.count ∙ ap (λ (x : List ℕ). pick {A = ℕ} top (length x) 0) (sym e.2);
    lst = pop-words r l h.list (e.1 ∙ h.lst);
  },
  e.2,
)

end_step : (top : Bool) (p l : List ℕ) (pos : ℕ) (o : OpenList) (e : ℕ) (s : State) → Here top p l s → (end_of pos o e s).number ≡ 0 → Ended top p l s (end_of pos o e s)
unfolding end_of
end_step top p l pos o e s h =
    let a = retype_of e o.start s in
    let y = with_opn (p ++ h.secs) s in
    let k = same-retype e o.start s in
    let n : Entered y a = record { place = h.enter; opn = k.0 ∙ h.opn ∙ sym (append_assoc p h.secs (h.enter ∷ [])); lst = k.1; sec = k.2 } in
    chosen (whole_at s.evs e) (go (exit_of pos pos a) pop_list_of) (refuse_of 7 s) (λ r. Ended top p l s r)
    (λ u. passed (exit_of pos pos a) pop_list_of (λ r. Ended top p l s r) (λ z w. pop_step top p l s h (exit_of pos pos a) (exit-step pos pos y a n z)))
    (λ u z. absurd (omega arith))

-- its Enter and its five words are off
pub close-step : (top : Bool) (p l : List ℕ) (pos : ℕ) (s : State) → Here top p l s → (close_list_of pos s).number ≡ 0 → Ended top p l s (close_list_of pos s)
unfolding close_list_of close_of
close-step top p l pos s h =
    let o = last_list_of s in
    let e = get_or s.opn (o.depth - 1) 0 in
    let x = end_of pos o e s in
    let y = pick (ltb (length s.opn) o.depth) (refuse_of 7 s) x in
    chosen (eqb (length s.lst) 0) (refuse_of 7 s) (pick (eqb o.depth 0) (refuse_of 7 s) y) (λ r. Ended top p l s r) (λ u z. absurd (omega arith)) (λ u.
    chosen (eqb o.depth 0) (refuse_of 7 s) y (λ r. Ended top p l s r) (λ u z. absurd (omega arith)) (λ u.
    chosen (ltb (length s.opn) o.depth) (refuse_of 7 s) x (λ r. Ended top p l s r) (λ u z. absurd (omega arith)) (λ u.
    end_step top p l pos o e s h)))

-- ---- a block before its own events
goes_same : (k : Kind) (s r : State) → Same s r → goes_on k r ≡ goes_on k s
unfolding last_list_of
goes_same k s r e = rw e.1

between-same : (top : Bool) (p l : List ℕ) (k : Kind) (s a b r : State) → Same s a → Between top p l k a b → Same b r → Between top p l k s r
between-same top p l k s a b r i h j = record {
  level = level-same top p l b r j h.level;
  none = λ n. none-same top p l b r j (h.none n);
  on = λ x g.
      let y = h.on (here-same top p l s a i x) (goes_same k s a i ∙ g) in
      (here-same top p l b r j y.0, j.0 ∙ y.1 ∙ i.0);
  secs = λ t. j.2 ∙ h.secs t ∙ i.2;
}

-- a list that was open here is closed, and the block does not go on it
closed-between : (top : Bool) (p l : List ℕ) (k : Kind) (s r : State) → goes_on k s ≡ false → Ended top p l s r → Between top p l k s r
closed-between top p l k s r g h = record { level = inl h.0; none = λ n. h.0; on = λ x y. absurd (true≢false (sym y ∙ g)); secs = λ t. h.1 }

pub not-item : (k : Kind) (s : State) → eqb (kind_num k) 9 ≡ false → goes_on k s ≡ false
not-item k s e = rw e

not-next : (k : Kind) (s : State) → continues_of (last_list_of s).prev (marker_in k) ≡ No → goes_on k s ≡ false
not-next k s e = rw e (by-case (eqb (kind_num k) 9))
  where
    by-case : (b : Bool) → both b false ≡ false
    by-case true = refl
    by-case false = refl

go-on-step : (top : Bool) (p l : List ℕ) (m : Met) (s : State) (c : Option Continued) → continues_of (last_list_of s).prev (marker_in m.kind) ≡ c → Here top p l s → kind_num m.kind ≡ 9
    → (go_on (last_list_of s) m.start c s).number ≡ 0 → Between top p l m.kind s (go_on (last_list_of s) m.start c s)
go-on-step top p l m s No e h i z = closed-between top p l m.kind s (close_list_of m.start s) (not-next m.kind s e) (close-step top p l m.start s h z)
go-on-step top p l m s (Some c) e h i z =
    let o = last_list_of s in
    let r = set-step top p l s (record { start = pick (same_type o.start o.prev) c.prev o.start; prev = c.next; depth = o.depth }) h refl in
    record { level = inr r.0; none = λ x. absurd (x i); on = λ x g. (r.0, r.1); secs = λ t. r.2 }

settle-here : (top : Bool) (p l : List ℕ) (m : Met) (s : State) → Here top p l s → (settle_of m s).number ≡ 0 → Between top p l m.kind s (settle_of m s)
unfolding settle_of
settle-here top p l m s h =
    let o = last_list_of s in
    let c = continues_of o.prev (marker_in m.kind) in
    rw (is-here top p l s h).0
    (chosen (eqb (kind_num m.kind) 9) (go_on o m.start c s) (close_list_of m.start s) (λ r. Between top p l m.kind s r)
    (λ e. go-on-step top p l m s c refl h (eqb-true (kind_num m.kind) 9 e))
    (λ e z. closed-between top p l m.kind s (close_list_of m.start s) (not-item m.kind s e) (close-step top p l m.start s h z)))

settle-none : (top : Bool) (p l : List ℕ) (m : Met) (s : State) → Around l (length p) → None top p l s → Between top p l m.kind s (settle_of m s)
unfolding settle_of
settle-none top p l m s a h = rw (not-here s (none-around top p l s a h)).0 (record { level = inl h; none = λ n. h; on = λ x g. (x, refl); secs = λ t. refl })

settle_step : (top : Bool) (p l : List ℕ) (m : Met) (s : State) → Around l (length p) → Level top p l s → (settle_of m s).number ≡ 0 → Between top p l m.kind s (settle_of m s)
settle_step top p l m s a h z = ⊎_elim (λ n. settle-none top p l m s a n) (λ n. settle-here top p l m s n z) h

pub ready-step : (lim : Limits) (left : ℕ) (top : Bool) (p l : List ℕ) (m : Met) (at n : ℕ) (s : State) → Around l (length p) → Level top p l s
    → (ready_of lim left top m at n s).number ≡ 0 → Between top p l m.kind s (ready_of lim left top m at n s)
unfolding ready_of
ready-step lim left top p l m at n s x h =
    let a = count_of at n s in
    let b = admit_of lim left top m a in
    let c = settle_of m b in
    let e = same-on s a b (same_count at n s) (same-admit lim left top m a) in
    let P : State → Type 0 = λ r. Between top p l m.kind s r in
    passed a (λ a. go (admit_of lim left top m a) (λ b. go (settle_of m b) (loosen_of m))) P (λ za.
    passed b (λ b. go (settle_of m b) (loosen_of m)) P (λ zb.
    passed c (loosen_of m) P (λ zc z.
    between-same top p l m.kind s b c (loosen_of m c) e (settle_step top p l m b x (level-same top p l s b e h) zc) (same-loosen m c))))

-- ---- sections
pub kept-le : (sec : List ℕ) (level n : ℕ) → kept_of sec level n ≤ n
unfolding kept_of
kept-le sec level zero = omega arith
kept-le sec level (suc n) = by-case (ltb (get_or sec n 0) level) (kept-le sec level n)
  where
    by-case : (b : Bool) → kept_of sec level n ≤ n → pick b (suc n) (kept_of sec level n) ≤ suc n
    by-case true h = omega arith
    by-case false h = omega arith

ends-step : (kept pos word : ℕ) (s : State) → (end_sections kept pos word s).number ≡ 0
    → Same (with_opn (take (length s.opn - (length s.sec - kept)) s.opn) s) (end_sections kept pos word s)
unfolding end_sections
ends-step kept pos word s =
    let left = length s.opn - (length s.sec - kept) in
    let a = sections_of pos word (drop left s.opn) s in
    let k = same-exits pos word (drop left s.opn) s in
    let P : State → Type 0 = λ r. Same (with_opn (take left s.opn) s) r in
    chosen (ltb (length s.opn) (length s.sec - kept)) (refuse_of 7 s) (go a (with_opn (take left s.opn))) P (λ e z. absurd (omega arith)) (λ e.
    passed a (with_opn (take left s.opn)) P (λ u v. (refl, k.1, k.2)))

begin-step : (level i kept : ℕ) (s : State) → (begin_section level i kept s).number ≡ 0 → Entered (with_sec (take kept s.sec ++ (level ∷ [])) s) (begin_section level i kept s)
unfolding begin_section
begin-step level i kept s =
    let y = with_sec (take kept s.sec ++ (level ∷ [])) s in
    let x = node 14 i i i 0 0 0 in
    chosen (leb 32 kept) (refuse_of 7 s) (enter_of x y) (λ r. Entered y r) (λ e z. absurd (omega arith)) (λ e. enter_step x y)

-- all but the first `kept` end, one begins
next-section : (p l : List ℕ) (kept level : ℕ) (s a r : State) → None true p l s → kept ≤ length s.sec
    → Same (with_opn (take (length s.opn - (length s.sec - kept)) s.opn) s) a → Entered (with_sec (take kept a.sec ++ (level ∷ [])) a) r → None true p l r
next-section p l kept level s a r h k e x =
    let c : length h.secs ≡ length s.sec = h.count in
    let n : length s.opn ≡ length p + length h.secs = ap (λ (o : List ℕ). length o) h.opn ∙ length-append p h.secs in
    let left : length s.opn - (length s.sec - kept) ≡ length p + kept = omega arith in
    let o : a.opn ≡ p ++ take kept h.secs = e.0 ∙ ap (λ (i : ℕ). take i s.opn) left ∙ ap (λ (o : List ℕ). take (length p + kept) o) h.opn ∙ take-append-add p h.secs kept in
    let one : (q : List ℕ) (y : ℕ) → kept ≤ length q → length (take kept q ++ (y ∷ [])) ≡ kept + 1 = λ q y g.
    length-append (take kept q) (y ∷ []) ∙ ap (λ (i : ℕ). i + 1) (length-take-le kept q g) in
    record {
      secs = take kept h.secs ++ (x.place ∷ []);
      opn = x.opn ∙ ap (λ (o : List ℕ). o ++ (x.place ∷ [])) o ∙ append_assoc p (take kept h.secs) (x.place ∷ []);
      count = one h.secs x.place (omega arith) ∙ sym (one a.sec level (omega (arith, ap (λ (o : List ℕ). length o) e.2))) ∙ ap (λ (o : List ℕ). length o) (sym x.sec);
      lst = x.lst ∙ e.1 ∙ h.lst;
    }

section-at : (p l : List ℕ) (level i pos word : ℕ) (s : State) → None true p l s → (section_at level i pos word s).number ≡ 0 → None true p l (section_at level i pos word s)
unfolding section_at
section-at p l level i pos word s h =
    let kept = kept_of s.sec level (length s.sec) in
    let a = end_sections kept pos word s in
    passed a (begin_section level i kept) (λ r. None true p l r) (λ u v.
    next-section p l kept level s a (begin_section level i kept a) h (kept-le s.sec level (length s.sec)) (ends-step kept pos word s u) (begin-step level i kept a v))

section-step : (p l : List ℕ) (level i : ℕ) (s : State) → None true p l s → (section_of level i s).number ≡ 0 → None true p l (section_of level i s)
unfolding section_of
section-step p l level i s h =
    let x = section_at level i (get_or s.evs (s.attr + 1) 0) (s.attr - 1) s in
    let P : State → Type 0 = λ r. None true p l r in
    chosen (eqb s.attr 0) (section_at level i i (length s.evs) s) (pick (whole_at s.evs (s.attr - 1)) x (refuse_of 7 s)) P
    (λ e. section-at p l level i i (length s.evs) s h)
    (λ e. chosen (whole_at s.evs (s.attr - 1)) x (refuse_of 7 s) P
    (λ e. section-at p l level i (get_or s.evs (s.attr + 1) 0) (s.attr - 1) s h)
    (λ e z. absurd (omega arith)))

-- ---- blocks that are no containers
-- no list is open after them, and sections change at the top only
abbrev Plain : Bool → List ℕ → List ℕ → State → State → Type 0
Plain top p l s r = None top p l r × (top ≡ false → r.sec ≡ s.sec)

plain-on : (top : Bool) (p l : List ℕ) (s a r : State) → Plain top p l s a → Same a r → Plain top p l s r
plain-on top p l s a r h e = (none-same top p l a r e h.0, λ t. e.2 ∙ h.1 t)

headed : (top k : Bool) (p l : List ℕ) (level i : ℕ) (s : State) → None top p l s → (pick (both top k) (section_of level i s) s).number ≡ 0 → Plain top p l s (pick (both top k) (section_of level i s) s)
headed true true p l level i s h z = (section-step p l level i s h z, λ t. absurd (true≢false t))
headed true false p l level i s h z = (h, λ t. refl)
headed false k p l level i s h z = (h, λ t. refl)

leaf-step : (text : List ℕ) (top : Bool) (p l : List ℕ) (m : Met) (line : ℕ) (ls : List Span) (s : State) → None top p l s
    → (leaf_of text m line top ls s).number ≡ 0 → Plain top p l s (leaf_of text m line top ls s)
unfolding leaf_of
leaf-step text top p l m line ls s h =
    let a = pick (both top (eqb (kind_num m.kind) 5)) (section_of (level_of m.kind) m.start s) s in
    passed a (leaf_events text m line top ls) (Plain top p l s) (λ za z.
    plain-on top p l s a (leaf_events text m line top ls a) (headed top (eqb (kind_num m.kind) 5) p l (level_of m.kind) m.start s h za) (same-leaf text m line top ls a z))

pub plain_step : (text : List ℕ) (top : Bool) (p l : List ℕ) (m : Met) (line : ℕ) (ls : List Span) (s : State) → None top p l s
    → (plain_of text top m line ls s).number ≡ 0 → Plain top p l s (plain_of text top m line ls s)
unfolding plain_of
plain_step text top p l m line ls s h =
    let k = kind_num m.kind in
    let x = mark 4 k m.start m.end 0 in
    let P : State → Type 0 = λ r. Plain top p l s r in
    chosen (leb k 3) (push_of x s) (pick (eqb k 10) (table_of text m ls s) (leaf_of text m line top ls s)) P
    (λ e z. plain-on top p l s s (push_of x s) (h, λ t. refl) (same-push x s))
    (λ e. chosen (eqb k 10) (table_of text m ls s) (leaf_of text m line top ls s) P
    (λ e z. plain-on top p l s s (table_of text m ls s) (h, λ t. refl) (same-table text m ls s z))
    (λ e. leaf-step text top p l m line ls s h))
