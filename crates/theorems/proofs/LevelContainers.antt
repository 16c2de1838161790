-- What a container's Enters and Exits do to its level and to the level inside. Assumes nothing.
use mathlib.Core.Path.{◌≡◌, refl, sym, ap, ◌∙◌}
use mathlib.Core.Logic.{inl, inr, ⊎_elim}
use mathlib.Core.Bool.{Bool, true, false, not}
use mathlib.Core.List.{List, [], ◌∷◌, ◌++◌, append_assoc, append-nil}
use Prim.Native.Nat.{ℕ, ◌+◌, ◌-◌}
use native.Mathlib.Omega.{arith}
use lib.Dec.{eqb, leb, ltb}
use lib.ListN.{length, get_or, set, length-append, length-set}
use lib.Seq.{set_at, append_snoc}
use borrow.Author.Tests.{eqb-true, eqb-false}
use Rattle.classes.specs.Choice.{pick}
use Rattle.markers.specs.Markers.{marker_num}
use Rattle.markers.specs.declared.Marker.{Marker}
use Rattle.kinds.specs.declared.Kind.{Kind}
use Rattle.measure.specs.Continue.{kind_num}
use Rattle.events.specs.State.{State, with_lst, with_flags, refuse_of, go}
use Rattle.events.specs.Events.{width, patch_of, edit_of, whole_at, enter_of, exit_of}
use Rattle.lists.specs.Lists.{list_words, push_list_of}
use Rattle.lists.specs.declared.OpenList.{OpenList}
use Rattle.moves.specs.Moves.{is_at, find_of, other_of, shift_of}
use Rattle.walk.specs.Fields.{marker_in}
use Rattle.walk.specs.Tree.{list_node, new_list, open_list, open_term, container_node, open_container, clear_term, place_detail, move_term, term_of, settle_term, close_inner, close_container}
use Rattle.walk.specs.declared.Met.{Met}
use Rattle.theorems.proofs.Level.{Around, None, Here, Level}
use Rattle.theorems.proofs.LevelSteps.{passed, chosen, Same, Entered, enter_step, exit-step, same-term}
use Rattle.theorems.proofs.LevelLists.{none-same, here-same, around-on, none-around, not-here, here-depth, is-here, Ended, close-step}

-- ---- containers: Enters
-- what a block of kind k has done to its level, from where it was ready: behind an item its list is open
pub record Done (top : Bool) (p l : List ℕ) (k : Kind) (s r : State) : Type 0 where
  pub none : (kind_num k ≡ 9 → ⊥) → None top p l r
  pub item : kind_num k ≡ 9 → Here top p l r
  pub on : kind_num k ≡ 9 → Here top p l s → r.opn ≡ s.opn
  pub secs : top ≡ false → r.sec ≡ s.sec

pub done-same : (top : Bool) (p l : List ℕ) (k : Kind) (s a b r : State) → Same s a → Done top p l k a b → Same b r → Done top p l k s r
done-same top p l k s a b r i h j = record {
  none = λ n. none-same top p l b r j (h.none n);
  item = λ e. here-same top p l b r j (h.item e);
  on = λ e x. j.0 ∙ h.on e (here-same top p l s a i x) ∙ i.0;
  secs = λ t. j.2 ∙ h.secs t ∙ i.2;
}

pub done-level : (top : Bool) (p l : List ℕ) (k : Kind) (s r : State) → Done top p l k s r → Level top p l r
done-level top p l k s r h = by-case (eqb (kind_num k) 9) refl
  where
    by-case : (b : Bool) → eqb (kind_num k) 9 ≡ b → Level top p l r
    by-case true e = inr (h.item (eqb-true (kind_num k) 9 e))
    by-case false e = inl (h.none (eqb-false (kind_num k) 9 e))

-- a list begins where none is open here
new-list : (top : Bool) (p l : List ℕ) (ty : Marker) (s a : State) → None top p l s → Entered s a → (new_list ty a).number ≡ 0 → Here top p l (new_list ty a) × ((new_list ty a).sec ≡ s.sec)
unfolding push_list_of
new-list top p l ty s a h x =
    let o : OpenList = record { start = ty; prev = ty; depth = length a.opn } in
    chosen (leb 160 (length a.lst)) (refuse_of 7 a) (with_lst (a.lst ++ list_words o) a) (λ r. Here top p l r × (r.sec ≡ s.sec)) (λ e z. absurd (omega arith)) (λ e z. (
      record {
        secs = h.secs;
        enter = x.place;
        list = o;
        opn = x.opn ∙ ap (λ (q : List ℕ). q ++ (x.place ∷ [])) h.opn ∙ append_assoc p h.secs (x.place ∷ []);
        count = h.count ∙ ap (λ (q : List ℕ). pick {A = ℕ} top (length q) 0) (sym x.sec);
        lst = ap (λ (q : List ℕ). q ++ list_words o) (x.lst ∙ h.lst);
        depth = refl;
      },
      x.sec,
    ))

open-new : (top : Bool) (p l : List ℕ) (ty : Marker) (pos : ℕ) (s : State) → Around l (length p) → None top p l s → (open_list ty pos s).number ≡ 0
    → Here top p l (open_list ty pos s) × ((open_list ty pos s).sec ≡ s.sec)
unfolding open_list
open-new top p l ty pos s a h =
    let b = enter_of (list_node ty pos) s in
    rw (not-here s (none-around top p l s a h)).1
    (passed b (new_list ty) (λ r. Here top p l r × (r.sec ≡ s.sec)) (λ z. new-list top p l ty s b h (enter_step (list_node ty pos) s z)))

-- and goes on where one is
open-on : (top : Bool) (p l : List ℕ) (ty : Marker) (pos : ℕ) (s : State) → Here top p l s → open_list ty pos s ≡ s
unfolding open_list
open-on top p l ty pos s h = rw (is-here top p l s h).1

-- after an item's list, and before all else of the container
abbrev pub listed : Met → State → State
listed m s = pick (eqb (kind_num m.kind) 9) (open_list (marker_in m.kind) m.start s) s

pub list-step : (top : Bool) (p l : List ℕ) (m : Met) (s : State) → Around l (length p) → Level top p l s → ((kind_num m.kind ≡ 9 → ⊥) → None top p l s)
    → (listed m s).number ≡ 0 → Done top p l m.kind s (listed m s)
list-step top p l m s a h n =
    let k = kind_num m.kind in
    let x = open_list (marker_in m.kind) m.start s in
    chosen (eqb k 9) x s (λ r. Done top p l m.kind s r)
    (λ e z. ⊎_elim (λ y. from-none (eqb-true k 9 e) (open-new top p l (marker_in m.kind) m.start s a y z)) (λ y. from-here (eqb-true k 9 e) y) h)
    (λ e z. let f = eqb-false k 9 e in record { none = n; item = λ i. absurd (f i); on = λ i y. refl; secs = λ t. refl })
  where
    on : (y : Here top p l s) → open_list (marker_in m.kind) m.start s ≡ s
    on y = open-on top p l (marker_in m.kind) m.start s y

    from-none : kind_num m.kind ≡ 9 → Here top p l (open_list (marker_in m.kind) m.start s) × ((open_list (marker_in m.kind) m.start s).sec ≡ s.sec)
        → Done top p l m.kind s (open_list (marker_in m.kind) m.start s)
    from-none i y = record { none = λ f. absurd (f i); item = λ j. y.0; on = λ j q. ap (λ (r : State). r.opn) (on q); secs = λ t. y.1 }

    from-here : kind_num m.kind ≡ 9 → Here top p l s → Done top p l m.kind s (open_list (marker_in m.kind) m.start s)
    from-here i y = rw (on y) (record { none = λ f. absurd (f i); item = λ j. y; on = λ j q. refl; secs = λ t. refl })

-- its term, and its own Enter
pub open_step : (text : List ℕ) (m : Met) (line : ℕ) (s : State) → (open_container text m line s).number ≡ 0 → ((listed m s).number ≡ 0) × Entered (listed m s) (open_container text m line s)
unfolding open_container
open_step text m line s =
    let y = listed m s in
    let b = eqb (marker_num (marker_in m.kind)) 4 in
    let t = pick b (open_term m y) y in
    let x = container_node text m line in
    let P : State → Type 0 = λ r. (y.number ≡ 0) × Entered y r in
    passed y (λ a. go (pick b (open_term m a) a) (enter_of x)) P (λ zy.
    passed t (enter_of x) P (λ zt z.
    (zy, after y t (enter_of x t) (chosen b (open_term m y) y (λ r. Same y r) (λ e. same-term m y) (λ e u. (refl, refl, refl)) zt) (enter_step x t z))))
  where
    after : (y t r : State) → Same y t → Entered t r → Entered y r
    after y t r e h = record { place = h.place; opn = h.opn ∙ ap (λ (q : List ℕ). q ++ (h.place ∷ [])) e.0; lst = h.lst ∙ e.1; sec = h.sec ∙ e.2 }

-- ---- the level inside
-- the innermost list around what a container holds: those around its own level, or the one that it is an item of
pub inside-around : (top : Bool) (p l : List ℕ) (y : State) (x : ℕ) → Around l (length p) → Level top p l y → Around y.lst (length (y.opn ++ (x ∷ [])))
inside-around top p l y x a h = ⊎_elim from-none from-here h
  where
    longer : length (y.opn ++ (x ∷ [])) ≡ length y.opn + 1
    longer = length-append y.opn (x ∷ [])

    from-none : None top p l y → Around y.lst (length (y.opn ++ (x ∷ [])))
    from-none n = around-on y.lst y.lst (length y.opn) (length (y.opn ++ (x ∷ []))) refl (omega (arith, longer)) (none-around top p l y a n)

    from-here : Here top p l y → Around y.lst (length (y.opn ++ (x ∷ [])))
    from-here n = λ u. omega (arith, longer, here-depth top p l y n)

pub entered-none : (y b : State) (x : Entered y b) → None false (y.opn ++ (x.place ∷ [])) y.lst b
entered-none y b x = record { secs = []; opn = x.opn ∙ sym (append-nil (y.opn ++ (x.place ∷ []))); count = refl; lst = x.lst }

-- ---- containers: Exits
-- the place of one open event is another
record Moved (d : ℕ) (s r : State) : Type 0 where
  word : ℕ
  opn : r.opn ≡ set s.opn d word
  lst : r.lst ≡ s.lst
  sec : r.sec ≡ s.sec

move_step : (d i x : ℕ) (s : State) → Moved d s (move_term d i x s)
unfolding move_term place_detail clear_term edit_of patch_of shift_of
move_step d i x s = record { word = other_of 4 1 (x + width) (clear_term i x s) - width; opn = refl; lst = refl; sec = refl }

-- a level whose last event is at some place
record Inner (q l : List ℕ) (s r : State) : Type 0 where
  place : ℕ
  level : Level false (q ++ (place ∷ [])) l r
  sec : r.sec ≡ s.sec

set_last : (o q t : List ℕ) (x w d : ℕ) → length q ≡ d → o ≡ q ++ (x ∷ []) ++ t → set o d w ≡ q ++ (w ∷ []) ++ t
set_last o q t x w d n e = ap (λ (k : List ℕ). set k d w) (e ∙ append_snoc q x t) ∙ set_at q x t w d n ∙ sym (append_snoc q w t)

move-inner : (q l : List ℕ) (x d : ℕ) (s r : State) → length q ≡ d → Level false (q ++ (x ∷ [])) l s → Moved d s r → Inner q l s r
move-inner q l x d s r n h v = record { place = v.word; level = ⊎_elim (λ y. inl (from-none y)) (λ y. inr (from-here y)) h; sec = v.sec }
  where
    from-none : None false (q ++ (x ∷ [])) l s → None false (q ++ (v.word ∷ [])) l r
    from-none y = record { secs = y.secs; opn = v.opn ∙ set_last s.opn q y.secs x v.word d n y.opn; count = y.count; lst = v.lst ∙ y.lst }

    from-here : Here false (q ++ (x ∷ [])) l s → Here false (q ++ (v.word ∷ [])) l r
    from-here y = record {
      secs = y.secs;
      enter = y.enter;
      list = y.list;
      opn = v.opn ∙ set_last s.opn q (y.secs ++ (y.enter ∷ [])) x v.word d n y.opn;
      count = y.count;
      lst = v.lst ∙ y.lst;
      depth = y.depth ∙ sym (ap (λ (k : List ℕ). length k) v.opn ∙ length-set s.opn d v.word);
    }

term-step : (q l : List ℕ) (x d i : ℕ) (s : State) → length q ≡ d → Level false (q ++ (x ∷ [])) l s → (term_of d i s).number ≡ 0 → Inner q l s (term_of d i s)
unfolding term_of
term-step q l x d i s n h =
    let y = find_of 2 15 (i + width + width) s in
    let P : State → Type 0 = λ r. Inner q l s r in
    let a = move_term d i y s in
    let b = pick (not (whole_at s.evs y)) (refuse_of 7 s) a in
    let c = pick (not (is_at s.evs (i + width) 1 15)) s b in
    let e = pick (not (whole_at s.evs (i + width))) (refuse_of 7 s) c in
    chosen (ltb i width) (refuse_of 7 s) (pick (not (whole_at s.evs i)) (refuse_of 7 s) e) P (λ u z. absurd (omega arith)) (λ u.
    chosen (not (whole_at s.evs i)) (refuse_of 7 s) e P (λ u z. absurd (omega arith)) (λ u.
    chosen (not (whole_at s.evs (i + width))) (refuse_of 7 s) c P (λ u z. absurd (omega arith)) (λ u.
    chosen (not (is_at s.evs (i + width) 1 15)) s b P (λ u z. record { place = x; level = h; sec = refl }) (λ u.
    chosen (not (whole_at s.evs y)) (refuse_of 7 s) a P (λ u z. absurd (omega arith)) (λ u z.
    move-inner q l x d s a n h (move_step d i y s))))))

settle-term-step : (q l : List ℕ) (x d : ℕ) (s : State) → length q ≡ d → Level false (q ++ (x ∷ [])) l s → (settle_term d s).number ≡ 0 → Inner q l s (settle_term d s)
unfolding settle_term
settle-term-step q l x d s n h =
    chosen (leb (length s.opn) d) (refuse_of 7 s) (term_of d (get_or s.opn d 0) s) (λ r. Inner q l s r) (λ u z. absurd (omega arith)) (λ u.
    term-step q l x d (get_or s.opn d 0) s n h)

close-inner-step : (p l : List ℕ) (pos : ℕ) (s : State) → Around l (length p) → Level false p l s → (close_inner pos s).number ≡ 0 → Ended false p l s (close_inner pos s)
unfolding close_inner
close-inner-step p l pos s a =
    ⊎_elim (λ h. rw (not-here s (none-around false p l s a h)).0 (λ z. (h, refl)))
    (λ h. rw (is-here false p l s h).0 (close-step false p l pos (with_flags false false s) (here-same false p l s (with_flags false false s) (refl, refl, refl) h)))

-- only the container's own event is open, behind those of y
none-entered : (y b : State) (x : ℕ) → None false (y.opn ++ (x ∷ [])) y.lst b → b.sec ≡ y.sec → Entered y b
none-entered y b x h e = record { place = x; opn = h.opn ∙ ap (λ (k : List ℕ). y.opn ++ (x ∷ []) ++ k) (nil h.secs h.count) ∙ append-nil (y.opn ++ (x ∷ [])); lst = h.lst; sec = e }
  where
    nil : (k : List ℕ) → length k ≡ 0 → k ≡ []
    nil [] c = refl
    nil (w ∷ k) c = absurd (omega arith)

pub close-container-step : (m : Met) (d x : ℕ) (y s : State) → length y.opn ≡ d → Around y.lst (length (y.opn ++ (x ∷ []))) → Level false (y.opn ++ (x ∷ [])) y.lst s → s.sec ≡ y.sec
    → (close_container m d s).number ≡ 0 → Same y (close_container m d s)
unfolding close_container
close-container-step m d x y s n a h e =
    let b = eqb (marker_num (marker_in m.kind)) 4 in
    let u = pick b (settle_term d s) s in
    let v = close_inner m.from u in
    let P : State → Type 0 = λ r. Same y r in
    passed u (λ u. go (close_inner m.from u) (exit_of m.from m.to)) P (λ zu.
    let i = chosen b (settle_term d s) s (λ r. Inner y.opn y.lst s r) (λ t. settle-term-step y.opn y.lst x d s n h) (λ t z. record { place = x; level = h; sec = refl }) zu in
    passed v (exit_of m.from m.to) P (λ zv.
    let c = close-inner-step (y.opn ++ (i.place ∷ [])) y.lst m.from u (as_long x i.place a) i.level zv in
    exit-step m.from m.to y v (none-entered y v i.place c.0 (c.1 ∙ i.sec ∙ e))))
  where
    as_long : (x w : ℕ) → Around y.lst (length (y.opn ++ (x ∷ []))) → Around y.lst (length (y.opn ++ (w ∷ [])))
    as_long x w a = around-on y.lst y.lst _ _ refl (omega (arith, length-append y.opn (x ∷ []), length-append y.opn (w ∷ []))) a
