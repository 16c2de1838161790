-- The events given beside the parse's, event by event. Assumes nothing.
use Prim.Native.Nat.{ℕ, suc, ◌+◌, ◌*◌, ◌/◌, ◌≤◌, ◌<◌}
use mathlib.Core.Path.{◌≡◌, refl, sym, ap, ap₂, ◌∙◌}
use mathlib.Core.Bool.{Bool, true, false}
use mathlib.Core.List.{List, [], ◌∷◌, ◌++◌}
use native.Mathlib.Omega.{arith}
use lib.Dec.{eqb}
use lib.ListN.{length}
use borrow.Author.Tests.{eq-eqb, ne_eqb, eqb-true}
use Rattle.classes.specs.Choice.{pick, both}
use Rattle.classes.proofs.ChoiceLaws.{true-left, true-right}
use Rattle.events.specs.Events.{width}
use Rattle.events.specs.Pack.{is_stale, event_in, live_of, live_in}
use Rattle.events.specs.declared.Event.{Event}
use Rattle.events.proofs.PackLaws.{rest-start, rest-next, rest_end}
use Rattle.events.proofs.StaleLaws.{live-stale, live-keep}
use Rattle.tops.specs.Places.{events_behind}
use Rattle.editions.specs.Editions.{fault, stray, same_event, against_of}
use Rattle.editions.specs.declared.Fault.{Fault}

-- ---- equal events, word by word
module _ (x y : ℕ) (before : Bool) where
  pub also-differ : (x ≡ y → ⊥) → false ≡ both (eqb x y) before
  also-differ h = rw (ne_eqb x y h)

  pub also-same : x ≡ y → before ≡ both (eqb x y) before
  also-same h = rw (eq-eqb x y h)

pub event-chain : (x y : Event) (role node start end a b c : Bool) → role ≡ both (eqb x.role y.role) node → node ≡ both (eqb x.node y.node) start → start ≡ both (eqb x.start y.start) end
    → end ≡ both (eqb x.end y.end) a → a ≡ both (eqb x.a y.a) b → b ≡ both (eqb x.b y.b) c → c ≡ both (eqb x.c y.c) (eqb x.d y.d) → role ≡ same_event x y
unfolding same_event
event-chain x y role node start end a b c e1 e2 e3 e4 e5 e6 e7 = rw (e1, e2, e3, e4, e5, e6, e7)

-- ---- the next event that is not Stale
pub record Live (words : List ℕ) (r : ℕ) : Type 0 where
  pub within : r ≤ length words / width
  pub live : r < length words / width → is_stale (event_in words (r * width)) ≡ false

abbrev pub Passed : List ℕ → ℕ → ℕ → Type 0
Passed words from i = live_of (events_behind words from) ≡ live_of (events_behind words i)

module _ (words : List ℕ) (from i : ℕ) (s : Passed words from i) (h : i < length words / width) (x : Event) (p : x ≡ event_in words (i * width)) where
  pub live-found : is_stale x ≡ false → i < length words / width → is_stale (event_in words (i * width)) ≡ false
  live-found e l = ap is_stale (sym p) ∙ e

  pub live_on : is_stale x ≡ true → Passed words from (i + 1)
  live_on e = s ∙ ap live_of (rest-next words i h x p) ∙ live-stale x (events_behind words (i + 1)) e

-- ---- the two lists
pub record Against (given parsed : List ℕ) (goal : Fault) (i j : ℕ) : Type 0 where
  pub few : i ≤ length given / width
  pub next : Live parsed j
  pub same : against_of i (events_behind given i) (live_of (events_behind parsed j)) ≡ goal

pub against-start : (given parsed : List ℕ) (from j : ℕ) → from ≤ length given / width → Live parsed j → Passed parsed 0 j
    → Against given parsed (against_of from (events_behind given from) (live_in parsed)) from j
against-start given parsed from j h l p = record { few = h; next = l; same = ap (against_of from (events_behind given from)) (sym p ∙ ap live_of (rest-start parsed)) }

stale-skip : (i : ℕ) (x : Event) (xs ys : List Event) → is_stale x ≡ true → against_of i (x ∷ xs) ys ≡ against_of (i + 1) xs ys
unfolding against_of
stale-skip i x xs [] e = rw e
stale-skip i x xs (y ∷ ys) e = rw e

module _ (i : ℕ) (x : Event) (xs : List Event) (e : is_stale x ≡ false) where
  pub live-short : against_of i (x ∷ xs) [] ≡ stray i
  unfolding against_of
  live-short = rw e

  module _ (y : Event) (ys : List Event) where
    pub live-differ : same_event x y ≡ false → against_of i (x ∷ xs) (y ∷ ys) ≡ stray i
    unfolding against_of
    live-differ d = rw (e, d)

    pub live_same : same_event x y ≡ true → against_of i (x ∷ xs) (y ∷ ys) ≡ against_of (i + 1) xs ys
    unfolding against_of
    live_same d = rw (e, d)

module _ (given parsed : List ℕ) (goal : Fault) (i j : ℕ) (s : Against given parsed goal i j) where
  abbrev to-come : List Event
  to-come = live_of (events_behind parsed j)

  come-none : length parsed / width ≤ j → to-come ≡ []
  unfolding live_of
  come-none h = ap live_of (rest_end parsed j h)

  come-next : j < length parsed / width → (y : Event) → y ≡ event_in parsed (j * width) → to-come ≡ y ∷ live_of (events_behind parsed (j + 1))
  come-next l y q = ap live_of (rest-next parsed j l y q) ∙ live-keep y (events_behind parsed (j + 1)) (ap is_stale q ∙ s.next.live l)

  module _ (h : i < length given / width) (x : Event) (p : x ≡ event_in given (i * width)) where
    here : against_of i (x ∷ events_behind given (i + 1)) to-come ≡ goal
    here = ap (λ (l : List Event). against_of i l to-come) (sym (rest-next given i h x p)) ∙ s.same

    pub against-stale : is_stale x ≡ true → Against given parsed goal (i + 1) j
    against-stale e = record { few = omega (arith, h); next = s.next; same = sym (stale-skip i x (events_behind given (i + 1)) to-come e) ∙ here }

    module _ (e : is_stale x ≡ false) where
      pub against-short : length parsed / width ≤ j → stray i ≡ goal
      against-short l = sym (ap (against_of i (x ∷ events_behind given (i + 1))) (come-none l) ∙ live-short i x (events_behind given (i + 1)) e) ∙ here

      module _ (l : j < length parsed / width) (y : Event) (q : y ≡ event_in parsed (j * width)) where
        pub against-differ : same_event x y ≡ false → stray i ≡ goal
        against-differ d = sym (ap (against_of i (x ∷ events_behind given (i + 1))) (come-next l y q) ∙ live-differ i x (events_behind given (i + 1)) e y (live_of (events_behind parsed (j + 1))) d) ∙ here

        pub against-next : same_event x y ≡ true → (k : ℕ) → Live parsed k → Passed parsed (j + 1) k → Against given parsed goal (i + 1) k
        against-next d k n m = record {
          few = omega (arith, h);
          next = n;
          same = ap (against_of (i + 1) (events_behind given (i + 1))) (sym m)
              ∙ sym (ap (against_of i (x ∷ events_behind given (i + 1))) (come-next l y q) ∙ live_same i x (events_behind given (i + 1)) e y (live_of (events_behind parsed (j + 1))) d)
              ∙ here;
        }

  module _ (h : length given / width ≤ i) where
    given-none : (l : List Event) → to-come ≡ l → against_of i [] l ≡ goal
    given-none l e = ap₂ (against_of i) (sym (rest_end given i h)) (sym e) ∙ s.same

    pub against-left : j < length parsed / width → stray i ≡ goal
    unfolding against_of
    against-left l = given-none _ (come-next l (event_in parsed (j * width)) refl)

    pub against-done : length parsed / width ≤ j → fault 0 0 ≡ goal
    unfolding against_of
    against-done l = given-none [] (come-none l)

-- ---- what it means that nothing is wrong: the events given are the parse's, Stale aside
equal-both : (v w : ℕ) (t : Bool) → both (eqb v w) t ≡ true → (v ≡ w) × (t ≡ true)
equal-both v w t e = (eqb-true v w (true-left (eqb v w) t e), true-right (eqb v w) t e)

pub event-same : (x y : Event) → same_event x y ≡ true → x ≡ y
unfolding same_event
event-same x y e =
    let p = equal-both x.role y.role _ e in
    let q = equal-both x.node y.node _ p.1 in
    let r = equal-both x.start y.start _ q.1 in
    let s = equal-both x.end y.end _ r.1 in
    let t = equal-both x.a y.a _ s.1 in
    let u = equal-both x.b y.b _ t.1 in
    let v = equal-both x.c y.c _ u.1 in
    let w = eqb-true x.d y.d v.1 in
    let made : ◌≡◌ {A = Event} (record { role = x.role; node = x.node; start = x.start; end = x.end; a = x.a; b = x.b; c = x.c; d = x.d })
    (record { role = y.role; node = y.node; start = y.start; end = y.end; a = y.a; b = y.b; c = y.c; d = y.d }) = rw (p.0, q.0, r.0, s.0, t.0, u.0, v.0, w) in
    made

pub against-is : (i : ℕ) (xs ys : List Event) → (against_of i xs ys).number ≡ 0 → live_of xs ≡ ys
unfolding against_of live_of
against-is i [] [] z = refl
against-is i [] (y ∷ ys) z = absurd (omega (arith, z))
against-is i (x ∷ xs) [] z = by-case (is_stale x) (against-is (i + 1) xs []) z
  where
    by-case : (b : Bool) → ((against_of (i + 1) xs []).number ≡ 0 → live_of xs ≡ []) → (pick b (against_of (i + 1) xs []) (stray i)).number ≡ 0 → pick b (live_of xs) (x ∷ live_of xs) ≡ []
    by-case true f z = f z
    by-case false f z = absurd (omega (arith, z))
against-is i (x ∷ xs) (y ∷ ys) z = by-case (is_stale x) (same_event x y) refl (against-is (i + 1) xs (y ∷ ys)) (against-is (i + 1) xs ys) z
  where
    by-case : (b c : Bool) → same_event x y ≡ c → ((against_of (i + 1) xs (y ∷ ys)).number ≡ 0 → live_of xs ≡ y ∷ ys) → ((against_of (i + 1) xs ys).number ≡ 0 → live_of xs ≡ ys)
        → (pick b (against_of (i + 1) xs (y ∷ ys)) (pick c (against_of (i + 1) xs ys) (stray i))).number ≡ 0 → pick b (live_of xs) (x ∷ live_of xs) ≡ y ∷ ys
    by-case true c e f g z = f z
    by-case false true e f g z = ap₂ (λ (w : Event) (ws : List Event). w ∷ ws) (event-same x y e) (g z)
    by-case false false e f g z = absurd (omega (arith, z))

-- ---- events that are the parse's in front, Stale ones among them
same_self : (x : Event) → same_event x x ≡ true
unfolding same_event
same_self x =
    let same : (n : ℕ) → eqb n n ≡ true = λ n. eq-eqb n n refl in
    rw (same x.role, same x.node, same x.start, same x.end, same x.a, same x.b, same x.c, same x.d)

pub against-same : (i : ℕ) (ys zs : List Event) → against_of i (ys ++ zs) (live_of ys) ≡ against_of (i + length ys) zs []
unfolding live_of
against-same i [] zs =
    let e : i ≡ i + 0 = omega arith in
    ap (λ (k : ℕ). against_of k zs []) e
against-same i (y ∷ ys) zs = by-case (is_stale y) refl ∙ against-same (i + 1) ys zs ∙ ap (λ (k : ℕ). against_of k zs []) moved
  where
    moved : i + 1 + length ys ≡ i + suc (length ys)
    moved = omega arith

    by-case : (b : Bool) → is_stale y ≡ b → against_of i (y ∷ (ys ++ zs)) (pick b (live_of ys) (y ∷ live_of ys)) ≡ against_of (i + 1) (ys ++ zs) (live_of ys)
    by-case true e = stale-skip i y (ys ++ zs) (live_of ys) e
    by-case false e = live_same i y (ys ++ zs) e y (live_of ys) (same_self y)
