-- Events that nest: one after another, an Enter and its Exit around them, and a Document that is fair. Assumes nothing.
use mathlib.Core.Path.{◌≡◌, refl, sym, ap, subst, ◌∙◌}
use mathlib.Core.Bool.{Bool, true, false, true≢false}
use mathlib.Core.List.{List, [], ◌∷◌, ◌++◌}
use Prim.Native.Nat.{ℕ, suc, ◌+◌, ◌≤◌, ◌<◌}
use native.Mathlib.Omega.{arith}
use lib.Dec.{leb}
use lib.ListN.{length}
use borrow.Author.Tests.{eq-eqb, ne_eqb, lt-ltb, lt-leb}
use Rattle.classes.specs.Choice.{pick}
use Rattle.events.specs.Pack.{is_stale, live_of}
use Rattle.events.specs.declared.Event.{Event}
use Rattle.events.proofs.StaleLaws.{enter-live, exit_live}
use Rattle.events.specs.Names.{largest, most}
use Rattle.fields.proofs.FieldLaws.{ranged-wider}
use Rattle.record.proofs.RecordLaws.{listed-kind}
use Rattle.nests.specs.Nesting.{Nesting, nesting, outside, same_body, closes, is_nested, after_of}
use Rattle.nests.proofs.NestLaws.{fault-not}
use Rattle.records.proofs.TripLaws.{Fair}
use Rattle.theorems.proofs.Nests.{on_of, after_all, Nests, Whole, Roles, Fines}

-- ---- one after another
nests-append : (top : ℕ) (n : Nesting) (xs ys : List Event) → Nests top n xs → Nests top (after_all n xs) ys → Nests top n (xs ++ ys)
unfolding after_all
nests-append top n [] ys p q = q
nests-append top n (x ∷ xs) ys p q = (p.0, nests-append top (on_of n x) xs ys p.1 q)

after-append : (n : Nesting) (xs ys : List Event) → after_all n (xs ++ ys) ≡ after_all (after_all n xs) ys
unfolding after_all
after-append n [] ys = refl
after-append n (x ∷ xs) ys = after-append (on_of n x) xs ys

-- these leave open what was, so the next begin where they did
back-append : (top : ℕ) (n m : Nesting) (xs ys : List Event) → Nests top n xs × (after_all n xs ≡ m) → Nests top m ys → Nests top n (xs ++ ys)
back-append top n m xs ys p q = nests-append top n xs ys p.0 (subst (λ (k : Nesting). Nests top k ys) (sym p.1) q)

after-back : (n m : Nesting) (xs ys : List Event) → after_all n xs ≡ m → after_all n (xs ++ ys) ≡ after_all m ys
after-back n m xs ys e = after-append n xs ys ∙ ap (λ (k : Nesting). after_all k ys) e

pub whole-none : (h : ℕ) → Whole h []
unfolding after_all
whole-none h top n d o l t = (tt, refl)

pub whole_append : (h : ℕ) (xs ys : List Event) → Whole h xs → Whole h ys → Whole h (xs ++ ys)
whole_append h xs ys p q top n d o l t =
    let a = p top n d o l t in
    let b = q top n d o l t in
    (back-append top n n xs ys a b.0, after-back n n xs ys a.1 ∙ b.1)

pub whole-more : (h k : ℕ) (xs : List Event) → h ≤ k → Whole h xs → Whole k xs
whole-more h k xs g p top n d o l t = p top n d o (omega arith) t

-- a part of what nests
nests-front : (top : ℕ) (n : Nesting) (xs ys : List Event) → Nests top n (xs ++ ys) → Nests top n xs
nests-front top n [] ys p = tt
nests-front top n (x ∷ xs) ys p = (p.0, nests-front top (on_of n x) xs ys p.1)

nests-behind : (top : ℕ) (n : Nesting) (xs ys : List Event) → Nests top n (xs ++ ys) → Nests top (after_all n xs) ys
unfolding after_all
nests-behind top n [] ys p = p
nests-behind top n (x ∷ xs) ys p = nests-behind top (on_of n x) xs ys p.1

-- behind what leaves open what was
pub whole-behind : (h : ℕ) (xs ys : List Event) → Whole h xs → Whole h (xs ++ ys) → Whole h ys
whole-behind h xs ys p w top n d o l t =
    let e = (p top n d o l t).1 in
    let q = w top n d o l t in (
      subst (λ (m : Nesting). Nests top m ys) e (nests-behind top n xs ys q.0),
      ap (λ (m : Nesting). after_all m ys) (sym e) ∙ sym (after-append n xs ys) ∙ q.1,
    )

-- ---- one event
pub stale-on : (n : Nesting) (x : Event) → is_stale x ≡ true → on_of n x ≡ n
unfolding on_of
stale-on n x e = rw e

pub live_on : (n : Nesting) (x : Event) → is_stale x ≡ false → on_of n x ≡ after_of n x
unfolding on_of
live_on n x e = rw e

pub whole-stale : (x : Event) → is_stale x ≡ true → Whole 0 (x ∷ [])
unfolding after_all
whole-stale x e top n d o l t = ((λ f. absurd (true≢false (sym e ∙ f)), tt), stale-on n x e)

module _ (x : Event) (i : x.role ≡ 1 → ⊥) (j : x.role ≡ 2 → ⊥) (n : Nesting) where
  leaf-nested : n.done ≡ false → 0 < length n.opn → is_nested n x ≡ true
  unfolding is_nested
  leaf-nested d o = rw (d, ne_eqb x.role 1 i, ne_eqb x.role 2 j, ne_eqb (length n.opn) 0 (λ z. omega arith))

  leaf-after : after_of n x ≡ n
  unfolding after_of
  leaf-after = rw (ne_eqb x.role 1 i, ne_eqb x.role 2 j)

  pub leaf-on : (b : Bool) → pick b n (after_of n x) ≡ n
  leaf-on true = refl
  leaf-on false = leaf-after

-- an Inline, an Atom; a Stale one too
pub whole-leaf : (x : Event) → (x.role ≡ 1 → ⊥) → (x.role ≡ 2 → ⊥) → Whole 0 (x ∷ [])
unfolding after_all on_of
whole-leaf x i j top n d o l t =
    let e = ap (λ (m : Nesting). length m.opn) (leaf-after x i j n) in
    ((λ f. (leaf-nested x i j n d o, omega (arith, e)), tt), leaf-on x i j n (is_stale x))

-- ---- events of one role: Inlines, Atoms
pub roles-append : (k : ℕ) (xs ys : List Event) → Roles k xs → Roles k ys → Roles k (xs ++ ys)
roles-append k [] ys p q = q
roles-append k (x ∷ xs) ys p q = (p.0, roles-append k xs ys p.1 q)

pub whole-roles : (k : ℕ) (xs : List Event) → 2 < k → Roles k xs → Whole 0 xs
whole-roles k [] h r = whole-none 0
whole-roles k (x ∷ xs) h r = whole_append 0 (x ∷ []) xs (whole-leaf x (λ z. omega (arith, r.0, z)) (λ z. omega (arith, r.0, z))) (whole-roles k xs h r.1)

roles-after : (k : ℕ) (n : Nesting) (xs : List Event) → 2 < k → Roles k xs → after_all n xs ≡ n
unfolding after_all on_of
roles-after k n [] h r = refl
roles-after k n (x ∷ xs) h r = roles-after k (on_of n x) xs h r.1 ∙ leaf-on x (λ z. omega (arith, r.0, z)) (λ z. omega (arith, r.0, z)) n (is_stale x)

-- before them
pub whole-front : (h k : ℕ) (xs ys : List Event) → 2 < k → Roles k ys → Whole h (xs ++ ys) → Whole h xs
whole-front h k xs ys b r w top n d o l t =
    let p = w top n d o l t in
    (nests-front top n xs ys p.0, sym (roles-after k (after_all n xs) ys b r) ∙ sym (after-append n xs ys) ∙ p.1)

-- ---- an Enter and its Exit
module _ (n : Nesting) (e : Event) (r : e.role ≡ 1) where
  enter-after : after_of n e ≡ nesting (e ∷ n.opn) n.done
  unfolding after_of
  enter-after = rw (eq-eqb e.role 1 r)

  enter-on : on_of n e ≡ nesting (e ∷ n.opn) n.done
  enter-on = live_on n e (enter-live e r) ∙ enter-after

  enter-nested : (e.node ≡ 1 → ⊥) → n.done ≡ false → 0 < length n.opn → length n.opn < most → is_nested n e ≡ true
  unfolding is_nested
  enter-nested k d o l = rw (d, eq-eqb e.role 1 r, lt-ltb (length n.opn) most l, ne_eqb e.node 1 k, ne_eqb (length n.opn) 0 (λ z. omega arith))

  -- the Enter, and what comes behind it
  enter-nests : (top : ℕ) (ys : List Event) → is_nested n e ≡ true → suc (length n.opn) ≤ top → Nests top (nesting (e ∷ n.opn) n.done) ys → Nests top n (e ∷ ys)
  enter-nests top ys g l p =
      let s = ap (λ (m : Nesting). length m.opn) enter-after in
      (λ f. (g, omega (arith, s, l)), subst (λ (m : Nesting). Nests top m ys) (sym enter-on) p)

module _ (os : List Event) (e x : Event) (r : x.role ≡ 2) where
  exit-after : after_of (nesting (e ∷ os) false) x ≡ nesting os (leb (suc (length os)) 1)
  unfolding after_of
  exit-after = rw (ne_eqb x.role 1 (λ z. omega (arith, r, z)), eq-eqb x.role 2 r)

  exit-nested : same_body e x ≡ true → is_nested (nesting (e ∷ os) false) x ≡ true
  unfolding is_nested closes
  exit-nested b = rw (ne_eqb x.role 1 (λ z. omega (arith, r, z)), eq-eqb x.role 2 r, b)

  exit-nests : (top : ℕ) → same_body e x ≡ true → length os ≤ top → Nests top (nesting (e ∷ os) false) (x ∷ [])
  exit-nests top b l =
      let s = ap (λ (m : Nesting). length m.opn) exit-after in
      (λ f. (exit-nested b, omega (arith, s, l)), tt)

  exit-all : after_all (nesting (e ∷ os) false) (x ∷ []) ≡ nesting os (leb (suc (length os)) 1)
  unfolding after_all
  exit-all = live_on (nesting (e ∷ os) false) x (exit_live x r) ∙ exit-after

module _ (h : ℕ) (e x : Event) (xs : List Event) (r : e.role ≡ 1) (q : x.role ≡ 2) (b : same_body e x ≡ true) (w : Whole h xs) where
  -- around them, with os open outside
  pair-nests : (top : ℕ) (os : List Event) → is_nested (nesting os false) e ≡ true → suc (length os) + h ≤ top → top ≤ most → Nests top (nesting os false) (e ∷ (xs ++ (x ∷ [])))
  pair-nests top os g l t =
      let p = w top (nesting (e ∷ os) false) refl (omega arith) l t in
      enter-nests (nesting os false) e r top (xs ++ (x ∷ [])) g (omega arith)
      (back-append top (nesting (e ∷ os) false) (nesting (e ∷ os) false) xs (x ∷ []) p (exit-nests os e x q top b (omega arith)))

  pair-after : (top : ℕ) (os : List Event) → suc (length os) + h ≤ top → top ≤ most → after_all (nesting os false) (e ∷ (xs ++ (x ∷ []))) ≡ nesting os (leb (suc (length os)) 1)
  unfolding after_all
  pair-after top os l t =
      let m = nesting (e ∷ os) false in
      let p = w top m refl (omega arith) l t in
      ap (λ (k : Nesting). after_all k (xs ++ (x ∷ []))) (enter-on (nesting os false) e r)
      ∙ after-back m m xs (x ∷ []) p.1
      ∙ exit-all os e x q

pub whole_pair : (h : ℕ) (e x : Event) (xs : List Event) → e.role ≡ 1 → (e.node ≡ 1 → ⊥) → x.role ≡ 2 → same_body e x ≡ true → Whole h xs
    → Whole (suc h) (e ∷ (xs ++ (x ∷ [])))
whole_pair h e x xs r k q b w top n d o l t =
    let i : n ≡ nesting n.opn false = ap (λ (c : Bool). nesting n.opn c) d in
    let j : leb (suc (length n.opn)) 1 ≡ false = lt-leb (suc (length n.opn)) 1 (omega arith) in
    let g = enter-nested (nesting n.opn false) e r k refl o (omega arith) in
    let xs' = e ∷ (xs ++ (x ∷ [])) in (
      subst (λ (m : Nesting). Nests top m xs') (sym i) (pair-nests h e x xs r q b w top n.opn g (omega arith) t),
      ap (λ (m : Nesting). after_all m xs') i ∙ pair-after h e x xs r q b w top n.opn (omega arith) t ∙ ap (λ (c : Bool). nesting n.opn c) j ∙ sym i,
    )

-- the Exit of an Enter
abbrev pub closing : Event → ℕ → ℕ → Event
closing e i j = record { role = 2; node = e.node; start = i; end = j; a = e.a; b = e.b; c = e.c; d = e.d }

pub closing_same : (e : Event) (i j : ℕ) → same_body e (closing e i j) ≡ true
unfolding same_body
closing_same e i j = rw (eq-eqb e.node e.node refl, eq-eqb e.a e.a refl, eq-eqb e.b e.b refl, eq-eqb e.c e.c refl, eq-eqb e.d e.d refl)

-- ---- one Document
document-nested : (e : Event) → e.role ≡ 1 → e.node ≡ 1 → is_nested outside e ≡ true
unfolding is_nested
document-nested e r k = rw (eq-eqb e.role 1 r, eq-eqb e.node 1 k)

pub document-nests : (h : ℕ) (e x : Event) (xs : List Event) → e.role ≡ 1 → e.node ≡ 1 → x.role ≡ 2 → same_body e x ≡ true → suc h ≤ 100 → Whole h xs
    → Nests 100 outside (e ∷ (xs ++ (x ∷ []))) × ((after_all outside (e ∷ (xs ++ (x ∷ [])))).done ≡ true)
document-nests h e x xs r k q b l w = (
  pair-nests h e x xs r q b w 100 [] (document-nested e r k) (omega arith) (omega arith),
  ap (λ (m : Nesting). m.done) (pair-after h e x xs r q b w 100 [] (omega arith) (omega arith)),
)

-- ---- what nests is fair, where each event has a kind and its words are in range
pub fines-append : (text : List ℕ) (xs ys : List Event) → Fines text xs → Fines text ys → Fines text (xs ++ ys)
fines-append text [] ys p q = q
fines-append text (x ∷ xs) ys p q = (p.0, fines-append text xs ys p.1 q)

pub fines-split : (text : List ℕ) (xs ys : List Event) → Fines text (xs ++ ys) → Fines text xs × Fines text ys
fines-split text [] ys p = (tt, p)
fines-split text (x ∷ xs) ys p = let q = fines-split text xs ys p.1 in ((p.0, q.0), q.1)

-- a text that has no offset too large for a record
pub nests-fair : (text : List ℕ) (top : ℕ) (n : Nesting) (xs : List Event) → length text ≤ largest → Fines text xs → Nests top n xs → (after_all n xs).done ≡ true → Fair n (live_of xs)
unfolding after_all live_of
nests-fair text top n [] l f p d = d
nests-fair text top n (x ∷ xs) l f p d = by-case (is_stale x) refl (nests-fair text top (on_of n x) xs l f.1 p.1 d)
  where
    by-case : (b : Bool) → is_stale x ≡ b → Fair (on_of n x) (live_of xs) → Fair n (pick b (live_of xs) (x ∷ live_of xs))
    by-case true s r = subst (λ (m : Nesting). Fair m (live_of xs)) (stale-on n x s) r
    by-case false s r =
        let k = f.0 s in
        let i = listed-kind x.role x.node k.0 in
        (sym (fault-not n x i.2 k.0 (ranged-wider (length text) largest x l k.1) (p.0 s).0), subst (λ (m : Nesting). Fair m (live_of xs)) (live_on n x s) r)
