-- What events show of the top-level blocks: one after another, whole ones inside a node, an Enter, an Exit, an Atom. Assumes nothing.
use mathlib.Core.Path.{◌≡◌, refl, sym, ap, ap₂, subst, ◌∙◌}
use mathlib.Core.Bool.{Bool, true, false, true≢false}
use mathlib.Core.List.{List, [], ◌∷◌, ◌++◌, append_assoc, append-nil}
use Prim.Native.Nat.{ℕ, suc, ◌≤◌}
use native.Mathlib.Omega.{arith}
use lib.Dec.{eqb, leb}
use lib.ListN.{length, length-append}
use borrow.Author.Tests.{eq-eqb, ne_eqb, eqb-true, eqb-false, lt-leb}
use Rattle.classes.specs.Choice.{pick, both}
use Rattle.classes.proofs.ChoiceLaws.{true-left}
use Rattle.events.specs.Pack.{is_stale}
use Rattle.events.specs.declared.Event.{Event}
use Rattle.events.proofs.StaleLaws.{enter-live, exit_live}
use Rattle.events.specs.Names.{most}
use Rattle.nests.specs.Nesting.{Nesting, nesting, same_body, closes, is_nested, after_of}
use Rattle.tops.specs.Tops.{is_around, open_of, begins_of, line_start, starts_from}
use Rattle.theorems.proofs.Nests.{on_of, after_all, Nests, Whole, Frame, flat}
use Rattle.theorems.proofs.WholeLaws.{live_on, leaf-on}
use Rattle.theorems.proofs.Trees.{Alike}
use Rattle.theorems.proofs.Tops.{open_all, Shows, Arounds}

-- ---- which nodes are around blocks
pub not-around : (k : ℕ) → (k ≡ 1 → ⊥) → (k ≡ 14 → ⊥) → is_around k ≡ false
unfolding is_around
not-around k i j = rw (ne_eqb k 1 i, ne_eqb k 14 j)

-- ---- one after another
pub open-append : (n : ℕ) (xs ys : List Event) → open_all n (xs ++ ys) ≡ open_all (open_all n xs) ys
unfolding open_all
open-append n [] ys = refl
open-append n (x ∷ xs) ys = open-append (open_of n x) xs ys

pick-append : (b : Bool) (p : ℕ) (r ys : List ℕ) → pick b (p ∷ (r ++ ys)) (r ++ ys) ≡ pick b (p ∷ r) r ++ ys
pick-append true p r ys = refl
pick-append false p r ys = refl

pub starts-append : (text : List ℕ) (n : ℕ) (xs ys : List Event) → starts_from text n (xs ++ ys) ≡ starts_from text n xs ++ starts_from text (open_all n xs) ys
unfolding open_all starts_from
starts-append text n [] ys = refl
starts-append text n (x ∷ xs) ys =
    let m = open_of n x in
    let p = line_start text x.start in
    ap (λ (l : List ℕ). pick (begins_of n x) (p ∷ l) l) (starts-append text m xs ys) ∙ pick-append (begins_of n x) p (starts_from text m xs) (starts_from text (open_all m xs) ys)

-- ys begin blocks at ts, and leave m open where xs left n
shows-append : (text ss ts : List ℕ) (n m : ℕ) (xs ys : List Event) → starts_from text n ys ≡ ts → open_all n ys ≡ m → Shows text ss n xs → Shows text (ss ++ ts) m (xs ++ ys)
shows-append text ss ts n m xs ys p q s = record {
  starts = starts-append text 0 xs ys ∙ ap₂ (λ (l : List ℕ) (k : ℕ). l ++ starts_from text k ys) s.starts s.opn ∙ ap (λ (l : List ℕ). ss ++ l) p;
  opn = open-append 0 xs ys ∙ ap (λ (k : ℕ). open_all k ys) s.opn ∙ q;
}

-- none of ys begins a block
shows-quiet : (text ss : List ℕ) (n m : ℕ) (xs ys : List Event) → starts_from text n ys ≡ [] → open_all n ys ≡ m → Shows text ss n xs → Shows text ss m (xs ++ ys)
shows-quiet text ss n m xs ys p q s = subst (λ (l : List ℕ). Shows text l m (xs ++ ys)) (append-nil ss) (shows-append text ss [] n m xs ys p q s)

-- ---- one event
module _ (text : List ℕ) (x : Event) where
  one-begins : (n : ℕ) → begins_of n x ≡ true → starts_from text n (x ∷ []) ≡ line_start text x.start ∷ []
  unfolding starts_from
  one-begins n e = rw e

  one-quiet : (n : ℕ) → begins_of n x ≡ false → starts_from text n (x ∷ []) ≡ []
  unfolding starts_from
  one-quiet n e = rw e

  one-open : (n m : ℕ) → open_of n x ≡ m → open_all n (x ∷ []) ≡ m
  unfolding open_all
  one-open n m e = e

  inside-quiet : (n : ℕ) → begins_of (suc n) x ≡ false
  unfolding begins_of
  inside-quiet n = rw (ne_eqb (suc n) 0 (λ e. omega (arith, e)))

  atom-begins : x.role ≡ 4 → begins_of 0 x ≡ true
  unfolding begins_of
  atom-begins r = rw (eq-eqb x.role 4 r)

  atom-open : (n : ℕ) → (x.role ≡ 1 → ⊥) → (x.role ≡ 2 → ⊥) → open_of n x ≡ n
  unfolding open_of
  atom-open n i j = rw (ne_eqb x.role 1 i, ne_eqb x.role 2 j) (same (is_around x.node))
    where
      same : (b : Bool) → pick b n n ≡ n
      same true = refl
      same false = refl

  enter-begins : x.role ≡ 1 → is_around x.node ≡ false → begins_of 0 x ≡ true
  unfolding begins_of
  enter-begins r k = rw (eq-eqb x.role 1 r, ne_eqb x.role 4 (λ z. omega (arith, r, z)), k)

  enter-open : (n : ℕ) → x.role ≡ 1 → is_around x.node ≡ false → open_of n x ≡ suc n
  unfolding open_of
  enter-open n r k = rw (k, eq-eqb x.role 1 r) (omega arith)

  exit-open : (n : ℕ) → x.role ≡ 2 → is_around x.node ≡ false → open_of (suc n) x ≡ n
  unfolding open_of
  exit-open n r k = rw (k, ne_eqb x.role 1 (λ z. omega (arith, r, z)), eq-eqb x.role 2 r) (omega arith)

  exit-none : x.role ≡ 2 → is_around x.node ≡ false → open_of 0 x ≡ 0
  unfolding open_of
  exit-none r k = rw (k, ne_eqb x.role 1 (λ z. omega (arith, r, z)), eq-eqb x.role 2 r)

  around-open : (n : ℕ) → is_around x.node ≡ true → open_of n x ≡ n
  unfolding open_of
  around-open n k = rw k

  around-quiet : (n : ℕ) → (x.role ≡ 4 → ⊥) → is_around x.node ≡ true → begins_of n x ≡ false
  unfolding begins_of
  around-quiet n i k = rw (ne_eqb x.role 4 i, k) (none (eqb n 0) (eqb x.role 1))
    where
      none : (a b : Bool) → both a (both b false) ≡ false
      none true true = refl
      none true false = refl
      none false b = refl

pub shows-enter : (text ss : List ℕ) (xs : List Event) (e : Event) → e.role ≡ 1 → is_around e.node ≡ false → Shows text ss 0 xs
    → Shows text (ss ++ (line_start text e.start ∷ [])) 1 (xs ++ (e ∷ []))
shows-enter text ss xs e r k =
    shows-append text ss (line_start text e.start ∷ []) 0 1 xs (e ∷ []) (one-begins text e 0 (enter-begins text e r k)) (one-open text e 0 1 (enter-open text e 0 r k))

pub shows-atom : (text ss : List ℕ) (xs : List Event) (e : Event) → e.role ≡ 4 → Shows text ss 0 xs → Shows text (ss ++ (line_start text e.start ∷ [])) 0 (xs ++ (e ∷ []))
shows-atom text ss xs e r =
    shows-append text ss (line_start text e.start ∷ []) 0 0 xs (e ∷ []) (one-begins text e 0 (atom-begins text e r))
    (one-open text e 0 0 (atom-open text e 0 (λ z. omega (arith, r, z)) (λ z. omega (arith, r, z))))

pub shows-exit : (text ss : List ℕ) (n : ℕ) (xs : List Event) (x : Event) → x.role ≡ 2 → is_around x.node ≡ false → Shows text ss (suc n) xs → Shows text ss n (xs ++ (x ∷ []))
shows-exit text ss n xs x r k =
    shows-quiet text ss (suc n) n xs (x ∷ []) (one-quiet text x (suc n) (inside-quiet text x n)) (one-open text x (suc n) n (exit-open text x n r k))

-- Document's or a Section's
pub shows-around : (text ss : List ℕ) (n : ℕ) (xs : List Event) (x : Event) → (x.role ≡ 4 → ⊥) → is_around x.node ≡ true → Shows text ss n xs → Shows text ss n (xs ++ (x ∷ []))
shows-around text ss n xs x i k = shows-quiet text ss n n xs (x ∷ []) (one-quiet text x n (around-quiet text x n i k)) (one-open text x n n (around-open text x n k))

-- ---- whole events inside a node
-- n and the nodes that are open further in, but for Document and Sections
unfoldable further : ℕ → List Event → ℕ
further n [] = n
further n (z ∷ zs) = pick (is_around z.node) (further n zs) (suc (further n zs))

-- an Enter that no Exit of another node closes
abbrev standing : ℕ → Event
standing k = record { role = 1; node = k; start = 0; end = 0; a = 0; b = 0; c = 0; d = 0 }

abbrev within : ℕ → List Event → Nesting
within k zs = nesting (zs ++ (standing k ∷ [])) false

module _ (x : Event) (live : is_stale x ≡ false) where
  -- an Enter
  enter-within : (k : ℕ) (zs : List Event) → x.role ≡ 1 → on_of (within k zs) x ≡ within k (x ∷ zs)
  unfolding after_of
  enter-within k zs r = live_on (within k zs) x live ∙ rw (eq-eqb x.role 1 r)

  exit-closes : (k : ℕ) (zs : List Event) → x.role ≡ 2 → is_nested (within k zs) x ≡ true → closes (zs ++ (standing k ∷ [])) x ≡ true
  unfolding is_nested
  exit-closes k zs r e = (rw (ne_eqb x.role 1 (λ z. omega (arith, r, z)), eq-eqb x.role 2 r)) ∙ e

  exit-within : (k : ℕ) (z : Event) (zs : List Event) → x.role ≡ 2 → on_of (within k (z ∷ zs)) x ≡ within k zs
  unfolding after_of
  exit-within k z zs r =
      let n : leb (suc (length (zs ++ (standing k ∷ [])))) 1 ≡ false = lt-leb (suc (length (zs ++ (standing k ∷ [])))) 1 (omega (arith, length-append zs (standing k ∷ []))) in
      live_on (within k (z ∷ zs)) x live ∙ rw (ne_eqb x.role 1 (λ z. omega (arith, r, z)), eq-eqb x.role 2 r, n)

-- the node of what is closed
closes-node : (z : Event) (zs : List Event) (x : Event) → closes (z ∷ zs) x ≡ true → z.node ≡ x.node
unfolding closes same_body
closes-node z zs x e = eqb-true z.node x.node (true-left (eqb z.node x.node) _ e)

-- an event inside: what is open further in after it
record Inner (n : ℕ) (zs : List Event) (x : Event) : Type 0 where
  now : List Event
  two : on_of (within 2 zs) x ≡ within 2 now
  three : on_of (within 3 zs) x ≡ within 3 now
  count : open_of (suc (further n zs)) x ≡ suc (further n now)

module _ (text : List ℕ) (n : ℕ) (x : Event) where
  enter-count : (zs : List Event) (b : Bool) → x.role ≡ 1 → is_around x.node ≡ b → open_of (suc (further n zs)) x ≡ suc (further n (x ∷ zs))
  unfolding further
  enter-count zs true r e = around-open text x (suc (further n zs)) e ∙ rw e
  enter-count zs false r e = enter-open text x (suc (further n zs)) r e ∙ rw e

  exit-count : (z : Event) (zs : List Event) (b : Bool) → x.role ≡ 2 → z.node ≡ x.node → is_around z.node ≡ b → open_of (suc (further n (z ∷ zs))) x ≡ suc (further n zs)
  unfolding further
  exit-count z zs true r c e = rw e (around-open text x (suc (further n zs)) (ap is_around (sym c) ∙ e))
  exit-count z zs false r c e = rw e (exit-open text x (suc (further n zs)) r (ap is_around (sym c) ∙ e))

  exit-inner : (zs : List Event) → is_stale x ≡ false → x.role ≡ 2 → is_nested (within 2 zs) x ≡ true → is_nested (within 3 zs) x ≡ true → Inner n zs x
  exit-inner [] s r p q =
      let a = closes-node (standing 2) [] x (exit-closes x s 2 [] r p) in
      let b = closes-node (standing 3) [] x (exit-closes x s 3 [] r q) in
      absurd (omega (arith, a, b))
  exit-inner (z ∷ zs) s r p q = record {
    now = zs;
    two = exit-within x s 2 z zs r;
    three = exit-within x s 3 z zs r;
    count = exit-count z zs (is_around z.node) r (closes-node z (zs ++ (standing 2 ∷ [])) x (exit-closes x s 2 (z ∷ zs) r p)) refl;
  }

  -- neither
  other-on : (k : ℕ) (zs : List Event) → (x.role ≡ 1 → ⊥) → (x.role ≡ 2 → ⊥) → on_of (within k zs) x ≡ within k zs
  unfolding on_of
  other-on k zs i j = leaf-on x i j (within k zs) (is_stale x)

  other-inner : (zs : List Event) → (x.role ≡ 1 → ⊥) → (x.role ≡ 2 → ⊥) → Inner n zs x
  other-inner zs i j = record { now = zs; two = other-on 2 zs i j; three = other-on 3 zs i j; count = atom-open text x (suc (further n zs)) i j }

  inner : (zs : List Event) (a b : Bool) → eqb x.role 1 ≡ a → eqb x.role 2 ≡ b → (is_stale x ≡ false → is_nested (within 2 zs) x ≡ true)
      → (is_stale x ≡ false → is_nested (within 3 zs) x ≡ true) → Inner n zs x
  inner zs true b i j p q =
      let r = eqb-true x.role 1 i in
      let s = enter-live x r in
      record { now = x ∷ zs; two = enter-within x s 2 zs r; three = enter-within x s 3 zs r; count = enter-count zs (is_around x.node) r refl }
  inner zs false true i j p q = let r = eqb-true x.role 2 j in let s = exit_live x r in exit-inner zs s r (p s) (q s)
  inner zs false false i j p q = other-inner zs (eqb-false x.role 1 i) (eqb-false x.role 2 j)

-- all of them close what they opened
none_left : (n : ℕ) (zs : List Event) → within 2 zs ≡ within 2 [] → further n zs ≡ n
unfolding further
none_left n [] e = refl
none_left n (z ∷ zs) e = absurd (omega (arith, ap (λ (m : Nesting). length m.opn) e, length-append zs (standing 2 ∷ [])))

inside-all : (text : List ℕ) (n : ℕ) (zs xs : List Event) → Nests most (within 2 zs) xs → Nests most (within 3 zs) xs → after_all (within 2 zs) xs ≡ within 2 []
    → (starts_from text (suc (further n zs)) xs ≡ []) × (open_all (suc (further n zs)) xs ≡ suc n)
unfolding after_all starts_from open_all
inside-all text n zs [] p q e = (refl, ap (λ (k : ℕ). suc k) (none_left n zs e))
inside-all text n zs (x ∷ xs) p q e =
    let s = inner text n x zs (eqb x.role 1) (eqb x.role 2) refl refl (λ l. (p.0 l).0) (λ l. (q.0 l).0) in
    let i = subst (λ (m : Nesting). Nests most m xs) s.two p.1 in
    let j = subst (λ (m : Nesting). Nests most m xs) s.three q.1 in
    let r = inside-all text n s.now xs i j (ap (λ (m : Nesting). after_all m xs) (sym s.two) ∙ e) in
    rw (inside-quiet text x (further n zs), s.count) r

pub whole-inside : (text : List ℕ) (h : ℕ) (xs : List Event) → h ≤ 100 → Whole h xs → (n : ℕ) → (starts_from text (suc n) xs ≡ []) × (open_all (suc n) xs ≡ suc n)
unfolding further
whole-inside text h xs l w n =
    let p = w most (within 2 []) refl (omega arith) (omega arith) (omega arith) in
    let q = w most (within 3 []) refl (omega arith) (omega arith) (omega arith) in
    inside-all text n [] xs p.0 q.0 p.1

pub shows-whole : (text ss : List ℕ) (n h : ℕ) (xs ys : List Event) → h ≤ 100 → Whole h ys → Shows text ss (suc n) xs → Shows text ss (suc n) (xs ++ ys)
shows-whole text ss n h xs ys l w = let p = whole-inside text h ys l w n in shows-quiet text ss (suc n) (suc n) xs ys p.0 p.1

-- an Enter, what is in it, and its Exit
pub shows-block : (text ss : List ℕ) (h : ℕ) (xs ys : List Event) (e x : Event) → h ≤ 100 → e.role ≡ 1 → is_around e.node ≡ false → x.role ≡ 2 → x.node ≡ e.node → Whole h ys
    → Shows text ss 0 xs → Shows text (ss ++ (line_start text e.start ∷ [])) 0 (xs ++ (e ∷ (ys ++ (x ∷ []))))
shows-block text ss h xs ys e x l r k q c w s =
    let ts = ss ++ (line_start text e.start ∷ []) in
    let a : ((xs ++ (e ∷ [])) ++ ys) ++ (x ∷ []) ≡ xs ++ (e ∷ (ys ++ (x ∷ []))) = simp append_assoc in
    subst (λ (v : List Event). Shows text ts 0 v) a
    (shows-exit text ts 0 ((xs ++ (e ∷ [])) ++ ys) x q (ap is_around c ∙ k) (shows-whole text ts 0 h (xs ++ (e ∷ [])) ys l w (shows-enter text ss xs e r k s)))

-- ---- what is open begins somewhere
first-open : (text : List ℕ) (x : Event) (a b c : Bool) → is_around x.node ≡ a → eqb x.role 1 ≡ b → eqb x.role 2 ≡ c → begins_of 0 x ≡ false → open_of 0 x ≡ 0
first-open text x true b c i j k e = around-open text x 0 i
first-open text x false true c i j k e = absurd (true≢false (sym (enter-begins text x (eqb-true x.role 1 j) i) ∙ e))
first-open text x false false true i j k e = exit-none text x (eqb-true x.role 2 k) i
first-open text x false false false i j k e = atom-open text x 0 (eqb-false x.role 1 j) (eqb-false x.role 2 k)

first-quiet : (b : Bool) (p : ℕ) (l : List ℕ) → pick b (p ∷ l) l ≡ [] → (b ≡ false) × (l ≡ [])
first-quiet true p l e = absurd (omega (arith, ap (λ (k : List ℕ). length k) e))
first-quiet false p l e = (refl, e)

starts_none : (text : List ℕ) (xs : List Event) → starts_from text 0 xs ≡ [] → open_all 0 xs ≡ 0
unfolding starts_from open_all
starts_none text [] e = refl
starts_none text (x ∷ xs) e =
    let p = first-quiet (begins_of 0 x) (line_start text x.start) (starts_from text (open_of 0 x) xs) e in
    let z = first-open text x (is_around x.node) (eqb x.role 1) (eqb x.role 2) refl refl refl p.0 in
    ap (λ (k : ℕ). open_all k xs) z ∙ starts_none text xs (ap (λ (k : ℕ). starts_from text k xs) (sym z) ∙ p.1)

pub shows-some : (text ss : List ℕ) (n : ℕ) (xs : List Event) → Shows text ss (suc n) xs → ss ≡ [] → ⊥
shows-some text ss n xs s e = omega (arith, starts_none text xs (s.starts ∙ e), s.opn)

-- ---- frames that differ in bodies only
begins-same : (n : ℕ) (x y : Event) → y.node ≡ x.node → y.role ≡ x.role → begins_of n y ≡ begins_of n x
unfolding begins_of
begins-same n x y i j = rw (i, j)

open-same : (n : ℕ) (x y : Event) → y.node ≡ x.node → y.role ≡ x.role → open_of n y ≡ open_of n x
unfolding open_of
open-same n x y i j = rw (i, j)

one_same : (text : List ℕ) (n : ℕ) (x y : Event) → y.node ≡ x.node → y.role ≡ x.role → y.start ≡ x.start
    → (starts_from text n (y ∷ []) ≡ starts_from text n (x ∷ [])) × (open_all n (y ∷ []) ≡ open_all n (x ∷ []))
unfolding starts_from open_all
one_same text n x y i j k = (
  ap₂ (λ (b : Bool) (p : ℕ). pick b (line_start text p ∷ []) []) (begins-same n x y i j) k,
  open-same n x y i j,
)

-- the same blocks begin, and as many nodes are open
abbrev Same : List ℕ → List Event → List Event → Type 0
Same text xs ys = (starts_from text 0 ys ≡ starts_from text 0 xs) × (open_all 0 ys ≡ open_all 0 xs)

same_more : (text : List ℕ) (xs ys zs : List Event) → Same text xs ys → Same text (xs ++ zs) (ys ++ zs)
same_more text xs ys zs p = (
  starts-append text 0 ys zs ∙ ap₂ (λ (l : List ℕ) (k : ℕ). l ++ starts_from text k zs) p.0 p.1 ∙ sym (starts-append text 0 xs zs),
  open-append 0 ys zs ∙ ap (λ (k : ℕ). open_all k zs) p.1 ∙ sym (open-append 0 xs zs),
)

same-one : (text : List ℕ) (xs : List Event) (x y : Event) → y.node ≡ x.node → y.role ≡ x.role → y.start ≡ x.start → Same text (xs ++ (x ∷ [])) (xs ++ (y ∷ []))
same-one text xs x y i j k =
    let p = one_same text (open_all 0 xs) x y i j k in (
      starts-append text 0 xs (y ∷ []) ∙ ap (λ (l : List ℕ). starts_from text 0 xs ++ l) p.0 ∙ sym (starts-append text 0 xs (x ∷ [])),
      open-append 0 xs (y ∷ []) ∙ p.1 ∙ sym (open-append 0 xs (x ∷ [])),
    )

alike_same : (text : List ℕ) (fs es : List Frame) → Alike fs es → Same text (flat fs) (flat es)
unfolding flat
alike_same text [] [] a = (refl, refl)
alike_same text [] (e ∷ es) a = absurd a
alike_same text (f ∷ fs) [] a = absurd a
alike_same text (f ∷ fs) (e ∷ es) a =
    let p = same_more text (flat fs) (flat es) f.before (alike_same text fs es a.2) in
    let q = same_more text (flat fs ++ f.before) (flat es ++ f.before) (e.enter ∷ []) p in
    let r = same-one text (flat fs ++ f.before) f.enter e.enter a.1 a.3 a.4 in
    let i = append_assoc (flat fs) f.before (f.enter ∷ []) in
    let j = append_assoc (flat es) f.before (e.enter ∷ []) in
    let b = ap (λ (l : List Event). flat es ++ (l ++ (e.enter ∷ []))) a.0 in
    let w = b ∙ sym j in (
      ap (λ (l : List Event). starts_from text 0 l) w ∙ q.0 ∙ r.0 ∙ ap (λ (l : List Event). starts_from text 0 l) i,
      ap (λ (l : List Event). open_all 0 l) w ∙ q.1 ∙ r.1 ∙ ap (λ (l : List Event). open_all 0 l) i,
    )

pub shows_alike : (text ss : List ℕ) (n : ℕ) (fs es : List Frame) (g : List Event) → Alike fs es → Shows text ss n (flat fs ++ g) → Shows text ss n (flat es ++ g)
shows_alike text ss n fs es g a s = let p = same_more text (flat fs) (flat es) g (alike_same text fs es a) in record { starts = p.0 ∙ s.starts; opn = p.1 ∙ s.opn }

pub arounds-alike : (fs es : List Frame) → Alike fs es → Arounds fs → Arounds es
arounds-alike [] [] a p = tt
arounds-alike [] (e ∷ es) a p = absurd a
arounds-alike (f ∷ fs) [] a p = absurd a
arounds-alike (f ∷ fs) (e ∷ es) a p = (ap is_around a.1 ∙ p.0, arounds-alike fs es a.2 p.1)

-- ---- Document's and Sections' events between others
-- they begin no block, and leave open what was
abbrev pub Quiet : List ℕ → List Event → Type 0
Quiet text ws = (n : ℕ) → (starts_from text n ws ≡ []) × (open_all n ws ≡ n)

pub quiet_none : (text : List ℕ) → Quiet text []
unfolding starts_from open_all
quiet_none text n = (refl, refl)

pub quiet-more : (text : List ℕ) (x : Event) (ws : List Event) → (x.role ≡ 4 → ⊥) → is_around x.node ≡ true → Quiet text ws → Quiet text (x ∷ ws)
unfolding starts_from open_all
quiet-more text x ws i k q n = rw (around-quiet text x n i k, around-open text x n k) (q n)

pub shows-between : (text ss : List ℕ) (n : ℕ) (xs ws ys : List Event) → Quiet text ws → Shows text ss n (xs ++ ys) → Shows text ss n (xs ++ (ws ++ ys))
shows-between text ss n xs ws ys q s =
    let k = open_all 0 xs in
    let a = starts-append text 0 xs ys in
    let b = open-append 0 xs ys in
    let c : starts_from text k (ws ++ ys) ≡ starts_from text k ys =
    starts-append text k ws ys ∙ ap₂ (λ (l : List ℕ) (m : ℕ). l ++ starts_from text m ys) (q k).0 (q k).1 in
    let d : open_all k (ws ++ ys) ≡ open_all k ys = open-append k ws ys ∙ ap (λ (m : ℕ). open_all m ys) (q k).1 in
    record {
      starts = starts-append text 0 xs (ws ++ ys) ∙ ap (λ (l : List ℕ). starts_from text 0 xs ++ l) c ∙ sym a ∙ s.starts;
      opn = open-append 0 xs (ws ++ ys) ∙ d ∙ sym b ∙ s.opn;
    }
