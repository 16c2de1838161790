-- Events that a record can hold: an Enter and its Exit, and the words of all. Assumes nothing.
use mathlib.Core.Path.{◌≡◌, refl, subst, ◌∙◌}
use mathlib.Core.Logic.{⊎_elim}
use mathlib.Core.Bool.{Bool, true, false, not}
use mathlib.Core.List.{List, [], ◌∷◌}
use Prim.Native.Nat.{ℕ, ◌≤◌, ◌<◌}
use native.Mathlib.Omega.{arith}
use lib.Dec.{T, eqb, leb, ltb}
use lib.ListN.{length, get_or, get_or-eq_default}
use borrow.Author.Tests.{eqb-true, leb-true, le-leb, ltb-true, ltb-false}
use Rattle.classes.specs.Choice.{both, either}
use Rattle.classes.proofs.ChoiceLaws.{true-left, true-right}
use Rattle.classes.proofs.TableLaws.{every, at}
use Rattle.events.specs.Pack.{is_stale, pack_of}
use Rattle.events.specs.declared.Event.{Event}
use Rattle.events.proofs.PackLaws.{Below}
use Rattle.events.proofs.StaleLaws.{enter-live, stale-words}
use Rattle.fields.specs.Fields.{fields, within, is_listed, field_of, is_bullet, is_type, in_range, is_ranged}
use Rattle.record.proofs.RecordLaws.{within-true, listed-kind}
use Rattle.theorems.proofs.Proper.{of-pick}
use Rattle.theorems.proofs.Nests.{Word, Fine, Fines}
use Rattle.theorems.proofs.WholeLaws.{closing}

-- ---- tests
pub both_true : (a b : Bool) → a ≡ true → b ≡ true → both a b ≡ true
both_true a b p q = rw p q

-- ---- a body's words
-- what is asked of the words of an event, but for its span, where the largest offset is `most`
abbrev pub bodied : ℕ → ℕ → ℕ → ℕ → ℕ → ℕ → ℕ → Bool
bodied most role node a b c d =
    let f = field_of role node in
    both (in_range most (f 0) a) (both (in_range most (f 1) b) (both (in_range most (f 2) c) (both (in_range most (f 3) d)
    (either (not (eqb (f 0) 1)) (either (not (eqb (f 1) 1)) (leb a b))))))

pub ranged-body : (most : ℕ) (x : Event) → is_ranged most x ≡ true → bodied most x.role x.node x.a x.b x.c x.d ≡ true
unfolding is_ranged
ranged-body most x e = true-right (in_range most 1 x.end) _ (true-right (leb x.start x.end) _ e)

pub body-ranged : (most : ℕ) (x : Event) → x.start ≤ x.end → x.end ≤ most → bodied most x.role x.node x.a x.b x.c x.d ≡ true → is_ranged most x ≡ true
unfolding is_ranged in_range
body-ranged most x h k e = both_true (leb x.start x.end) _ (le-leb x.start x.end h) (both_true (leb x.end most) _ (le-leb x.end most k) e)

pub made-fine : (text : List ℕ) (x : Event) → is_listed x.role x.node ≡ true → bodied (length text) x.role x.node x.a x.b x.c x.d ≡ true
    → Word text x.c → Word text x.d → x.start ≤ x.end → x.end ≤ length text → Fine text x
made-fine text x l e c d h k = λ u. (l, body-ranged (length text) x h k e, c, d)

-- ---- an Exit
exit-listed : (role node : ℕ) → role ≡ 1 → is_listed role node ≡ true → is_listed 2 node ≡ true
unfolding is_listed
exit-listed role node r e = subst (λ (x : ℕ). is_listed x node ≡ true) r e

exit-bodied : (most role node a b c d : ℕ) → role ≡ 1 → bodied most role node a b c d ≡ true → bodied most 2 node a b c d ≡ true
unfolding field_of within
exit-bodied most role node a b c d r e = subst (λ (x : ℕ). bodied most x node a b c d ≡ true) r e

-- as fine as its Enter, where its span is in the text
pub closing-fine : (text : List ℕ) (e : Event) (i j : ℕ) → e.role ≡ 1 → Fine text e → i ≤ j → j ≤ length text → Fine text (closing e i j)
closing-fine text e i j r f h k =
    let x = f (enter-live e r) in
    let b = exit-bodied (length text) e.role e.node e.a e.b e.c e.d r (ranged-body (length text) e x.1) in
    made-fine text (closing e i j) (exit-listed e.role e.node r x.0) b x.2 x.3 h k

-- ---- spans
pub ranged-span : (most : ℕ) (x : Event) → is_ranged most x ≡ true → (x.start ≤ x.end) × (x.end ≤ most)
unfolding is_ranged in_range
ranged-span most x e =
    let s = leb x.start x.end in
    let t = leb x.end most in
    (leb-true x.start x.end (true-left s _ e), leb-true x.end most (true-left t _ (true-right s _ e)))

-- a Stale event's too
pub fine-span : (text : List ℕ) (x : Event) → Fine text x → (x.start ≤ length text) × (x.end ≤ length text) × (x.start ≤ x.end)
fine-span text x f = by-case (is_stale x) refl
  where
    by-case : (b : Bool) → is_stale x ≡ b → (x.start ≤ length text) × (x.end ≤ length text) × (x.start ≤ x.end)
    by-case true e = let p = stale-words x e in (omega (arith, p.2), omega (arith, p.3), omega (arith, p.2))
    by-case false e = let s = ranged-span (length text) x (f e).1 in (omega (arith, s.0, s.1), s.1, s.0)

-- ---- words
pub bullet-small : (b : ℕ) → is_bullet b ≡ true → b < 256
bullet-small b = by-case (eqb b 42) (eqb b 43) (eqb b 45) refl refl refl
  where
    by-case : (x y z : Bool) → eqb b 42 ≡ x → eqb b 43 ≡ y → eqb b 45 ≡ z → either x (either y z) ≡ true → b < 256
    by-case true y z p q r e = omega (arith, eqb-true b 42 p)
    by-case false true z p q r e = omega (arith, eqb-true b 43 q)
    by-case false false z p q r e = omega (arith, eqb-true b 45 (r ∙ e))

-- only half a value is any word
field-small : (most f x : ℕ) → most < 4294967296 → (f ≡ 5 → ⊥) → in_range most f x ≡ true → x < 4294967296
unfolding in_range
field-small most f x l n =
    of-pick Small (eqb f 0) (eqb x 0) _ (λ p e. omega (arith, eqb-true x 0 e))
    (λ p. of-pick Small (eqb f 1) (leb x most) _ (λ p e. omega (arith, l, leb-true x most e))
    (λ p. of-pick Small (eqb f 2) (leb x 1) _ (λ p e. omega (arith, leb-true x 1 e))
    (λ p. of-pick Small (eqb f 3) (is_bullet x) _ (λ p e. omega (arith, bullet-small x e))
    (λ p. of-pick Small (eqb f 4) (is_type x) _ (λ p e. omega (arith, within-true 4 22 x (true-left (within 4 22 x) _ e)))
    (λ p. of-pick Small (eqb f 5) true _ (λ p e. absurd (n (eqb-true f 5 p)))
    (λ p. of-pick Small (eqb f 6) (within 1 65535 x) (leb x 3) (λ p e. omega (arith, within-true 1 65535 x e)) (λ p e. omega (arith, leb-true x 3 e))))))))
  where
    Small : Bool → Type 0
    Small t = t ≡ true → x < 4294967296

-- no node has one at word i: one computed test of the table
abbrev free : ℕ → Bool
free i = every (λ k xs. not (eqb (get_or xs i 0) 5)) [] 0 fields

row-free : (node i : ℕ) → T (free i) → get_or (get_or fields node []) i 0 ≡ 5 → ⊥
row-free node i t = by_place (ltb node (length fields)) refl
  where
    by_place : (b : Bool) → ltb node (length fields) ≡ b → get_or (get_or fields node []) i 0 ≡ 5 → ⊥
    by_place true e = λ p. subst (λ (v : ℕ). T (not (eqb v 5))) p (at (λ k xs. not (eqb (get_or xs i 0) 5)) [] fields t node (ltb-true node (length fields) e))
    by_place false e = rw (get_or-eq_default fields [] (ltb-false node (length fields) e)) (λ p. omega arith)

field-free : (role node i : ℕ) → T (free i) → field_of role node i ≡ 5 → ⊥
unfolding field_of
field-free role node i t = of-pick (λ (f : ℕ). f ≡ 5 → ⊥) (within 1 2 role) _ 0 (λ p. row-free node i t) (λ p e. omega arith)

body-small : (most role node a b c d : ℕ) → most < 4294967296 → bodied most role node a b c d ≡ true → (a < 4294967296) × (b < 4294967296)
unfolding fields
body-small most role node a b c d l e =
    let f : ℕ → ℕ = field_of role node in
    let p = true-right (in_range most (f 0) a) _ e in (
      field-small most (f 0) a l (field-free role node 0 tt) (true-left (in_range most (f 0) a) _ e),
      field-small most (f 1) b l (field-free role node 1 tt) (true-left (in_range most (f 1) b) _ p),
    )

-- an event's words are words
abbrev Words : Event → Type 0
Words x =
    (x.role < 4294967296) × (x.node < 4294967296) × (x.start < 4294967296) × (x.end < 4294967296)
    × (x.a < 4294967296) × (x.b < 4294967296) × (x.c < 4294967296) × (x.d < 4294967296)

word_small : (text : List ℕ) (v : ℕ) → length text < 4294967296 → Word text v → v < 4294967296
word_small text v n = ⊎_elim (λ h. omega (arith, n, h)) (λ h. h)

fine-words : (text : List ℕ) (x : Event) → length text < 4294967296 → Fine text x → Words x
fine-words text x n f = by-case (is_stale x) refl
  where
    by-case : (b : Bool) → is_stale x ≡ b → Words x
    by-case true e =
        let p = stale-words x e in
        (omega (arith, p.0), omega (arith, p.1), omega (arith, p.2), omega (arith, p.3), omega (arith, p.4), omega (arith, p.5), omega (arith, p.6), omega (arith, p.7))
    by-case false e =
        let p = f e in
        let k = listed-kind x.role x.node p.0 in
        let s = fine-span text x f in
        let b = body-small (length text) x.role x.node x.a x.b x.c x.d n (ranged-body (length text) x p.1) in
        (omega (arith, k.0), omega (arith, k.1), omega (arith, n, s.0), omega (arith, n, s.1), b.0, b.1, word_small text x.c n p.2, word_small text x.d n p.3)

pub fines-below : (text : List ℕ) (xs : List Event) → length text < 4294967296 → Fines text xs → Below 4294967296 (pack_of xs)
unfolding pack_of
fines-below text [] n f = tt
fines-below text (x ∷ xs) n f =
    let w = fine-words text x n f.0 in
    (w.0, (w.1, (w.2, (w.3, (w.4, (w.5, (w.6, (w.7, fines-below text xs n f.1))))))))
