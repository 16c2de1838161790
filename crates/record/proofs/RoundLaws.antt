-- Records there and back: an event's record read again, and the bytes of one written again. Assumes nothing.
use Prim.Native.Nat.{ℕ, zero, suc, ◌+◌, ◌*◌, ◌/◌, ◌%◌, ◌^◌, ◌≤◌, ◌<◌}
use mathlib.Core.Path.{◌≡◌, refl, sym, ap, ◌∙◌}
use mathlib.Core.Bool.{Bool, true, false}
use mathlib.Core.List.{List, [], ◌∷◌, ◌++◌, append_assoc}
use native.Mathlib.Nat.{pow-suc}
use native.Mathlib.Omega.{arith}
use lib.Dec.{eqb, leb}
use lib.ListN.{length, get_or, take, drop, length-append, length-drop}
use lib.Seq.{take-add, take_at, drop_at, drop-drop, length-take-le}
use borrow.Author.Tests.{eqb-true, eqb-false, ne_eqb, leb-true}
use Rattle.classes.proofs.ChoiceLaws.{true-left, true-right}
use Rattle.events.specs.declared.Event.{Event}
use Rattle.events.proofs.PackLaws.{Below, below-drop, Body}
use Rattle.fields.specs.Fields.{within, field_of, width_of, is_bullet, in_range, is_ranged, size_of}
use Rattle.record.specs.Record.{kind_byte, role_of, node_of, bytes_of, value_of, value_at, body_width, record_of, event_of, kind_size}
use Rattle.record.proofs.RecordLaws.{bytes-length, within-true}

-- the last test of each: none of those before
width_one : (o f : ℕ) → (f ≡ 0 → ⊥) → (f ≡ 1 → ⊥) → (f ≡ 5 → ⊥) → (f ≡ 6 → ⊥) → 1 ≡ width_of o f
unfolding width_of
width_one o f a b c d = rw (ne_eqb f 0 a, ne_eqb f 1 b, ne_eqb f 5 c, ne_eqb f 6 d)

bullet-last : (x : ℕ) → (x ≡ 42 → ⊥) → (x ≡ 43 → ⊥) → eqb x 45 ≡ is_bullet x
bullet-last x a b = rw (ne_eqb x 42 a, ne_eqb x 43 b)

range_last : (most f x : ℕ) → (f ≡ 0 → ⊥) → (f ≡ 1 → ⊥) → (f ≡ 2 → ⊥) → (f ≡ 3 → ⊥) → (f ≡ 4 → ⊥) → (f ≡ 5 → ⊥) → (f ≡ 6 → ⊥) → leb x 3 ≡ in_range most f x
unfolding in_range
range_last most f x a b c d e g h = rw (ne_eqb f 0 a, ne_eqb f 1 b, ne_eqb f 2 c, ne_eqb f 3 d, ne_eqb f 4 e, ne_eqb f 5 g, ne_eqb f 6 h)

-- every word of an event fits the bytes that its record has for it
abbrev pub Small : ℕ → Event → Type 0
Small o x =
    (x.start < 256 ^ o) × (x.end < 256 ^ o)
    × (x.a < 256 ^ body_width o x.role x.node 0) × (x.b < 256 ^ body_width o x.role x.node 1)
    × (x.c < 256 ^ body_width o x.role x.node 2) × (x.d < 256 ^ body_width o x.role x.node 3)

pub record-length : (o : ℕ) (x : Event) → length (record_of o x) ≡ size_of o x.role x.node
unfolding record_of size_of
record-length o x = simp (length-append, bytes-length) (omega arith)

-- ---- a number there and back
pub value-bytes : (w x : ℕ) → x < 256 ^ w → value_of (bytes_of w x) ≡ x
unfolding bytes_of value_of
value-bytes zero x h = omega arith
value-bytes (suc w) x h =
    let k : x < 256 ^ w * 256 = rw (pow-suc 256 w) at h in
    let e = value-bytes w (x / 256) (omega arith) in
    rw e (omega arith)

pub bytes-value : (bs : List ℕ) → Below 256 bs → bytes_of (length bs) (value_of bs) ≡ bs
unfolding bytes_of value_of
bytes-value [] h = refl
bytes-value (b ∷ bs) h =
    let l = h.0 in
    let low : (b + 256 * value_of bs) % 256 ≡ b = omega arith in
    let high : (b + 256 * value_of bs) / 256 ≡ value_of bs = omega arith in
    rw (low, high) (ap (λ (r : List ℕ). b ∷ r) (bytes-value bs h.1))

-- ---- a record read back is its event
event-path : (x y : Event) → x.role ≡ y.role → x.node ≡ y.node → x.start ≡ y.start → x.end ≡ y.end
    → x.a ≡ y.a → x.b ≡ y.b → x.c ≡ y.c → x.d ≡ y.d → x ≡ y
event-path x y r n s e a b c d = λ i. record { role = r i; node = n i; start = s i; end = e i; a = a i; b = b i; c = c i; d = d i }

-- the part at n, and what stands after it
part-read : (l q : List ℕ) (n w x : ℕ) → x < 256 ^ w → drop n l ≡ bytes_of w x ++ q → (value_at l n w ≡ x) × (drop (n + w) l ≡ q)
part-read l q n w x h e = (
  ap (λ (k : List ℕ). value_of (take w k)) e ∙ ap value_of (take_at (bytes_of w x) q w (bytes-length w x)) ∙ value-bytes w x h,
  sym (drop-drop w n l) ∙ ap (λ (k : List ℕ). drop w k) e ∙ drop_at (bytes_of w x) q w (bytes-length w x),
)

part-after : (a b c d e f g : List ℕ) → a ++ b ++ c ++ d ++ e ++ f ++ g ≡ a ++ (b ++ (c ++ (d ++ (e ++ (f ++ g)))))
part-after a b c d e f g = simp append_assoc

pub record-event : (o : ℕ) (x : Event) (rest : List ℕ) → x.node < 32 → Small o x → event_of o (record_of o x ++ rest) ≡ x
unfolding record_of event_of
record-event o x rest h s =
    let r : role_of (kind_byte x.role x.node) ≡ x.role = omega arith in
    let n : node_of (kind_byte x.role x.node) ≡ x.node = omega arith in
    let w : ℕ → ℕ = body_width o x.role x.node in
    let l = record_of o x ++ rest in
    let e = bytes_of o x.end in
    let a = bytes_of (w 0) x.a in
    let b = bytes_of (w 1) x.b in
    let c = bytes_of (w 2) x.c in
    let d = bytes_of (w 3) x.d in
    let p1 = part-read l (e ++ (a ++ (b ++ (c ++ (d ++ rest))))) 1 o x.start s.0 (part-after (bytes_of o x.start) e a b c d rest) in
    let p2 = part-read l (a ++ (b ++ (c ++ (d ++ rest)))) (1 + o) o x.end s.1 p1.1 in
    let p3 = part-read l (b ++ (c ++ (d ++ rest))) (1 + o + o) (w 0) x.a s.2 p2.1 in
    let p4 = part-read l (c ++ (d ++ rest)) (1 + o + o + w 0) (w 1) x.b s.3 p3.1 in
    let p5 = part-read l (d ++ rest) (1 + o + o + w 0 + w 1) (w 2) x.c s.4 p4.1 in
    let p6 = part-read l rest (1 + o + o + w 0 + w 1 + w 2) (w 3) x.d s.5 p5.1 in
    event-path (event_of o l) x r n p1.0 p2.0 (rw (r, n) p3.0) (rw (r, n) p4.0) (rw (r, n) p5.0) (rw (r, n) p6.0)

-- ---- an event that bytes hold is written again as the same bytes
below-take : (n w : ℕ) (l : List ℕ) → Below n l → Below n (take w l)
below-take n zero l h = tt
below-take n (suc w) [] h = tt
below-take n (suc w) (x ∷ l) h = (h.0, below-take n w l h.1)

kind-again : (bs : List ℕ) → 1 ≤ length bs → kind_byte (role_of (get_or bs 0 0)) (node_of (get_or bs 0 0)) ∷ [] ≡ take 1 bs
kind-again [] h = absurd (omega arith)
kind-again (k ∷ bs) h =
    let e : kind_byte (role_of k) (node_of k) ≡ k = omega arith in
    ap (λ (j : ℕ). j ∷ []) e

part-again : (bs : List ℕ) → Below 256 bs → (n w : ℕ) (p : List ℕ) → n + w ≤ length bs → p ≡ take n bs → p ++ bytes_of w (value_at bs n w) ≡ take (n + w) bs
part-again bs h n w p l e =
    let t : length (take w (drop n bs)) ≡ w = length-take-le w (drop n bs) (rw (length-drop n bs) (omega arith)) in
    let v : bytes_of w (value_at bs n w) ≡ take w (drop n bs) =
    ap (λ (k : ℕ). bytes_of k (value_at bs n w)) (sym t) ∙ bytes-value (take w (drop n bs)) (below-take 256 w (drop n bs) (below-drop 256 n bs h)) in
    rw (e, v) (sym (take-add n w bs))

pub event-record : (o : ℕ) (bs : List ℕ) → Below 256 bs → kind_size o (get_or bs 0 0) ≤ length bs → record_of o (event_of o bs) ≡ take (kind_size o (get_or bs 0 0)) bs
unfolding record_of event_of size_of
event-record o bs h k =
    let w : ℕ → ℕ = body_width o (role_of (get_or bs 0 0)) (node_of (get_or bs 0 0)) in
    part-again bs h (1 + o + o + w 0 + w 1 + w 2) (w 3) _ (omega arith)
    (part-again bs h (1 + o + o + w 0 + w 1) (w 2) _ (omega arith)
    (part-again bs h (1 + o + o + w 0) (w 1) _ (omega arith)
    (part-again bs h (1 + o + o) (w 0) _ (omega arith)
    (part-again bs h (1 + o) o _ (omega arith)
    (part-again bs h 1 o _ (omega arith)
    (kind-again bs (omega arith)))))))

-- ---- an event in its ranges is small
on-equal : (X : Type 0) (a b : ℕ) → (a ≡ b → X) → ((a ≡ b → ⊥) → X) → X
on-equal X a b f g = by-test (eqb a b) refl
  where
    by-test : (t : Bool) → eqb a b ≡ t → X
    by-test true p = f (eqb-true a b p)
    by-test false p = g (eqb-false a b p)

-- a word of each field, where no offset needs more than its bytes
module _ (o most : ℕ) (fits : most < 256 ^ o) (x : ℕ) where
  field-0 : in_range most 0 x ≡ true → x < 256 ^ width_of o 0
  unfolding in_range width_of
  field-0 e = omega (arith, eqb-true x 0 e)

  field-1 : in_range most 1 x ≡ true → x < 256 ^ width_of o 1
  unfolding in_range width_of
  field-1 e = omega (arith, leb-true x most e)

  field-2 : in_range most 2 x ≡ true → x < 256 ^ width_of o 2
  unfolding in_range width_of
  field-2 e = omega (arith, leb-true x 1 e)

  field-3 : in_range most 3 x ≡ true → x < 256 ^ width_of o 3
  unfolding in_range width_of
  field-3 e = on-equal (x < 256) x 42 (λ p. omega arith) (λ n. on-equal (x < 256) x 43 (λ p. omega arith) (λ m. omega (arith, eqb-true x 45 (bullet-last x n m ∙ e))))

  field-4 : in_range most 4 x ≡ true → x < 256 ^ width_of o 4
  unfolding in_range width_of
  field-4 e = let t = within-true 4 22 x (true-left (within 4 22 x) _ e) in omega arith

  field-5 : x < 4294967296 → x < 256 ^ width_of o 5
  unfolding width_of
  field-5 h = h

  field-6 : in_range most 6 x ≡ true → x < 256 ^ width_of o 6
  unfolding in_range width_of
  field-6 e = let t = within-true 1 65535 x e in omega arith

  field-small : (f : ℕ) → in_range most f x ≡ true → x < 4294967296 → x < 256 ^ width_of o f
  field-small f e h =
      let X : Type 0 = x < 256 ^ width_of o f in
      on-equal X f 0 (λ p. rw p (field-0 (rw p at e))) (λ n0.
      on-equal X f 1 (λ p. rw p (field-1 (rw p at e))) (λ n1.
      on-equal X f 2 (λ p. rw p (field-2 (rw p at e))) (λ n2.
      on-equal X f 3 (λ p. rw p (field-3 (rw p at e))) (λ n3.
      on-equal X f 4 (λ p. rw p (field-4 (rw p at e))) (λ n4.
      on-equal X f 5 (λ p. rw p (field-5 h)) (λ n5.
      on-equal X f 6 (λ p. rw p (field-6 (rw p at e))) (λ n6.
      rw (← (width_one o f n0 n1 n5 n6)) (omega (arith, leb-true x 3 (range_last most f x n0 n1 n2 n3 n4 n5 n6 ∙ e))))))))))

pub ranged-small : (o most : ℕ) (x : Event) → most < 256 ^ o → is_ranged most x ≡ true → Body x → Small o x
unfolding is_ranged width_of
ranged-small o most x k e h =
    let f : ℕ → ℕ = field_of x.role x.node in
    let r : ℕ → ℕ → Bool = in_range most in
    let le = leb-true x.start x.end (true-left (leb x.start x.end) _ e) in
    let e1 = true-right (leb x.start x.end) _ e in
    let en : x.end < 256 ^ o = field-1 o most k x.end (true-left (r 1 x.end) _ e1) in
    let e2 = true-right (r 1 x.end) _ e1 in
    let e3 = true-right (r (f 0) x.a) _ e2 in
    let e4 = true-right (r (f 1) x.b) _ e3 in
    let e5 = true-right (r (f 2) x.c) _ e4 in (
      omega arith,
      en,
      field-small o most k x.a (f 0) (true-left (r (f 0) x.a) _ e2) h.0,
      field-small o most k x.b (f 1) (true-left (r (f 1) x.b) _ e3) h.1,
      field-small o most k x.c (f 2) (true-left (r (f 2) x.c) _ e4) h.2,
      field-small o most k x.d (f 3) (true-left (r (f 3) x.d) _ e5) h.3,
    )
