-- Words, bytes and records as the functions write and read them. Assumes nothing.
use Prim.Native.Nat.{ℕ, zero, suc, ◌+◌, ◌*◌, ◌/◌, ◌%◌, ◌^◌, ◌≤◌, ◌<◌}
use mathlib.Core.Path.{◌≡◌, refl, sym, ap, ◌∙◌}
use mathlib.Core.Bool.{Bool, true, false, false≢true}
use mathlib.Core.List.{List, [], ◌∷◌, ◌++◌}
use native.Mathlib.Nat.{pow-suc, pow-le-pow_right}
use native.Mathlib.Omega.{arith}
use lib.Bits.{bit_or, or_shifted}
use lib.Dec.{eqb, leb}
use lib.ListN.{length, get_or, get_or-map, take, drop, length-append}
use lib.Seq.{drop-drop}
use borrow.Author.Tests.{leb-true, eqb-true}
use Rattle.std.proofs.Common.{map, reverse, append_assoc}
use Rattle.std.specs.List.{fold, flat_map}
use Rattle.std.proofs.lemmas.List.{append-nil}
use Rattle.std.proofs.lemmas.Grind.{fold-append, reverse_onto}
use Rattle.classes.specs.Choice.{pick}
use Rattle.classes.proofs.ChoiceLaws.{true-left, true-right}
use Rattle.events.specs.declared.Event.{Event}
use Rattle.fields.specs.Fields.{offset, within, is_listed, width_of, row_of, pairs_of, size_of}
use Rattle.fields.specs.Numbers.{field_num, pair_num}
use Rattle.fields.specs.declared.Field.{Field}
use Rattle.fields.specs.declared.Field.TheVariants.{Nothing}
use Rattle.record.specs.Record.{kind_byte, role_of, node_of, bytes_of, value_of, with_byte, value_at, body_width, record_of, body_bytes, event_of, kind_size}

-- ---- the kind byte
pub kind-joined : (role node : ℕ) → role < 8 → node < 32 → bit_or (role * 32 % 4294967296) node ≡ kind_byte role node
kind-joined role node h k =
    let high : role * 32 % 4294967296 ≡ role * 32 = omega arith in
    rw high (or_shifted role 5 node k)

-- ---- a number in bytes
pub bytes-length : (w x : ℕ) → length (bytes_of w x) ≡ w
unfolding bytes_of
bytes-length zero x = refl
bytes-length (suc w) x = ap suc (bytes-length w (x / 256))

-- the first w of all four bytes
pub bytes-four : (w x : ℕ) → w ≤ 4 → take w (x % 256 ∷ x / 256 % 256 ∷ x / 65536 % 256 ∷ x / 16777216 % 256 ∷ []) ≡ bytes_of w x
unfolding bytes_of
bytes-four zero x h = refl
bytes-four (suc zero) x h = refl
bytes-four (suc (suc zero)) x h = refl
bytes-four (suc (suc (suc zero))) x h = let e : x / 65536 ≡ x / 256 / 256 = omega arith in rw e
bytes-four (suc (suc (suc (suc zero)))) x h =
    let e : x / 65536 ≡ x / 256 / 256 = omega arith in
    let f : x / 16777216 ≡ x / 256 / 256 / 256 = omega arith in
    rw (e, f)
bytes-four (suc (suc (suc (suc (suc w))))) x h = absurd (omega arith)

grown : (x n b : ℕ) → x < 256 ^ n → n ≤ 3 → b < 256 → (x < 16777216) × (x * 256 + b < 256 ^ suc n)
grown x n b h k l =
    let m : 256 ^ n ≤ 16777216 = pow-le-pow_right {n = 256} (omega arith) {i = n} {j = 3} k in
    (omega arith, rw (pow-suc 256 n) (omega arith))

pub number-value : (bs : List ℕ) → ((i : ℕ) → get_or bs i 0 < 256) → length bs ≤ 4 → (fold with_byte 0 (reverse bs) ≡ value_of bs) × (value_of bs < 256 ^ length bs)
unfolding value_of
number-value [] h k = (refl, omega arith)
number-value (b ∷ bs) h k =
    let p = number-value bs (λ i. h (suc i)) (omega arith) in
    let l : b < 256 = h 0 in
    let t = grown (value_of bs) (length bs) b p.1 (omega arith) l in
    let z = t.0 in
    let high : value_of bs * 256 % 4294967296 ≡ value_of bs * 256 = omega arith in
    let e : with_byte (value_of bs) b ≡ value_of bs * 256 + b = rw high (or_shifted (value_of bs) 8 b l) in (
      ap (fold with_byte 0) (reverse_onto bs b []) ∙ fold-append with_byte 0 (reverse bs) (b ∷ []) ∙ ap (λ (x : ℕ). with_byte x b) p.0 ∙ e ∙ omega arith,
      omega (arith, t.1),
    )

-- ---- a record written
-- what a listed role and node are
pub within-true : (lo hi x : ℕ) → within lo hi x ≡ true → (lo ≤ x) × (x ≤ hi)
unfolding within
within-true lo hi x e = (leb-true lo x (true-left (leb lo x) (leb x hi) e), leb-true x hi (true-right (leb lo x) (leb x hi) e))

abbrev Kind : ℕ → ℕ → Type 0
Kind role node = (role < 8) × (node < 32) × (role ≡ 0 → ⊥)

kind-within : (role node k lo hi : ℕ) → k < 7 → hi < 32 → eqb role (k + 1) ≡ true → within lo hi node ≡ true → Kind role node
kind-within role node k lo hi a b p e =
    let r = eqb-true role (k + 1) p in
    let n = within-true lo hi node e in
    (omega arith, omega arith, λ z. omega arith)

kind-zero : (role node k : ℕ) → k < 7 → eqb role (k + 1) ≡ true → eqb node 0 ≡ true → Kind role node
kind-zero role node k a p e =
    let r = eqb-true role (k + 1) p in
    let n = eqb-true node 0 e in
    (omega arith, omega arith, λ z. omega arith)

on-pick : (X : Type 0) (b t u : Bool) → (b ≡ true → t ≡ true → X) → (u ≡ true → X) → pick b t u ≡ true → X
on-pick X true t u f g e = f refl e
on-pick X false t u f g e = g e

pub listed-kind : (role node : ℕ) → is_listed role node ≡ true → (role < 8) × (node < 32) × (role ≡ 0 → ⊥)
unfolding is_listed
listed-kind role node =
    on-pick (Kind role node) (eqb role 1) _ _ (kind-within role node 0 1 21 (omega arith) (omega arith))
    (on-pick (Kind role node) (eqb role 2) _ _ (kind-within role node 1 1 21 (omega arith) (omega arith))
    (on-pick (Kind role node) (eqb role 3) _ _ (kind-zero role node 2 (omega arith))
    (on-pick (Kind role node) (eqb role 4) _ _ (kind-within role node 3 1 3 (omega arith) (omega arith))
    (λ z. absurd (false≢true z)))))

pub size-parts : (o role node : ℕ)
    → size_of o role node ≡ 1 + o + o + body_width o role node 0 + body_width o role node 1 + body_width o role node 2 + body_width o role node 3
unfolding size_of
size-parts o role node = refl

-- the bytes of a field and its word
abbrev pub piece : Field × ℕ → List ℕ
piece p = bytes_of (width_of offset (field_num p.0)) p.1

pub pieces-bytes : (ws : List (Field × ℕ)) → flat_map piece ws ≡ body_bytes (map pair_num ws)
pieces-bytes [] = refl
pieces-bytes (w ∷ ws) = ap (λ (l : List ℕ). piece w ++ l) (pieces-bytes ws)

pub body-length : (x : Event) → 7 + length (body_bytes (pairs_of x)) ≡ size_of offset x.role x.node
unfolding size_of
body-length x = simp (length-append, bytes-length) (omega arith)

-- a record is its kind, its span and its body
pub record-parts : (x : Event) → (((kind_byte x.role x.node ∷ []) ++ bytes_of offset x.start) ++ bytes_of offset x.end) ++ body_bytes (pairs_of x) ≡ record_of offset x
unfolding record_of bytes_of width_of
record-parts x = simp (append_assoc, append-nil) refl

-- ---- a record read
-- the bytes r behind place n: the number that they start with, and the bytes behind it
module _ (bs : List ℕ) {r : List ℕ} (n w : ℕ) (e : r ≡ drop n bs) where
  pub part-number : {x : ℕ} → x ≡ value_of (take w r) → x ≡ value_at bs n w
  part-number p = p ∙ ap (λ (l : List ℕ). value_of (take w l)) e

  pub part-rest : {s : List ℕ} → s ≡ drop w r → s ≡ drop (n + w) bs
  part-rest p = p ∙ ap (drop w) e ∙ drop-drop w n bs

-- the width of body word i, by the row of fields
pub row-width : (role node : ℕ) (fs : List Field) → map field_num fs ≡ row_of role node → (i : ℕ) → width_of offset (field_num (get_or fs i Nothing)) ≡ width_of offset (get_or (row_of role node) i 0)
row-width role node fs e i = ap (width_of offset) (sym (get_or-map field_num fs i Nothing) ∙ ap (λ (l : List ℕ). get_or l i 0) e)

-- a record that is whole has its kind and its span, and the four words by their row
pub front-size : (bs : List ℕ) → kind_size offset (get_or bs 0 0) ≤ length bs → 7 ≤ length bs
front-size bs h = omega (arith, size-parts offset (role_of (get_or bs 0 0)) (node_of (get_or bs 0 0)))

pub record-front : (bs : List ℕ) → kind_size offset (get_or bs 0 0) ≤ length bs → {role node : ℕ} → role ≡ role_of (get_or bs 0 0) → node ≡ node_of (get_or bs 0 0)
    → (fs : List Field) → map field_num fs ≡ row_of role node
    → 7 + width_of offset (field_num (get_or fs 0 Nothing)) + width_of offset (field_num (get_or fs 1 Nothing)) + width_of offset (field_num (get_or fs 2 Nothing)) + width_of offset (field_num (get_or fs 3 Nothing)) ≤ length bs
record-front bs h {role} {node} p q fs e =
    let k : kind_size offset (get_or bs 0 0) ≡ size_of offset role node = rw (p, q) in
    let row = row-width role node fs e in
    omega (arith, size-parts offset role node, row 0, row 1, row 2, row 3)

-- the record at the front of bytes, its parts one behind another
module _ (bs : List ℕ) {role node v w x y : ℕ} (p : role ≡ role_of (get_or bs 0 0)) (q : node ≡ node_of (get_or bs 0 0))
    (ev : v ≡ body_width offset role node 0) (ew : w ≡ body_width offset role node 1) (ex : x ≡ body_width offset role node 2) (ey : y ≡ body_width offset role node 3) where
  pub record-read : (start end a b c d : ℕ) → start ≡ value_at bs 1 3 → end ≡ value_at bs 4 3
      → a ≡ value_at bs 7 v → b ≡ value_at bs (7 + v) w → c ≡ value_at bs (7 + v + w) x → d ≡ value_at bs (7 + v + w + x) y
      → ◌≡◌ {A = Event} (record { role = role; node = node; start = start; end = end; a = a; b = b; c = c; d = d }) (event_of offset bs)
  unfolding event_of
  record-read start end a b c d es ee ea eb ec ed =
      let u : ℕ → ℕ = body_width offset (role_of (get_or bs 0 0)) (node_of (get_or bs 0 0)) in
      let fv : v ≡ u 0 = rw (← p, ← q) ev in
      let fw : w ≡ u 1 = rw (← p, ← q) ew in
      let fx : x ≡ u 2 = rw (← p, ← q) ex in
      let fy : y ≡ u 3 = rw (← p, ← q) ey in
      let ga = rw fv at ea in
      let gb = rw (fv, fw) at eb in
      let gc = rw (fv, fw, fx) at ec in
      let gd = rw (fv, fw, fx, fy) at ed in
      λ i. record {
        role = p i;
        node = q i;
        start = es i;
        end = ee i;
        a = ga i;
        b = gb i;
        c = gc i;
        d = gd i;
      }
