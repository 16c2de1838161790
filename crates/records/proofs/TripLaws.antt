-- Events to records and back: what one side accepts is the other side's, too. Assumes nothing.
use Prim.Native.Nat.{ℕ, zero, suc, ◌+◌, ◌-◌, ◌*◌, ◌/◌, ◌%◌, ◌≤◌, ◌<◌}
use mathlib.Core.Path.{◌≡◌, refl, sym, ap, ap₂, ◌∙◌, subst}
use mathlib.Core.Bool.{Bool, true, false, not}
use mathlib.Core.List.{List, [], ◌∷◌, ◌++◌}
use native.Mathlib.Omega.{arith}
use native.Mathlib.Nat.{not-suc-le-zero, le_refl, add-zero, zero-add}
use lib.Dec.{T, eqb, leb, ltb}
use lib.ListN.{length, take, drop, replicate, length-append, length-drop, take-append-drop}
use lib.Seq.{take-append_seam, drop_at}
use borrow.Author.Tests.{ltb-false, leb-false, eqb-true, eqb-false, not-true, not-false, le-ltb, lt-leb, eq-eqb, ne_eqb}
use Rattle.classes.specs.Choice.{pick, both}
use Rattle.events.specs.Events.{width}
use Rattle.events.specs.Pack.{is_stale, all_of, pack_of, live_of}
use Rattle.events.specs.declared.Event.{Event}
use Rattle.events.proofs.PackLaws.{pack-length, spare-pack, all-pack, pack-all, Below, below-drop, Body, Bodies, bodies-events, bodies-live}
use Rattle.events.specs.Names.{largest}
use Rattle.fields.specs.Fields.{offset, is_listed, size_of}
use Rattle.record.specs.Record.{kind_byte, role_of, node_of, kind_size, record_of, event_of}
use Rattle.nests.specs.Nesting.{Nesting, outside, after_of, fault_of}
use Rattle.records.specs.Records.{moved, stream_of, stored_of, check_of, write_of, written_of, take_of, read_of, unpacked_of}
use Rattle.records.specs.Moved.{Moved}
use Rattle.record.proofs.RecordLaws.{listed-kind}
use Rattle.record.proofs.RoundLaws.{record-length, record-event, event-record, ranged-small}
use Rattle.nests.proofs.NestLaws.{fault-none}
use Rattle.records.proofs.ReadLaws.{take-skip, stored-skip, size-some, drop-tail}

-- ---- what both sides accept
-- each event may come next, and Document has closed at the end
abbrev pub Fair : Nesting → List Event → Type 0
Fair n [] = n.done ≡ true
Fair n (x ∷ xs) = (fault_of n x ≡ 0) × Fair (after_of n x) xs

-- a test that refuses was not met
go_on : (t : Bool) (bad next : Moved) → (t ≡ true → bad.number ≡ 0 → ⊥) → (pick t bad next).number ≡ 0 → (t ≡ false) × (next.number ≡ 0)
go_on true bad next h z = absurd (h refl z)
go_on false bad next h z = (refl, z)

past : (t : Bool) (a b : Moved) → t ≡ false → (pick t a b).number ≡ 0 → b.number ≡ 0
past t a b e z = subst (λ (u : Bool). (pick u a b).number ≡ 0) e z

-- what is left at the end is no refusal
at-end : (t : Bool) (p c : ℕ) → (pick t (moved 0 p c) (moved 9 p 0)).number ≡ 0 → t ≡ true
at-end true p c z = refl
at-end false p c z = absurd (omega arith)

both_true : (t u : Bool) → both t u ≡ true → (t ≡ true) × (u ≡ true)
both_true true u e = (refl, e)
both_true false u e = absurd (subst T (sym e) tt)

-- ---- a record among bytes
-- the first record of bytes, and the bytes behind it
abbrev size_by : ℕ → ℕ
size_by b = kind_size offset b

module _ (b : ℕ) (bs : List ℕ) where
  abbrev event : Event
  event = event_of offset (b ∷ bs)

  abbrev rest : List ℕ
  rest = drop (size_by b) (b ∷ bs)

  rest-short : (k : ℕ) → length (b ∷ bs) ≤ suc k → length rest ≤ k
  rest-short k h =
      let pos = size-some offset (role_of b) (node_of b) in
      let d = length-drop (size_by b) (b ∷ bs) in
      omega arith

  stored_next : size_by b ≤ length (b ∷ bs) → stored_of zero (b ∷ bs) ≡ event ∷ stored_of zero rest
  unfolding stored_of
  stored_next w =
      let pos = size-some offset (role_of b) (node_of b) in
      ap (λ (r : List Event). event ∷ r) (stored-skip (size_by b - 1) bs ∙ ap (λ (l : List ℕ). stored_of zero l) (sym (drop-tail (size_by b) b bs pos)))

  module _ (room p : ℕ) (n : Nesting) (e : ℕ) where
    take_head : is_listed (role_of b) (node_of b) ≡ true → size_by b ≤ length (b ∷ bs) → fault_of n event ≡ 0 → e < room
        → take_of room zero (b ∷ bs) p n e ≡ take_of room (size_by b - 1) bs (p + 1) (after_of n event) (e + 1)
    unfolding take_of
    take_head l w f h = rw (l, le-ltb (length (b ∷ bs)) (size_by b) w, f, lt-leb room e h)

    take_next : is_listed (role_of b) (node_of b) ≡ true → size_by b ≤ length (b ∷ bs) → fault_of n event ≡ 0 → e < room
        → take_of room zero (b ∷ bs) p n e ≡ take_of room zero rest (p + size_by b) (after_of n event) (e + 1)
    take_next l w f h =
        let pos = size-some offset (role_of b) (node_of b) in
        let q : p + 1 + (size_by b - 1) ≡ p + size_by b = omega arith in
        take_head l w f h
        ∙ take-skip room (after_of n event) (e + 1) (size_by b - 1) bs (p + 1) (omega arith)
        ∙ ap₂ (λ (r : List ℕ) (j : ℕ). take_of room zero r j (after_of n event) (e + 1)) (sym (drop-tail (size_by b) b bs pos)) q

    take-sound : (take_of room zero (b ∷ bs) p n e).number ≡ 0
        → (is_listed (role_of b) (node_of b) ≡ true) × (size_by b ≤ length (b ∷ bs)) × (fault_of n event ≡ 0) × (e < room)
    unfolding take_of
    take-sound z =
        let f = fault_of n event in
        let t = go_on (not (is_listed (role_of b) (node_of b))) _ _ (λ _ k. omega arith) z in
        let u = go_on (ltb (length (b ∷ bs)) (size_by b)) _ _ (λ _ k. omega arith) t.1 in
        let v = go_on (not (eqb f 0)) _ _ (λ h k. eqb-false f 0 (not-true (eqb f 0) h) k) u.1 in
        let w = go_on (leb room e) _ _ (λ _ k. omega arith) v.1 in (
          not-false (is_listed (role_of b) (node_of b)) t.0,
          ltb-false (length (b ∷ bs)) (size_by b) u.0,
          eqb-true f 0 (not-false (eqb f 0) v.0),
          leb-false room e w.0,
        )

-- the record of an event, with more bytes behind it
module _ (x : Event) (more : List ℕ) where
  abbrev kind : ℕ
  kind = kind_byte x.role x.node

  abbrev tail : List ℕ
  tail = drop 1 (record_of offset x) ++ more

  record-front : record_of offset x ++ more ≡ kind ∷ tail
  unfolding record_of
  record-front = refl

  kind-role : x.node < 32 → role_of kind ≡ x.role
  kind-role h = omega arith

  kind-node : x.node < 32 → node_of kind ≡ x.node
  kind-node h = omega arith

  kind-size : x.node < 32 → kind_size offset kind ≡ length (record_of offset x)
  kind-size h = rw (kind-role h, kind-node h, record-length offset x)

  record-fits : x.node < 32 → kind_size offset kind ≤ length (kind ∷ tail)
  record-fits h =
      let s = kind-size h in
      let l = sym (length-append (record_of offset x) more) ∙ ap length record-front in
      omega arith

  record-rest : x.node < 32 → drop (kind_size offset kind) (kind ∷ tail) ≡ more
  record-rest h = ap (λ (l : List ℕ). drop (kind_size offset kind) l) (sym record-front) ∙ drop_at (record_of offset x) more (kind_size offset kind) (sym (kind-size h))

  module _ (n : Nesting) (f : fault_of n x ≡ 0) (y : Body x) where
    node-small : x.node < 32
    node-small = (listed-kind x.role x.node (fault-none n x f).0).1

    record-read : event_of offset (kind ∷ tail) ≡ x
    record-read = ap (λ (l : List ℕ). event_of offset l) (sym record-front) ∙ record-event offset x more node-small (ranged-small offset largest x (omega arith) (fault-none n x f).1 y)

    take-record : (room p e : ℕ) → e < room → take_of room zero (record_of offset x ++ more) p n e ≡ take_of room zero more (p + length (record_of offset x)) (after_of n x) (e + 1)
    take-record room p e h =
        let k = node-small in
        let l : is_listed (role_of kind) (node_of kind) ≡ true = rw (kind-role k, kind-node k) (fault-none n x f).0 in
        let g : fault_of n (event_of offset (kind ∷ tail)) ≡ 0 = ap (λ (z : Event). fault_of n z) record-read ∙ f in
        ap (λ (r : List ℕ). take_of room zero r p n e) record-front
        ∙ take_next kind tail room p n e l (record-fits k) g h
        ∙ ap₂ (λ (r : List ℕ) (s : ℕ). take_of room zero r (p + s) (after_of n (event_of offset (kind ∷ tail))) (e + 1)) (record-rest k) (kind-size k)
        ∙ ap (λ (z : Event). take_of room zero more (p + length (record_of offset x)) (after_of n z) (e + 1)) record-read

    stored-record : stored_of zero (record_of offset x ++ more) ≡ x ∷ stored_of zero more
    stored-record =
        let k = node-small in
        ap (λ (r : List ℕ). stored_of zero r) record-front
        ∙ stored_next kind tail (record-fits k)
        ∙ ap₂ (λ (z : Event) (r : List ℕ). z ∷ stored_of zero r) record-read (record-rest k)

-- ---- fair events are read back from their records
pub fair-takes : (room : ℕ) (xs : List Event) (p : ℕ) (n : Nesting) (e : ℕ) → Bodies xs → Fair n xs → e + length xs ≤ room
    → take_of room zero (stream_of xs) p n e ≡ moved 0 (p + length (stream_of xs)) (e + length xs)
unfolding take_of stream_of
fair-takes room [] p n e y f h = rw (f, add-zero p, add-zero e)
fair-takes room (x ∷ xs) p n e y f h =
    let l = length-append (record_of offset x) (stream_of xs) in
    let q : p + length (record_of offset x) + length (stream_of xs) ≡ p + length (stream_of (x ∷ xs)) = omega arith in
    let c : e + 1 + length xs ≡ e + length (x ∷ xs) = omega arith in
    take-record x (stream_of xs) n f.0 y.0 room p e (omega arith)
    ∙ fair-takes room xs (p + length (record_of offset x)) (after_of n x) (e + 1) y.1 f.1 (omega arith)
    ∙ ap₂ (λ (i j : ℕ). moved 0 i j) q c

pub fair-stored : (xs : List Event) (n : Nesting) → Bodies xs → Fair n xs → stored_of zero (stream_of xs) ≡ xs
unfolding stored_of stream_of
fair-stored [] n y f = refl
fair-stored (x ∷ xs) n y f = stored-record x (stream_of xs) n f.0 y.0 ∙ ap (λ (r : List Event). x ∷ r) (fair-stored xs (after_of n x) y.1 f.1)

-- ---- bytes that are read hold fair events, and are their records
pub record Taken (room : ℕ) (bs : List ℕ) (p : ℕ) (n : Nesting) (e : ℕ) : Type 0 where
  pub fair : Fair n (stored_of zero bs)
  pub same : stream_of (stored_of zero bs) ≡ bs
  pub told : take_of room zero bs p n e ≡ moved 0 (p + length bs) (e + length (stored_of zero bs))

abbrev pub TakenIf : ℕ → List ℕ → ℕ → Nesting → ℕ → Type 0
TakenIf room bs p n e = (take_of room zero bs p n e).number ≡ 0 → Taken room bs p n e

taken_none : (room p : ℕ) (n : Nesting) (e : ℕ) → TakenIf room [] p n e
unfolding take_of stored_of stream_of
taken_none room p n e z =
    let d = at-end n.done p e z in
    record { fair = d; same = refl; told = rw (d, add-zero p, add-zero e) }

taken_next : (room b : ℕ) (bs : List ℕ) (p : ℕ) (n : Nesting) (e : ℕ) → Below 256 (b ∷ bs) → (take_of room zero (b ∷ bs) p n e).number ≡ 0
    → TakenIf room (rest b bs) (p + size_by b) (after_of n (event b bs)) (e + 1)
    → Taken room (b ∷ bs) p n e
unfolding stream_of
taken_next room b bs p n e w z go =
    let s = take-sound b bs room p n e z in
    let one = take_next b bs room p n e s.0 s.1 s.2 s.3 in
    let more = stored_next b bs s.1 in
    let r = go (ap (λ (m : Moved). m.number) (sym one) ∙ z) in
    let d = length-drop (size_by b) (b ∷ bs) in
    let c = ap length more in
    let q : p + size_by b + length (rest b bs) ≡ p + length (b ∷ bs) = omega arith in
    let k : e + 1 + length (stored_of zero (rest b bs)) ≡ e + length (stored_of zero (b ∷ bs)) = omega arith in
    record {
      fair = subst (λ (xs : List Event). Fair n xs) (sym more) (s.2, r.fair);
      same =
          ap stream_of more
          ∙ ap₂ (λ (x y : List ℕ). x ++ y) (event-record offset (b ∷ bs) w s.1) r.same
          ∙ take-append-drop (size_by b) (b ∷ bs);
      told = one ∙ r.told ∙ ap₂ (λ (i j : ℕ). moved 0 i j) q k;
    }

-- fuel: each record has a byte
pub taken : (fuel room : ℕ) (bs : List ℕ) (p : ℕ) (n : Nesting) (e : ℕ) → length bs ≤ fuel → Below 256 bs → TakenIf room bs p n e
taken zero room [] p n e h w z = taken_none room p n e z
taken zero room (b ∷ bs) p n e h w z = absurd (not-suc-le-zero h)
taken (suc k) room [] p n e h w z = taken_none room p n e z
taken (suc k) room (b ∷ bs) p n e h w z =
    taken_next room b bs p n e w z
    (taken k room (rest b bs) (p + size_by b) (after_of n (event b bs)) (e + 1) (rest-short b bs k h) (below-drop 256 (size_by b) (b ∷ bs) w))

-- ---- fair events are written, and none of them is Stale
fair-live-one : (n : Nesting) (x : Event) → fault_of n x ≡ 0 → is_stale x ≡ false
unfolding is_stale
fair-live-one n x f = rw (ne_eqb x.role 0 (listed-kind x.role x.node (fault-none n x f).0).2)

pub fair-live : (xs : List Event) (n : Nesting) → Fair n xs → live_of xs ≡ xs
unfolding live_of
fair-live [] n f = refl
fair-live (x ∷ xs) n f = rw (fair-live-one n x f.0, fair-live xs (after_of n x) f.1)

-- the bytes with one record more
abbrev grown : ℕ → Event → ℕ
grown size x = size + size_of offset x.role x.node

module _ (room spare : ℕ) (x : Event) (xs : List Event) (i : ℕ) (n : Nesting) (size : ℕ) where
  check-stale : is_stale x ≡ true → check_of room spare (x ∷ xs) i n size ≡ check_of room spare xs (i + 1) n size
  unfolding check_of
  check-stale e = rw e

  check-next : is_stale x ≡ false → fault_of n x ≡ 0 → grown size x ≤ room → check_of room spare (x ∷ xs) i n size ≡ check_of room spare xs (i + 1) (after_of n x) (grown size x)
  unfolding check_of
  check-next e f h = rw (e, f, le-ltb room (grown size x) h)

  check_sound : is_stale x ≡ false → (check_of room spare (x ∷ xs) i n size).number ≡ 0 → (fault_of n x ≡ 0) × (grown size x ≤ room)
  unfolding check_of
  check_sound e z =
      let f = fault_of n x in
      let t = past (is_stale x) _ _ e z in
      let u = go_on (not (eqb f 0)) _ _ (λ h k. eqb-false f 0 (not-true (eqb f 0) h) k) t in
      let v = go_on (ltb room (grown size x)) _ _ (λ _ k. omega arith) u.1 in
      (eqb-true f 0 (not-false (eqb f 0) u.0), ltb-false room (grown size x) v.0)

pub fair-checks : (room spare : ℕ) (xs : List Event) (i : ℕ) (n : Nesting) (size : ℕ) → Fair n xs → spare ≡ 0 → size + length (stream_of xs) ≤ room
    → check_of room spare xs i n size ≡ moved 0 (i + length xs) (size + length (stream_of xs))
unfolding check_of stream_of
fair-checks room spare [] i n size f g h = rw (f, g, add-zero i, add-zero size)
fair-checks room spare (x ∷ xs) i n size f g h =
    let l = length-append (record_of offset x) (stream_of xs) in
    let r = record-length offset x in
    let s = grown size x in
    let c : i + 1 + length xs ≡ i + length (x ∷ xs) = omega arith in
    let q : s + length (stream_of xs) ≡ size + length (stream_of (x ∷ xs)) = omega arith in
    check-next room spare x xs i n size (fair-live-one n x f.0) f.0 (omega arith)
    ∙ fair-checks room spare xs (i + 1) (after_of n x) s f.1 g (omega arith)
    ∙ ap₂ (λ (j k : ℕ). moved 0 j k) c q

-- ---- events that are written are fair without the Stale ones
pub record Checked (room spare : ℕ) (xs : List Event) (i : ℕ) (n : Nesting) (size : ℕ) : Type 0 where
  pub fair : Fair n (live_of xs)
  pub whole : spare ≡ 0
  pub told : check_of room spare xs i n size ≡ moved 0 (i + length xs) (size + length (stream_of (live_of xs)))
  pub fits : size ≤ room → size + length (stream_of (live_of xs)) ≤ room

abbrev pub CheckedIf : ℕ → ℕ → List Event → ℕ → Nesting → ℕ → Type 0
CheckedIf room spare xs i n size = (check_of room spare xs i n size).number ≡ 0 → Checked room spare xs i n size

module _ (room spare i : ℕ) (n : Nesting) (size : ℕ) where
  checked-none : CheckedIf room spare [] i n size
  unfolding check_of live_of stream_of
  checked-none z =
      let t = at-end (both n.done (eqb spare 0)) i size z in
      let d = both_true n.done (eqb spare 0) t in
      record { fair = d.0; whole = eqb-true spare 0 d.1; told = rw (t, add-zero i, add-zero size); fits = λ h. omega arith }

  module _ (x : Event) (xs : List Event) (z : (check_of room spare (x ∷ xs) i n size).number ≡ 0) where
    checked-stale : is_stale x ≡ true → CheckedIf room spare xs (i + 1) n size → Checked room spare (x ∷ xs) i n size
    unfolding live_of
    checked-stale t go =
        let one = check-stale room spare x xs i n size t in
        let r = go (ap (λ (m : Moved). m.number) (sym one) ∙ z) in
        let c : i + 1 + length xs ≡ i + length (x ∷ xs) = omega arith in
        record {
          fair = rw t r.fair;
          whole = r.whole;
          told = rw t (one ∙ r.told ∙ ap (λ (j : ℕ). moved 0 j (size + length (stream_of (live_of xs)))) c);
          fits = rw t r.fits;
        }

    checked-next : is_stale x ≡ false
        → CheckedIf room spare xs (i + 1) (after_of n x) (grown size x)
        → Checked room spare (x ∷ xs) i n size
    unfolding live_of stream_of
    checked-next t go =
        let s = check_sound room spare x xs i n size t z in
        let one = check-next room spare x xs i n size t s.0 s.1 in
        let r = go (ap (λ (m : Moved). m.number) (sym one) ∙ z) in
        let l = length-append (record_of offset x) (stream_of (live_of xs)) in
        let k = record-length offset x in
        let c : i + 1 + length xs ≡ i + length (x ∷ xs) = omega arith in
        let q : grown size x + length (stream_of (live_of xs)) ≡ size + length (stream_of (x ∷ live_of xs)) = omega arith in
        let g = r.fits s.1 in
        record {
          fair = rw t (s.0, r.fair);
          whole = r.whole;
          told = rw t (one ∙ r.told ∙ ap₂ (λ (j k : ℕ). moved 0 j k) c q);
          fits = rw t (λ _. omega arith);
        }

    checked-case : (b : Bool) → is_stale x ≡ b
        → CheckedIf room spare xs (i + 1) n size
        → CheckedIf room spare xs (i + 1) (after_of n x) (grown size x)
        → Checked room spare (x ∷ xs) i n size
    checked-case true t skip next = checked-stale t skip
    checked-case false t skip next = checked-next t next

pub checked : (room spare : ℕ) (xs : List Event) (i : ℕ) (n : Nesting) (size : ℕ) → CheckedIf room spare xs i n size
checked room spare [] i n size z = checked-none room spare i n size z
checked room spare (x ∷ xs) i n size z =
    checked-case room spare i n size x xs z (is_stale x) refl
    (checked room spare xs (i + 1) n size)
    (checked room spare xs (i + 1) (after_of n x) (grown size x))

-- ---- both sides whole
pub fair-reads : (xs : List Event) (lent : ℕ) → Bodies xs → Fair outside xs → length xs ≤ lent / width
    → read_of (stream_of xs) lent ≡ moved 0 (length (stream_of xs)) (length xs)
unfolding read_of
fair-reads xs lent y f h =
    fair-takes (lent / width) xs 0 outside 0 y f (omega arith)
    ∙ ap₂ (λ (i j : ℕ). moved 0 i j) (zero-add (length (stream_of xs))) (zero-add (length xs))

pub fair-writes : (xs : List Event) (room : ℕ) → Fair outside xs → length (stream_of xs) ≤ room
    → write_of (pack_of xs) room ≡ moved 0 (length xs) (length (stream_of xs))
unfolding write_of
fair-writes xs room f h =
    ap (λ (ys : List Event). check_of room (length (pack_of xs) % width) ys 0 outside 0) (all-pack xs)
    ∙ fair-checks room (length (pack_of xs) % width) xs 0 outside 0 f (spare-pack xs) (omega arith)
    ∙ ap₂ (λ (i j : ℕ). moved 0 i j) (zero-add (length xs)) (zero-add (length (stream_of xs)))

pub fair-image : (xs : List Event) → Fair outside xs → stream_of (live_of (all_of (pack_of xs))) ≡ stream_of xs
fair-image xs f = ap (λ (ys : List Event). stream_of (live_of ys)) (all-pack xs) ∙ ap stream_of (fair-live xs outside f)

module _ (words : List ℕ) (room : ℕ) (z : (write_of words room).number ≡ 0) where
  write_checked : Checked room (length words % width) (all_of words) 0 outside 0
  unfolding write_of
  write_checked = checked room (length words % width) (all_of words) 0 outside 0 z

  pub write-fair : Fair outside (live_of (all_of words))
  write-fair = write_checked.fair

  pub write-whole : pack_of (all_of words) ≡ words
  write-whole = pack-all words write_checked.whole

  pub write-told : write_of words room ≡ moved 0 (length (all_of words)) (length (stream_of (live_of (all_of words))))
  unfolding write_of
  write-told = write_checked.told ∙ ap₂ (λ (i j : ℕ). moved 0 i j) (zero-add (length (all_of words))) (zero-add (length (stream_of (live_of (all_of words)))))

  pub write-fits : length (stream_of (live_of (all_of words))) ≤ room
  write-fits = let h = write_checked.fits (omega arith) in omega arith

pub write-bodies : (words : List ℕ) → Below 4294967296 words → Bodies (live_of (all_of words))
write-bodies words b = bodies-live (all_of words) (bodies-events (length words / width) words b)

module _ (bytes : List ℕ) (lent : ℕ) (b : Below 256 bytes) (z : (read_of bytes lent).number ≡ 0) where
  read_taken : Taken (lent / width) bytes 0 outside 0
  unfolding read_of
  read_taken = taken (length bytes) (lent / width) bytes 0 outside 0 (le_refl (length bytes)) b z

  pub read-fair : Fair outside (stored_of zero bytes)
  read-fair = read_taken.fair

  pub read_same : stream_of (stored_of zero bytes) ≡ bytes
  read_same = read_taken.same

  pub read_told : read_of bytes lent ≡ moved 0 (length bytes) (length (stored_of zero bytes))
  unfolding read_of
  read_told = read_taken.told ∙ ap₂ (λ (i j : ℕ). moved 0 i j) (zero-add (length bytes)) (zero-add (length (stored_of zero bytes)))

-- ---- the buffers after a success
pub written_is : (words bytes : List ℕ) → (write_of words (length bytes)).number ≡ 0
    → written_of words bytes ≡ stream_of (live_of (all_of words)) ++ drop (length (stream_of (live_of (all_of words)))) bytes
unfolding written_of
written_is words bytes z = rw (eq-eqb (write_of words (length bytes)).number 0 z)

pub unpacked-is : (bytes words : List ℕ) → (read_of bytes (length words)).number ≡ 0
    → unpacked_of bytes words ≡ pack_of (stored_of zero bytes) ++ replicate (length words - length (pack_of (stored_of zero bytes))) 0
unfolding unpacked_of
unpacked-is bytes words z = rw (eq-eqb (read_of bytes (length words)).number 0 z)

pub written-front : (words bytes : List ℕ) → (write_of words (length bytes)).number ≡ 0
    → take (write_of words (length bytes)).count (written_of words bytes) ≡ stream_of (live_of (all_of words))
written-front words bytes z =
    let stream = stream_of (live_of (all_of words)) in
    let c = ap (λ (m : Moved). m.count) (write-told words (length bytes) z) in
    ap₂ (λ (k : ℕ) (l : List ℕ). take k l) c (written_is words bytes z) ∙ take-append_seam stream (drop (length stream) bytes)

pub unpacked-front : (bytes words : List ℕ) → Below 256 bytes → (read_of bytes (length words)).number ≡ 0
    → take (width * (read_of bytes (length words)).count) (unpacked_of bytes words) ≡ pack_of (stored_of zero bytes)
unpacked-front bytes words b z =
    let pack = pack_of (stored_of zero bytes) in
    let c = ap (λ (m : Moved). width * m.count) (read_told bytes (length words) b z) ∙ sym (pack-length (stored_of zero bytes)) in
    ap₂ (λ (k : ℕ) (l : List ℕ). take k l) c (unpacked-is bytes words z) ∙ take-append_seam pack (replicate (length words - length pack) 0)

pub unpacked-stream : (xs : List Event) (words : List ℕ) → Bodies xs → Fair outside xs → length xs ≤ length words / width
    → unpacked_of (stream_of xs) words ≡ pack_of xs ++ replicate (length words - width * length xs) 0
unpacked-stream xs words y f h =
    let z = ap (λ (m : Moved). m.number) (fair-reads xs (length words) y f h) in
    unpacked-is (stream_of xs) words z
    ∙ ap (λ (ys : List Event). pack_of ys ++ replicate (length words - length (pack_of ys)) 0) (fair-stored xs outside y f)
    ∙ ap (λ (k : ℕ). pack_of xs ++ replicate (length words - k) 0) (pack-length xs)

pub written-pack : (xs : List Event) (bytes : List ℕ) → Fair outside xs → length (stream_of xs) ≤ length bytes
    → written_of (pack_of xs) bytes ≡ stream_of xs ++ drop (length (stream_of xs)) bytes
written-pack xs bytes f h =
    let z = ap (λ (m : Moved). m.number) (fair-writes xs (length bytes) f h) in
    written_is (pack_of xs) bytes z ∙ ap (λ (s : List ℕ). s ++ drop (length s) bytes) (fair-image xs f)
