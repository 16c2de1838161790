-- Events checked, then written: one law for each way through a turn, one for each return. Assumes nothing.
use Prim.Native.Nat.{ℕ, ◌+◌, ◌-◌, ◌*◌, ◌/◌, ◌%◌, ◌≤◌, ◌<◌}
use mathlib.Core.Path.{◌≡◌, refl, sym, ap, ◌∙◌, subst}
use mathlib.Core.Bool.{Bool, true, false}
use mathlib.Core.List.{List, [], ◌∷◌, ◌++◌}
use Rattle.std.proofs.Common.{Ok, Err}
use Rattle.std.specs.List.{flat_map}
use native.Mathlib.Omega.{arith}
use lib.Dec.{eqb, ltb}
use lib.ListN.{length, drop, length-append}
use lib.Seq.{sets, sets-eq, length-sets}
use borrow.Author.Tests.{eq-eqb, ne_eqb, eqb-true, eqb-false, lt-ltb, le-ltb, ltb-true, ltb-false}
use Rattle.classes.specs.Choice.{pick, both}
use Rattle.classes.proofs.ChoiceLaws.{true-left, true-right}
use Rattle.events.specs.Events.{width, whole_at}
use Rattle.events.specs.Pack.{event_in, is_stale, all_of, live_of}
use Rattle.events.specs.declared.Event.{Event}
use Rattle.events.proofs.PackLaws.{rest_of, rest-start, rest-next, rest_end, rest-fits}
use Rattle.events.proofs.StaleLaws.{live-stale, live-keep}
use Rattle.fields.specs.Fields.{offset, is_listed, size_of}
use Rattle.record.specs.Record.{record_of}
use Rattle.events.specs.Names.{most}
use Rattle.nests.specs.Nesting.{Nesting, outside, after_of, fault_of}
use Rattle.nests.specs.View.{nest_by, Held}
use Rattle.nests.specs.Faults.{IsFault}
use Rattle.nests.specs.declared.Nest.{Nest}
use Rattle.refusals.specs.Numbers.{number_of}
use Rattle.refusals.specs.declared.Refused.{Refused}
use Rattle.records.specs.Moved.{Moved, told}
use Rattle.refusals.proofs.NumberLaws.{number-some}
use Rattle.records.specs.Records.{moved, stream_of, check_of, write_of, written_of, all_listed}
use Rattle.record.proofs.RoundLaws.{record-length}
use Rattle.nests.proofs.NestLaws.{fault-none}

-- ---- one event checked
module _ (room spare : ℕ) (i : ℕ) (n : Nesting) (size : ℕ) where
  module _ (x : Event) (xs : List Event) where
    check-stale : is_stale x ≡ true → check_of room spare (x ∷ xs) i n size ≡ check_of room spare xs (i + 1) n size
    unfolding check_of
    check-stale p = rw p

    check-fault : is_stale x ≡ false → (fault_of n x ≡ 0 → ⊥) → check_of room spare (x ∷ xs) i n size ≡ moved (fault_of n x) i 0
    unfolding check_of
    check-fault p q = rw (p, ne_eqb (fault_of n x) 0 q)

    check-full : is_stale x ≡ false → fault_of n x ≡ 0 → room < size + size_of offset x.role x.node → check_of room spare (x ∷ xs) i n size ≡ moved 8 i 0
    unfolding check_of
    check-full p q h = rw (p, eq-eqb (fault_of n x) 0 q, lt-ltb room (size + size_of offset x.role x.node) h)

    check-next : is_stale x ≡ false → fault_of n x ≡ 0 → size + size_of offset x.role x.node ≤ room
        → check_of room spare (x ∷ xs) i n size ≡ check_of room spare xs (i + 1) (after_of n x) (size + size_of offset x.role x.node)
    unfolding check_of
    check-next p q h = rw (p, eq-eqb (fault_of n x) 0 q, le-ltb room (size + size_of offset x.role x.node) h)

  check-open : n.done ≡ false → check_of room spare [] i n size ≡ moved 9 i 0
  unfolding check_of
  check-open p = rw p

  check-spare : n.done ≡ true → (spare ≡ 0 → ⊥) → check_of room spare [] i n size ≡ moved 9 i 0
  unfolding check_of
  check-spare p q = rw (p, ne_eqb spare 0 q)

  check-whole : n.done ≡ true → spare ≡ 0 → check_of room spare [] i n size ≡ moved 0 i size
  unfolding check_of
  check-whole p q = rw (p, eq-eqb spare 0 q)

-- ---- the loop of check: what is left gives the whole answer
pub record Checking (words : List ℕ) (lent : ℕ) (n : Nest) (size i : ℕ) : Type 0 where
  pub low : i ≤ length words / width
  pub within : size ≤ lent
  pub held : Held (whole_at words) n.room n.depth
  pub same : write_of words lent ≡ check_of lent (length words % width) (rest_of words i) i (nest_by (event_in words) n) size

pub check-start : (words : List ℕ) (lent : ℕ) (n : Nest) → n.depth ≡ 0 → ((get : ℕ → Event) → nest_by get n ≡ outside) → Checking words lent n 0 0
unfolding write_of
check-start words lent n z o = record {
  low = omega arith;
  within = omega arith;
  held = λ k h. absurd (omega (arith, h, z));
  same = ap (λ (xs : List Event). check_of lent (length words % 8) xs 0 outside 0) (sym (rest-start words))
      ∙ ap (λ (v : Nesting). check_of lent (length words % 8) (rest_of words 0) 0 v 0) (sym (o (event_in words)));
}

nest-done : (get : ℕ → Event) (n : Nest) → (nest_by get n).done ≡ n.done
unfolding nest_by
nest-done get n = refl

module _ (words : List ℕ) (lent : ℕ) (n : Nest) (size i : ℕ) (c : Checking words lent n size i) where
  abbrev spare : ℕ
  spare = length words % width

  abbrev here : Nesting
  here = nest_by (event_in words) n

  -- a turn, with the event at index i
  module _ (h : i < length words / width) (x : Event) (e : x ≡ event_in words (i * width)) where
    abbrev rest : List Event
    rest = rest_of words (i + 1)

    check-at : write_of words lent ≡ check_of lent spare (x ∷ rest) i here size
    check-at = c.same ∙ ap (λ (xs : List Event). check_of lent spare xs i here size) (rest-next words i h x e)

    pub checking-stale : is_stale x ≡ true → Checking words lent n size (i + 1)
    checking-stale p = record {
      low = omega arith;
      within = c.within;
      held = c.held;
      same = check-at ∙ check-stale lent spare i here size x rest p;
    }

    module _ (p : is_stale x ≡ false) where
      pub checking-fault : (r : Refused) → IsFault (Err r) (fault_of here x) i → told (Err r) ≡ write_of words lent
      checking-fault r (f, t) =
          sym (check-at
          ∙ check-fault lent spare i here size x rest p (λ z. number-some r.why (sym f ∙ z))
          ∙ ap (λ (k : ℕ). moved k i 0) f
          ∙ ap (λ (j : ℕ). moved (number_of r.why) j 0) (sym t))

      module _ (z : fault_of here x ≡ 0) (more : ℕ) (m : more ≡ size_of offset x.role x.node) where
        pub checking-full : lent - size < more → moved 8 i 0 ≡ write_of words lent
        checking-full g =
            let w = c.within in
            sym (check-at ∙ check-full lent spare i here size x rest p z (omega arith))

        pub checking-next : more ≤ lent - size → (n' : Nest)
            → ((get : ℕ → Event) → get (i * width) ≡ x → nest_by get n' ≡ after_of (nest_by get n) x)
            → ((fit : ℕ → Bool) → fit (i * width) ≡ true → Held fit n.room n.depth → Held fit n'.room n'.depth)
            → Checking words lent n' (size + more) (i + 1)
        checking-next g n' a k =
            let w = c.within in
            record {
              low = omega arith;
              within = omega arith;
              held = k (whole_at words) (rest-fits words i h) c.held;
              same =
                  check-at
                  ∙ check-next lent spare i here size x rest p z (omega arith)
                  ∙ ap (λ (v : Nesting). check_of lent spare rest (i + 1) v (size + size_of offset x.role x.node)) (sym (a (event_in words) (sym e)))
                  ∙ ap (λ (k : ℕ). check_of lent spare rest (i + 1) (nest_by (event_in words) n') (size + k)) (sym m);
            }

  -- the end
  module _ (h : length words / width ≤ i) where
    check-last : write_of words lent ≡ check_of lent spare [] (length words / width) here size
    check-last =
        let l = c.low in
        let k : i ≡ length words / 8 = omega arith in
        c.same
        ∙ ap (λ (xs : List Event). check_of lent spare xs i here size) (rest_end words i h)
        ∙ ap (λ (j : ℕ). check_of lent spare [] j here size) k

    pub checking-open : n.done ≡ false → moved 9 (length words / width) 0 ≡ write_of words lent
    checking-open d = sym (check-last ∙ check-open lent spare (length words / 8) here size (nest-done (event_in words) n ∙ d))

    pub checking-spare : n.done ≡ true → (spare ≡ 0 → ⊥) → moved 9 (length words / width) 0 ≡ write_of words lent
    checking-spare d q = sym (check-last ∙ check-spare lent spare (length words / 8) here size (nest-done (event_in words) n ∙ d) q)

    pub checking-whole : n.done ≡ true → spare ≡ 0 → moved 0 (length words / width) size ≡ write_of words lent
    checking-whole d q = sym (check-last ∙ check-whole lent spare (length words / 8) here size (nest-done (event_in words) n ∙ d) q)

-- ---- one event left out, or written
module _ (x : Event) (xs : List Event) where
  stream-cons : stream_of (x ∷ xs) ≡ record_of offset x ++ stream_of xs
  unfolding stream_of
  stream-cons = refl

  stream-length : length (stream_of (x ∷ xs)) ≡ size_of offset x.role x.node + length (stream_of xs)
  stream-length =
      ap length stream-cons ∙ length-append (record_of offset x) (stream_of xs) ∙ ap (λ (k : ℕ). k + length (stream_of xs)) (record-length offset x)

  listed_cons : is_listed x.role x.node ≡ true → all_listed xs ≡ true → all_listed (x ∷ xs) ≡ true
  unfolding all_listed
  listed_cons p q = rw (p, q)

  listed-head : all_listed (x ∷ xs) ≡ true → is_listed x.role x.node ≡ true
  unfolding all_listed
  listed-head p = true-left (is_listed x.role x.node) (all_listed xs) p

  listed-tail : all_listed (x ∷ xs) ≡ true → all_listed xs ≡ true
  unfolding all_listed
  listed-tail p = true-right (is_listed x.role x.node) (all_listed xs) p

stream-none : (bytes : List ℕ) (at : ℕ) → sets bytes at (stream_of (live_of [])) ≡ bytes
unfolding stream_of live_of
stream-none bytes at = refl

-- ---- the loop of stream: the records so far stand in the buffer, and the rest has room
-- a Stale event has none
abbrev pub piece : Event → List ℕ
piece x = pick (is_stale x) [] (record_of offset x)

piece-first : (x : Event) (xs : List Event) (b : Bool) (s : List ℕ) → s ≡ stream_of (live_of xs) → pick b [] (record_of offset x) ++ s ≡ stream_of (pick b (live_of xs) (x ∷ live_of xs))
unfolding stream_of
piece-first x xs true s e = e
piece-first x xs false s e = ap (λ (l : List ℕ). record_of offset x ++ l) e

pub pieces-stream : (xs : List Event) → flat_map piece xs ≡ stream_of (live_of xs)
unfolding live_of stream_of
pieces-stream [] = refl
pieces-stream (x ∷ xs) = piece-first x xs (is_stale x) (flat_map piece xs) (pieces-stream xs)

-- the events from index i on are listed, where those behind the one there are
module _ (words : List ℕ) (i : ℕ) (h : i < length words / width) (x : Event) (e : x ≡ event_in words (i * width)) (l : all_listed (live_of (rest_of words i)) ≡ true) where
  pub listed-stale : is_stale x ≡ true → all_listed (live_of (rest_of words (i + 1))) ≡ true
  listed-stale p = subst (λ (xs : List Event). all_listed xs ≡ true) (ap live_of (rest-next words i h x e) ∙ live-stale x (rest_of words (i + 1)) p) l

  pub listed-live : is_stale x ≡ false → (is_listed x.role x.node ≡ true) × (all_listed (live_of (rest_of words (i + 1))) ≡ true)
  listed-live p =
      let q = subst (λ (xs : List Event). all_listed xs ≡ true) (ap live_of (rest-next words i h x e) ∙ live-keep x (rest_of words (i + 1)) p) l in
      (listed-head x (live_of (rest_of words (i + 1))) q, listed-tail x (live_of (rest_of words (i + 1))) q)

pub piece-stale : (x : Event) → is_stale x ≡ true → piece x ≡ []
piece-stale x p = rw p

pub piece-live : (x : Event) → is_stale x ≡ false → piece x ≡ record_of offset x
piece-live x p = rw p

pub record-size : (x : Event) → length (record_of offset x) ≡ size_of offset x.role x.node
record-size x = record-length offset x

-- ---- what a check that refuses nothing tells of the stream
zero_of : {a b : Moved} → a ≡ b → a.number ≡ 0 → b.number ≡ 0
zero_of e z = sym (ap (λ (m : Moved). m.number) e) ∙ z

abbrev pub Checked : ℕ → List Event → ℕ → Moved → Type 0
Checked room xs size a =
    (all_listed (live_of xs) ≡ true)
    × (a.count ≡ size + length (stream_of (live_of xs)))
    × (size ≤ room → size + length (stream_of (live_of xs)) ≤ room)

checked-end : (room spare : ℕ) (i : ℕ) (n : Nesting) (size : ℕ) → (check_of room spare [] i n size).number ≡ 0 → Checked room [] size (check_of room spare [] i n size)
unfolding check_of live_of stream_of all_listed
checked-end room spare i n size z = by-test (both n.done (eqb spare 0)) z
  where
    by-test : (b : Bool) → (pick b (moved 0 i size) (moved 9 i 0)).number ≡ 0 → Checked room [] size (pick b (moved 0 i size) (moved 9 i 0))
    by-test true z = (refl, omega arith, λ h. omega (arith, h))
    by-test false z = absurd (omega (arith, z))

module _ (room spare : ℕ) (x : Event) (xs : List Event) (i : ℕ) (n : Nesting) (size : ℕ) where
  abbrev answer : Moved
  answer = check_of room spare (x ∷ xs) i n size

  abbrev more : ℕ
  more = size + size_of offset x.role x.node

  checked-stale : is_stale x ≡ true → Checked room xs size (check_of room spare xs (i + 1) n size) → Checked room (x ∷ xs) size answer
  checked-stale p (l, k, f) = rw (live-stale x xs p, check-stale room spare i n size x xs p) (l, k, f)

  checked-next : is_stale x ≡ false → fault_of n x ≡ 0 → more ≤ room → Checked room xs more (check_of room spare xs (i + 1) (after_of n x) more) → Checked room (x ∷ xs) size answer
  checked-next p q h (l, k, f) =
      let t = f h in
      let s = stream-length x (live_of xs) in
      rw (live-keep x xs p, check-next room spare i n size x xs p q h)
      (listed_cons x (live_of xs) (fault-none n x q).0 l, omega (arith, k, s), λ g. omega (arith, t, s))

  checked-turn : answer.number ≡ 0
      → ((check_of room spare xs (i + 1) n size).number ≡ 0 → Checked room xs size (check_of room spare xs (i + 1) n size))
      → ((check_of room spare xs (i + 1) (after_of n x) more).number ≡ 0 → Checked room xs more (check_of room spare xs (i + 1) (after_of n x) more))
      → Checked room (x ∷ xs) size answer
  checked-turn z skip next = by-stale (is_stale x) refl
    where
      by-room : is_stale x ≡ false → fault_of n x ≡ 0 → (b : Bool) → ltb room more ≡ b → Checked room (x ∷ xs) size answer
      by-room p q true h = absurd (omega (arith, zero_of (check-full room spare i n size x xs p q (ltb-true room more h)) z))
      by-room p q false h =
          let g = ltb-false room more h in
          checked-next p q g (next (zero_of (check-next room spare i n size x xs p q g) z))

      by-fault : is_stale x ≡ false → (b : Bool) → eqb (fault_of n x) 0 ≡ b → Checked room (x ∷ xs) size answer
      by-fault p true q = by-room p (eqb-true (fault_of n x) 0 q) (ltb room more) refl
      by-fault p false q =
          let g = eqb-false (fault_of n x) 0 q in
          absurd (g (zero_of (check-fault room spare i n size x xs p g) z))

      by-stale : (b : Bool) → is_stale x ≡ b → Checked room (x ∷ xs) size answer
      by-stale true p = checked-stale p (skip (zero_of (check-stale room spare i n size x xs p) z))
      by-stale false p = by-fault p (eqb (fault_of n x) 0) refl

pub checked : (room spare : ℕ) (xs : List Event) (i : ℕ) (n : Nesting) (size : ℕ) → (check_of room spare xs i n size).number ≡ 0 → Checked room xs size (check_of room spare xs i n size)
checked room spare [] i n size z = checked-end room spare i n size z
checked room spare (x ∷ xs) i n size z =
    checked-turn room spare x xs i n size z (checked room spare xs (i + 1) n size) (checked room spare xs (i + 1) (after_of n x) (size + size_of offset x.role x.node))

-- ---- write: a is what check answered
-- the events and the room that stream asks for
pub write-asks : (words : List ℕ) (lent : ℕ) → (write_of words lent).number ≡ 0 → (all_listed (live_of (all_of words)) ≡ true) × (length (stream_of (live_of (all_of words))) ≤ lent)
unfolding write_of
write-asks words lent z =
    let k = checked lent (length words % 8) (all_of words) 0 outside 0 z in
    (k.0, omega (arith, k.2 (omega arith)))

module _ (words bytes : List ℕ) (a : Moved) (e : a ≡ write_of words (length bytes)) where
  pub writing-none : (a.number ≡ 0 → ⊥) → bytes ≡ written_of words bytes
  unfolding written_of
  writing-none q = rw (ne_eqb (write_of words (length bytes)).number 0 (λ z. q (zero_of (sym e) z)))

  module _ (z : a.number ≡ 0) where
    pub writing-asks : (all_listed (live_of (all_of words)) ≡ true) × (length (stream_of (live_of (all_of words))) ≤ length bytes)
    writing-asks = write-asks words (length bytes) (zero_of e z)

    pub writing-all : (now : List ℕ) → now ≡ stream_of (live_of (all_of words)) ++ drop (length (stream_of (live_of (all_of words)))) bytes → now ≡ written_of words bytes
    unfolding written_of
    writing-all now b = rw (eq-eqb (write_of words (length bytes)).number 0 (zero_of e z)) b
