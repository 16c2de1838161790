-- Records read: what is skipped, one law for each way through a turn, and what a stream that is taken says of its records. Assumes nothing.
use Prim.Native.Nat.{ℕ, zero, suc, ◌+◌, ◌-◌, ◌/◌, ◌≤◌, ◌<◌}
use mathlib.Core.Path.{◌≡◌, refl, sym, ap, subst, ◌∙◌}
use mathlib.Core.Bool.{Bool, true, false, not}
use mathlib.Core.List.{List, [], ◌∷◌, ◌++◌}
use native.Mathlib.Nat.{add-zero, not-suc-le-zero, le_of_suc-le-suc}
use native.Mathlib.Omega.{arith}
use lib.Dec.{eqb, leb, ltb}
use lib.ListN.{length, take, drop, get_or, replicate, length-append, length-drop, drop_of_length-le}
use lib.Seq.{drop-drop, get_or-drop, take_at, sets, sets-eq, length-sets}
use borrow.Author.Tests.{eq-eqb, ne_eqb, eqb-true, eqb-false, le-leb, lt-leb, leb-true, leb-false, lt-ltb, le-ltb, ltb-false, not-true, not-false}
use Rattle.classes.specs.Choice.{pick}
use Rattle.classes.proofs.ChoiceLaws.{true-left, true-right}
use Rattle.events.specs.Events.{width, words_of}
use Rattle.events.specs.Pack.{pack_of}
use Rattle.events.specs.declared.Event.{Event}
use Rattle.events.proofs.PackLaws.{pack-length}
use Rattle.fields.specs.Fields.{offset, is_listed, size_of}
use Rattle.record.specs.Record.{role_of, node_of, kind_size, event_of, record_in, record_fits}
use Rattle.std.proofs.Common.{Err}
use Rattle.nests.specs.Nesting.{Nesting, outside, after_of, fault_of}
use Rattle.nests.specs.View.{nest_by, Held}
use Rattle.nests.specs.Faults.{IsFault}
use Rattle.nests.specs.declared.Nest.{Nest}
use Rattle.refusals.specs.Numbers.{number_of}
use Rattle.refusals.specs.declared.Refused.{Refused}
use Rattle.refusals.proofs.NumberLaws.{number-some}
use Rattle.records.specs.Records.{moved, stored_of, take_of, read_of, unpacked_of, all_whole}
use Rattle.records.specs.Moved.{Moved, told}
use Rattle.sinks.specs.Sinks.{sets-append}

-- ---- bytes that belong to a record before are skipped
module _ (room : ℕ) (n : Nesting) (e : ℕ) where
  pub take-skip : (k : ℕ) (bs : List ℕ) (p : ℕ) → k ≤ length bs → take_of room k bs p n e ≡ take_of room zero (drop k bs) (p + k) n e
  unfolding take_of
  take-skip zero bs p h = ap (λ (q : ℕ). take_of room zero bs q n e) (sym (add-zero p))
  take-skip (suc k) [] p h = absurd (not-suc-le-zero h)
  take-skip (suc k) (b ∷ bs) p h =
      let q : p + 1 + k ≡ p + suc k = omega arith in
      take-skip k bs (p + 1) (le_of_suc-le-suc h) ∙ ap (λ (i : ℕ). take_of room zero (drop k bs) i n e) q

pub stored-skip : (k : ℕ) (bs : List ℕ) → stored_of k bs ≡ stored_of zero (drop k bs)
unfolding stored_of
stored-skip zero bs = refl
stored-skip (suc k) [] = refl
stored-skip (suc k) (b ∷ bs) = stored-skip k bs

pub whole-skip : (k : ℕ) (bs : List ℕ) → all_whole k bs ≡ all_whole zero (drop k bs)
unfolding all_whole
whole-skip zero bs = refl
whole-skip (suc k) [] = refl
whole-skip (suc k) (b ∷ bs) = whole-skip k bs

-- a record has a byte
pub size-some : (o role node : ℕ) → 1 ≤ size_of o role node
unfolding size_of
size-some o role node = omega arith

-- the bytes behind a first byte
pub drop-tail : (k b : ℕ) (bs : List ℕ) → 1 ≤ k → drop k (b ∷ bs) ≡ drop (k - 1) bs
drop-tail k b bs h = let e : k ≡ suc (k - 1) = omega arith in ap (λ (i : ℕ). drop i (b ∷ bs)) e

-- the bytes of the record that bytes start with
abbrev pub first_size : List ℕ → ℕ
first_size s = kind_size offset (get_or s 0 0)

first-size : (s : List ℕ) → size_of offset (event_of offset s).role (event_of offset s).node ≡ first_size s
unfolding event_of
first-size s = refl

-- ---- the first record of bytes
abbrev pub first_listed : List ℕ → Bool
first_listed s = is_listed (role_of (get_or s 0 0)) (node_of (get_or s 0 0))

module _ (room p : ℕ) (n : Nesting) (e : ℕ) where
  pub take-unlisted : (s : List ℕ) → 0 < length s → first_listed s ≡ false → take_of room zero s p n e ≡ moved 10 p 0
  unfolding take_of
  take-unlisted [] h l = absurd (not-suc-le-zero h)
  take-unlisted (b ∷ bs) h l = rw l

  pub take_short : (s : List ℕ) → 0 < length s → first_listed s ≡ true → length s < first_size s → take_of room zero s p n e ≡ moved 9 p 0
  unfolding take_of
  take_short [] h l k = absurd (not-suc-le-zero h)
  take_short (b ∷ bs) h l k = rw (l, lt-ltb (suc (length bs)) (kind_size offset b) k)

  pub take-fault : (s : List ℕ) → 0 < length s → first_listed s ≡ true → first_size s ≤ length s → (fault_of n (event_of offset s) ≡ 0 → ⊥)
      → take_of room zero s p n e ≡ moved (fault_of n (event_of offset s)) p 0
  unfolding take_of
  take-fault [] h l k f = absurd (not-suc-le-zero h)
  take-fault (b ∷ bs) h l k f = rw (l, le-ltb (suc (length bs)) (kind_size offset b) k, ne_eqb (fault_of n (event_of offset (b ∷ bs))) 0 f)

  pub take-full : (s : List ℕ) → 0 < length s → first_listed s ≡ true → first_size s ≤ length s → fault_of n (event_of offset s) ≡ 0 → room ≤ e
      → take_of room zero s p n e ≡ moved 6 p 0
  unfolding take_of
  take-full [] h l k f g = absurd (not-suc-le-zero h)
  take-full (b ∷ bs) h l k f g = rw (l, le-ltb (suc (length bs)) (kind_size offset b) k, eq-eqb (fault_of n (event_of offset (b ∷ bs))) 0 f, le-leb room e g)

  take_on : (b : ℕ) (bs : List ℕ) → first_listed (b ∷ bs) ≡ true → kind_size offset b ≤ suc (length bs) → fault_of n (event_of offset (b ∷ bs)) ≡ 0 → e < room
      → take_of room zero (b ∷ bs) p n e ≡ take_of room (kind_size offset b - 1) bs (p + 1) (after_of n (event_of offset (b ∷ bs))) (e + 1)
  unfolding take_of
  take_on b bs l k f g = rw (l, le-ltb (suc (length bs)) (kind_size offset b) k, eq-eqb (fault_of n (event_of offset (b ∷ bs))) 0 f, lt-leb room e g)

  pub take_next : (s : List ℕ) → 0 < length s → first_listed s ≡ true → first_size s ≤ length s → fault_of n (event_of offset s) ≡ 0 → e < room
      → take_of room zero s p n e ≡ take_of room zero (drop (first_size s) s) (p + first_size s) (after_of n (event_of offset s)) (e + 1)
  take_next [] h l k f g = absurd (not-suc-le-zero h)
  take_next (b ∷ bs) h l k f g =
      let z : 1 ≤ kind_size offset b = size-some offset (role_of b) (node_of b) in
      let i : kind_size offset b ≤ suc (length bs) = k in
      let m = after_of n (event_of offset (b ∷ bs)) in
      let q : p + 1 + (kind_size offset b - 1) ≡ p + kind_size offset b = omega arith in
      take_on b bs l k f g
      ∙ take-skip room m (e + 1) (kind_size offset b - 1) bs (p + 1) (omega arith)
      ∙ ap (λ (j : ℕ). take_of room zero (drop (kind_size offset b - 1) bs) j m (e + 1)) q
      ∙ ap (λ (r : List ℕ). take_of room zero r (p + kind_size offset b) m (e + 1)) (sym (drop-tail (kind_size offset b) b bs z))

pub stored-first : (s : List ℕ) → 0 < length s → stored_of zero s ≡ event_of offset s ∷ stored_of zero (drop (first_size s) s)
unfolding stored_of
stored-first [] h = absurd (not-suc-le-zero h)
stored-first (b ∷ bs) h =
    let z : 1 ≤ kind_size offset b = size-some offset (role_of b) (node_of b) in
    ap (λ (r : List Event). event_of offset (b ∷ bs) ∷ r)
    (stored-skip (kind_size offset b - 1) bs ∙ ap (λ (r : List ℕ). stored_of zero r) (sym (drop-tail (kind_size offset b) b bs z)))

pub whole-first : (s : List ℕ) → 0 < length s → all_whole zero s ≡ true → (first_size s ≤ length s) × (all_whole zero (drop (first_size s) s) ≡ true)
unfolding all_whole
whole-first [] h e = absurd (not-suc-le-zero h)
whole-first (b ∷ bs) h e =
    let z : 1 ≤ kind_size offset b = size-some offset (role_of b) (node_of b) in
    let t = leb (kind_size offset b) (suc (length bs)) in
    let r = all_whole (kind_size offset b - 1) bs in (
      leb-true (kind_size offset b) (suc (length bs)) (true-left t r e),
      ap (λ (l : List ℕ). all_whole zero l) (drop-tail (kind_size offset b) b bs z) ∙ sym (whole-skip (kind_size offset b - 1) bs) ∙ true-right t r e,
    )

-- ---- a stream that is taken
-- a test that would refuse has failed
passed : (t : Bool) (m r : Moved) → (t ≡ true → m.number ≡ 0 → ⊥) → (pick t m r).number ≡ 0 → (t ≡ false) × (r.number ≡ 0)
passed true m r h z = absurd (h refl z)
passed false m r h z = (refl, z)

-- what its first record has passed
pub record Passed (cap b : ℕ) (bs : List ℕ) (n : Nesting) (e : ℕ) : Type 0 where
  pub listed : is_listed (role_of b) (node_of b) ≡ true
  pub whole : kind_size offset b ≤ suc (length bs)
  pub sound : fault_of n (event_of offset (b ∷ bs)) ≡ 0
  pub room : e < cap

pub first-passed : (room b : ℕ) (bs : List ℕ) (p : ℕ) (n : Nesting) (e : ℕ) → (take_of room zero (b ∷ bs) p n e).number ≡ 0 → Passed room b bs n e
unfolding take_of
first-passed room b bs p n e z =
    let f = fault_of n (event_of offset (b ∷ bs)) in
    let t1 = passed (not (is_listed (role_of b) (node_of b))) (moved 10 p 0) _ (λ q i. eqb-false 10 0 refl i) z in
    let t2 = passed (ltb (suc (length bs)) (kind_size offset b)) (moved 9 p 0) _ (λ q i. eqb-false 9 0 refl i) t1.1 in
    let t3 = passed (not (eqb f 0)) (moved f p 0) _ (λ q i. eqb-false f 0 (not-true (eqb f 0) q) i) t2.1 in
    let t4 = passed (leb room e) (moved 6 p 0) _ (λ q i. eqb-false 6 0 refl i) t3.1 in
    record {
      listed = not-false (is_listed (role_of b) (node_of b)) t1.0;
      whole = ltb-false (suc (length bs)) (kind_size offset b) t2.0;
      sound = eqb-true f 0 (not-false (eqb f 0) t3.0);
      room = leb-false room e t4.0;
    }

at-end : (d : Bool) (p e : ℕ) → (pick d (moved 0 p e) (moved 9 p 0)).number ≡ 0 → pick d (moved 0 p e) (moved 9 p 0) ≡ moved 0 (p + 0) (e + 0)
at-end true p e z = rw (add-zero p, add-zero e)
at-end false p e z = absurd (eqb-false 9 0 refl z)

-- its records are whole, its answer is its bytes and events, and they have room
pub taken : (room k : ℕ) (bs : List ℕ) (p : ℕ) (n : Nesting) (e : ℕ) → (take_of room k bs p n e).number ≡ 0
    → (all_whole k bs ≡ true) × (take_of room k bs p n e ≡ moved 0 (p + length bs) (e + length (stored_of k bs))) × (e ≤ room → e + length (stored_of k bs) ≤ room)
unfolding take_of all_whole stored_of
taken room k [] p n e z = (refl, at-end n.done p e z, λ h. rw (add-zero e) h)
taken room (suc k) (b ∷ bs) p n e z =
    let r = taken room k bs (p + 1) n e z in
    let q : p + 1 + length bs ≡ p + suc (length bs) = omega arith in
    (r.0, r.1 ∙ ap (λ (i : ℕ). moved 0 i (e + length (stored_of k bs))) q, r.2)
taken room zero (b ∷ bs) p n e z =
    let w = first-passed room b bs p n e z in
    let g : e < room = w.room in
    let m = after_of n (event_of offset (b ∷ bs)) in
    let o = take_on room p n e b bs w.listed w.whole w.sound w.room in
    let r = taken room (kind_size offset b - 1) bs (p + 1) m (e + 1) (sym (ap (λ (a : Moved). a.number) o) ∙ z) in
    let t = length (stored_of (kind_size offset b - 1) bs) in
    let i : p + 1 + length bs ≡ p + suc (length bs) = omega arith in
    let j : e + 1 + t ≡ e + suc t = omega arith in (
      rw (le-leb (kind_size offset b) (suc (length bs)) w.whole) r.0,
      o ∙ r.1 ∙ ap (λ (q : ℕ). moved 0 q (e + 1 + t)) i ∙ ap (λ (q : ℕ). moved 0 (p + suc (length bs)) q) j,
      λ h. omega (arith, r.2 (omega arith)),
    )

-- ---- the record at a place
module _ (bytes : List ℕ) (at : ℕ) (h : at < length bytes) where
  some_at : 0 < length (drop at bytes)
  some_at = omega (arith, length-drop at bytes)

  kind_at : get_or (drop at bytes) 0 0 ≡ get_or bytes at 0
  kind_at = get_or-drop at bytes 0 0 ∙ ap (λ (i : ℕ). get_or bytes i 0) (add-zero at)

  fits-at : first_size (drop at bytes) ≤ length (drop at bytes) → record_fits bytes at ≡ true
  fits-at g =
      let e : first_size (drop at bytes) ≡ kind_size offset (get_or bytes at 0) = ap (λ (k : ℕ). kind_size offset k) kind_at in
      le-leb (at + kind_size offset (get_or bytes at 0)) (length bytes) (omega (arith, length-drop at bytes))

  -- the bytes behind it
  rest_at : (size : ℕ) → size ≡ first_size (drop at bytes) → drop (first_size (drop at bytes)) (drop at bytes) ≡ drop (at + size) bytes
  rest_at size e = ap (λ (k : ℕ). drop k (drop at bytes)) (sym e) ∙ drop-drop size at bytes

-- ---- scan
-- what is left gives the same
pub record Scanned (cap : ℕ) (bytes : List ℕ) (n : Nest) (count at : ℕ) : Type 0 where
  pub inside : at ≤ length bytes
  pub few : count ≤ at
  pub held : Held (record_fits bytes) n.room n.depth
  pub same : take_of cap zero bytes 0 outside 0 ≡ take_of cap zero (drop at bytes) at (nest_by (record_in bytes) n) count

pub scan-start : (cap : ℕ) (bytes : List ℕ) (n : Nest) → n.depth ≡ 0 → ((get : ℕ → Event) → nest_by get n ≡ outside) → Scanned cap bytes n 0 0
scan-start cap bytes n z o = record {
  inside = omega arith;
  few = omega arith;
  held = λ k h. absurd (not-suc-le-zero (subst (λ (i : ℕ). k < i) z h));
  same = ap (λ (v : Nesting). take_of cap zero bytes 0 v 0) (sym (o (record_in bytes)));
}

module _ (cap : ℕ) (bytes : List ℕ) (n : Nest) (count at : ℕ) (v : Scanned cap bytes n count at) where
  abbrev whole : Moved
  whole = take_of cap zero bytes 0 outside 0

  abbrev nest : Nesting
  nest = nest_by (record_in bytes) n

  pub scan-open : length bytes ≤ at → n.done ≡ false → moved 9 at 0 ≡ whole
  unfolding take_of nest_by
  scan-open h d = sym (v.same ∙ rw (drop_of_length-le bytes h, d))

  pub scan-done : length bytes ≤ at → n.done ≡ true → moved 0 at count ≡ whole
  unfolding take_of nest_by
  scan-done h d = sym (v.same ∙ rw (drop_of_length-le bytes h, d))

  -- the kind at this place
  module _ (role node : ℕ) (h : at < length bytes) (r : role ≡ role_of (get_or bytes at 0)) (m : node ≡ node_of (get_or bytes at 0)) where
    listed_here : (b : Bool) → is_listed role node ≡ b → first_listed (drop at bytes) ≡ b
    listed_here b l = ap (λ (k : ℕ). is_listed (role_of k) (node_of k)) (kind_at bytes at h) ∙ rw (← r, ← m) l

    size-here : first_size (drop at bytes) ≡ size_of offset role node
    size-here = ap (λ (k : ℕ). kind_size offset k) (kind_at bytes at h) ∙ rw (← r, ← m)

    pub scan-unlisted : is_listed role node ≡ false → moved 10 at 0 ≡ whole
    scan-unlisted l = sym (v.same ∙ take-unlisted cap at nest count (drop at bytes) (some_at bytes at h) (listed_here false l))

    module _ (l : is_listed role node ≡ true) (size : ℕ) (z : size ≡ size_of offset role node) where
      pub scan-short : length bytes - at < size → moved 9 at 0 ≡ whole
      scan-short g =
          let e = size-here in
          sym (v.same ∙ take_short cap at nest count (drop at bytes) (some_at bytes at h) (listed_here true l) (omega (arith, length-drop at bytes)))

      module _ (g : size ≤ length bytes - at) where
        fits : first_size (drop at bytes) ≤ length (drop at bytes)
        fits = let e = size-here in omega (arith, length-drop at bytes)

        pub scan-fits : record_fits bytes at ≡ true
        scan-fits = fits-at bytes at h fits

        -- and the event there
        module _ (x : Event) (p : x ≡ record_in bytes at) where
          fault-here : fault_of nest x ≡ fault_of nest (record_in bytes at)
          fault-here = ap (fault_of nest) p

          pub scan-fault : (q : Refused) → IsFault (Err q) (fault_of nest x) at → told (Err q) ≡ whole
          scan-fault q (f, t) =
              let e : fault_of nest (record_in bytes at) ≡ number_of q.why = sym fault-here ∙ f in
              sym (v.same
              ∙ take-fault cap at nest count (drop at bytes) (some_at bytes at h) (listed_here true l) fits (λ i. number-some q.why (sym e ∙ i))
              ∙ ap (λ (k : ℕ). moved k at 0) e
              ∙ ap (λ (j : ℕ). moved (number_of q.why) j 0) (sym t))

          module _ (b : fault_of nest x ≡ 0) where
            pub scan-full : cap ≤ count → moved 6 at 0 ≡ whole
            scan-full c = sym (v.same ∙ take-full cap at nest count (drop at bytes) (some_at bytes at h) (listed_here true l) fits (sym fault-here ∙ b) c)

            pub scan-again : (n' : Nest) → count < cap
                → ((get : ℕ → Event) → get at ≡ x → nest_by get n' ≡ after_of (nest_by get n) x)
                → ((fit : ℕ → Bool) → fit at ≡ true → Held fit n.room n.depth → Held fit n'.room n'.depth)
                → Scanned cap bytes n' (count + 1) (at + size)
            scan-again n' c nested held =
                let i = v.inside in
                let j = v.few in
                let y = size-some offset role node in
                let e : size ≡ first_size (drop at bytes) = z ∙ sym size-here in
                record {
                  inside = omega arith;
                  few = omega arith;
                  held = held (record_fits bytes) scan-fits v.held;
                  same = v.same
                      ∙ take_next cap at nest count (drop at bytes) (some_at bytes at h) (listed_here true l) fits (sym fault-here ∙ b) c
                      ∙ ap (λ (s : List ℕ). take_of cap zero s (at + first_size (drop at bytes)) (after_of nest (record_in bytes at)) (count + 1)) (rest_at bytes at h size e)
                      ∙ ap (λ (k : ℕ). take_of cap zero (drop (at + size) bytes) (at + k) (after_of nest (record_in bytes at)) (count + 1)) (sym e)
                      ∙ ap (λ (q : Event). take_of cap zero (drop (at + size) bytes) (at + size) (after_of nest q) (count + 1)) (sym p)
                      ∙ ap (λ (q : Nesting). take_of cap zero (drop (at + size) bytes) (at + size) q (count + 1)) (sym (nested (record_in bytes) (sym p)));
                }

-- ---- unpack
-- the words of the records from a place on
abbrev pub pack_from : List ℕ → ℕ → List ℕ
pack_from bytes at = pack_of (stored_of zero (drop at bytes))

-- what is left gives the same
pub record Unpacked (bytes old now : List ℕ) (at w : ℕ) : Type 0 where
  pub inside : at ≤ length bytes
  pub whole : all_whole zero (drop at bytes) ≡ true
  pub size : length now ≡ length old
  pub count : w + length (pack_from bytes at) ≡ length (pack_of (stored_of zero bytes))
  pub same : sets old 0 (pack_of (stored_of zero bytes)) ≡ sets now w (pack_from bytes at)

pub unpack-start : (bytes old : List ℕ) → all_whole zero bytes ≡ true → Unpacked bytes old old 0 0
unpack-start bytes old e = record { inside = omega arith; whole = e; size = refl; count = omega arith; same = refl }

module _ (bytes old now : List ℕ) (at w : ℕ) (v : Unpacked bytes old now at w) where
  module _ (h : at < length bytes) where
    first-left : (first_size (drop at bytes) ≤ length (drop at bytes)) × (all_whole zero (drop (first_size (drop at bytes)) (drop at bytes)) ≡ true)
    first-left = whole-first (drop at bytes) (some_at bytes at h) v.whole

    pub unpack-fits : record_fits bytes at ≡ true
    unpack-fits = fits-at bytes at h first-left.0

    module _ (x : Event) (p : x ≡ record_in bytes at) (size : ℕ) (z : size ≡ size_of offset x.role x.node) where
      size-left : size ≡ first_size (drop at bytes)
      size-left = z ∙ ap (λ (y : Event). size_of offset y.role y.node) p ∙ first-size (drop at bytes)

      pub unpack-inside : at + size ≤ length bytes
      unpack-inside = omega (arith, size-left, first-left.0, length-drop at bytes)

      pack-left : pack_from bytes at ≡ words_of x ++ pack_from bytes (at + size)
      unfolding pack_of
      pack-left =
          ap (λ (l : List Event). pack_of l) (stored-first (drop at bytes) (some_at bytes at h))
          ∙ ap (λ (y : Event). words_of y ++ pack_of (stored_of zero (drop (first_size (drop at bytes)) (drop at bytes)))) (sym p)
          ∙ ap (λ (l : List ℕ). words_of x ++ pack_of (stored_of zero l)) (rest_at bytes at h size size-left)

      count_left : w + 8 + length (pack_from bytes (at + size)) ≡ length (pack_of (stored_of zero bytes))
      count_left =
          let e = ap (λ (l : List ℕ). length l) pack-left ∙ length-append (words_of x) (pack_from bytes (at + size)) in
          omega (arith, e, v.count)

      pub unpack-room : length (pack_of (stored_of zero bytes)) ≤ length old → w + 8 ≤ length now
      unpack-room g = omega (arith, count_left, v.size)

      pub unpack-again : (now' : List ℕ) → now' ≡ sets now w (words_of x) → Unpacked bytes old now' (at + size) (w + 8)
      unpack-again now' e = record {
        inside = unpack-inside;
        whole = ap (λ (l : List ℕ). all_whole zero l) (sym (rest_at bytes at h size size-left)) ∙ first-left.1;
        size = ap (λ (l : List ℕ). length l) e ∙ length-sets now w (words_of x) ∙ v.size;
        count = count_left;
        same = v.same
            ∙ ap (λ (l : List ℕ). sets now w l) pack-left
            ∙ sets-append now w (words_of x) (pack_from bytes (at + size))
            ∙ ap (λ (l : List ℕ). sets l (w + 8) (pack_from bytes (at + size))) (sym e);
      }

  module _ (h : length bytes ≤ at) where
    none_left : pack_from bytes at ≡ []
    unfolding stored_of pack_of
    none_left = rw (drop_of_length-le bytes h)

    all_left : w ≡ length (pack_of (stored_of zero bytes))
    all_left = let e = ap (λ (l : List ℕ). length l) none_left in omega (arith, e, v.count)

    pub unpack-cleared : length (pack_of (stored_of zero bytes)) ≤ length old → w ≤ length now
    unpack-cleared g = omega (arith, all_left, v.size)

    pub unpack-end : length (pack_of (stored_of zero bytes)) ≤ length old → (last : List ℕ) → last ≡ take w now ++ replicate (length now - w) 0
        → last ≡ pack_of (stored_of zero bytes) ++ replicate (length old - length (pack_of (stored_of zero bytes))) 0
    unpack-end g last e =
        let k = pack_of (stored_of zero bytes) in
        let m : now ≡ k ++ drop (0 + length k) old = sym (v.same ∙ ap (λ (l : List ℕ). sets now w l) none_left) ∙ sets-eq k old 0 (omega arith) in
        let i : length now - w ≡ length old - length k = omega (arith, all_left, v.size) in
        e
        ∙ ap (λ (l : List ℕ). take w l ++ replicate (length now - w) 0) m
        ∙ ap (λ (l : List ℕ). l ++ replicate (length now - w) 0) (take_at k (drop (0 + length k) old) w (sym all_left))
        ∙ ap (λ (j : ℕ). k ++ replicate j 0) i

-- ---- read
module _ (bytes words : List ℕ) (a : Moved) (e : a ≡ take_of (length words / width) zero bytes 0 outside 0) where
  pub read_answer : a ≡ read_of bytes (length words)
  unfolding read_of
  read_answer = e

  pub read-refused : (a.number ≡ 0 → ⊥) → words ≡ unpacked_of bytes words
  unfolding unpacked_of
  read-refused h = rw (← read_answer, ne_eqb a.number 0 h)

  module _ (z : a.number ≡ 0) where
    pub read_whole : (all_whole zero bytes ≡ true) × (length (pack_of (stored_of zero bytes)) ≤ length words)
    read_whole =
        let t = taken (length words / width) zero bytes 0 outside 0 (sym (ap (λ (r : Moved). r.number) e) ∙ z) in
        (t.0, omega (arith, t.2 (omega arith), pack-length (stored_of zero bytes)))

    pub read_done : (last : List ℕ) → last ≡ pack_of (stored_of zero bytes) ++ replicate (length words - length (pack_of (stored_of zero bytes))) 0
        → last ≡ unpacked_of bytes words
    unfolding unpacked_of
    read_done last q = q ∙ rw (← read_answer, eq-eqb a.number 0 z)
