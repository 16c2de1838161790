-- A text parsed again: the answer does not depend on what the lent words held, and they are wiped. Assumes nothing.
use Prim.Native.Nat.{ℕ, zero, suc, ◌+◌, ◌-◌, ◌*◌, ◌/◌, ◌≤◌, ◌<◌, min}
use mathlib.Core.Path.{◌≡◌, refl, sym, ap, ap₂, subst, ◌∙◌}
use mathlib.Core.Bool.{Bool, true, false, false≢true}
use mathlib.Core.List.{List, ◌++◌, append-nil}
use native.Mathlib.Omega.{arith}
use lib.Dec.{eqb, leb}
use lib.ListN.{length, take, drop, replicate, length-append, length-replicate, replicate-append-replicate, drop_of_length-le}
use lib.Seq.{drop-length, drop-append-add, length-take-le}
use borrow.Author.Tests.{eq-eqb, ne_eqb, le-leb, lt-leb, leb-true, leb-false}
use Rattle.classes.specs.Choice.{pick}
use Rattle.std.specs.Prelude.{Ok, Err}
use Rattle.refusals.proofs.NumberLaws.{number-some}
use Rattle.lines.specs.Lines.{Split, split_of}
use Rattle.events.specs.State.{State}
use Rattle.events.specs.Events.{width}
use Rattle.events.specs.Pack.{all_of, live_in}
use Rattle.walk.specs.Document.{start, document_of}
use Rattle.walk.specs.declared.Limits.{Limits}
use Rattle.parse.specs.Parse.{Outcome, outcome, capped_of, finish, parse_by, parse_of}
use Rattle.parse.specs.declared.Answer.{Answer}
use Rattle.tops.specs.Places.{places_of, put_in}
use Rattle.tops.proofs.PlaceLaws.{put-behind}
use Rattle.editions.specs.Editions.{fault, against_of, again_of, fault_of}
use Rattle.editions.specs.View.{zeroed_of, used_by, wiped_of, Held, Rechecks}
use Rattle.editions.specs.declared.Fault.{Fault}
use Rattle.editions.specs.declared.Rechecked.{Rechecked}
use Rattle.editions.proofs.HoldLaws.{places-given, places-room}

-- ---- an accepted parse leaves zero line words, and zeros behind its events
pub record Accepted (l e : ℕ) (o : Outcome) : Type 0 where
  pub evs : List ℕ
  pub count : o.answer.count ≡ length evs / width
  pub lines : o.lines ≡ replicate l 0
  pub events : o.events ≡ evs ++ replicate (e - length evs) 0

-- two outcomes of one text in as many words: the same answer, and the same words where it is accepted
pub record Alike (l e : ℕ) (o z : Outcome) : Type 0 where
  pub answer : o.answer ≡ z.answer
  pub events : o.answer.number ≡ 0 → o.events ≡ z.events
  pub accepted : o.answer.number ≡ 0 → Accepted l e o

finish-accepted : (len l e : ℕ) (s : State) → (finish len l e s).answer.number ≡ 0 → Accepted l e (finish len l e s)
unfolding finish
finish-accepted len l e s = by-case (eqb s.number 0) refl
  where
    accepted : Outcome
    accepted = outcome 0 len (length s.evs / width) s.looks (replicate l 0) (s.evs ++ replicate (e - length s.evs) 0)

    refused : Outcome
    refused = outcome s.number s.at 0 0 (replicate l 0) (replicate e 0)

    by-case : (b : Bool) → eqb s.number 0 ≡ b → (pick b accepted refused).answer.number ≡ 0 → Accepted l e (pick b accepted refused)
    by-case true p z = record { evs = s.evs; count = refl; lines = refl; events = refl }
    by-case false p z = absurd (false≢true (sym p ∙ eq-eqb s.number 0 z))

split-alike : (lim : Limits) (text lines events : List ℕ) (x : Split)
    → Alike (length lines) (length events) (parse_by lim text lines events x) (parse_by lim text (replicate (length lines) 0) (replicate (length events) 0) x)
split-alike lim text lines events (Err r) = record { answer = refl; events = λ z. absurd (number-some r z); accepted = λ z. absurd (number-some r z) }
split-alike lim text lines events (Ok n) =
    let o = parse_by lim text lines events (Ok n) in
    let same : o ≡ parse_by lim text (replicate (length lines) 0) (replicate (length events) 0) (Ok n) =
    ap₂ (λ (l e : ℕ). finish (length text) l e (document_of text lim (start e lim.nesting))) (sym (length-replicate {A = ℕ} (length lines) 0)) (sym (length-replicate {A = ℕ} (length events) 0)) in
    record { answer = ap (λ (p : Outcome). p.answer) same; events = λ z. ap (λ (p : Outcome). p.events) same; accepted = finish-accepted (length text) (length lines) (length events) _ }

pub again-alike : (limit : ℕ) (lim : Limits) (text lines events : List ℕ)
    → Alike (length lines) (length events) (parse_of limit lim text lines events) (again_of limit lim (length lines) (length events) text)
unfolding parse_of
again-alike limit lim text lines events =
    let room = length-replicate {A = ℕ} (length lines) 0 in
    subst (λ (k : ℕ). Alike (length lines) (length events) (parse_by (capped_of lim) text lines events (split_of text limit (length lines)))
    (parse_by (capped_of lim) text (replicate (length lines) 0) (replicate (length events) 0) (split_of text limit k))) (sym room)
    (split-alike (capped_of lim) text lines events (split_of text limit (length lines)))

-- ---- the words of an accepted parse
pub drop-zeros : (i n : ℕ) → ◌≡◌ {A = List ℕ} (drop i (replicate n 0)) (replicate (n - i) 0)
drop-zeros zero n = let k : n ≡ n - 0 = omega arith in ap (λ (m : ℕ). replicate {A = ℕ} m 0) k
drop-zeros (suc i) zero = let k : 0 ≡ 0 - suc i = omega arith in ap (λ (m : ℕ). replicate {A = ℕ} m 0) k
drop-zeros (suc i) (suc n) =
    let k : n - i ≡ suc n - suc i = omega arith in
    drop-zeros i n ∙ ap (λ (m : ℕ). replicate {A = ℕ} m 0) k

module _ (l e : ℕ) (o : Outcome) (a : Accepted l e o) (words : List ℕ) (w : words ≡ o.events) (k : length words ≡ e) where
  pub used-fits : width * o.answer.count ≤ length words
  used-fits =
      let n = ap (λ (v : List ℕ). length v) (w ∙ a.events) ∙ length-append a.evs (replicate (e - length a.evs) 0) in
      omega (arith, a.count, n, k, length-replicate {A = ℕ} (e - length a.evs) 0)

  pub wiped-zeros : wiped_of o.answer.count words ≡ replicate e 0
  wiped-zeros = by-case (leb (length words / width) o.answer.count) refl
    where
      wiped : ℕ → List ℕ
      wiped i = replicate i 0 ++ drop i words

      by-case : (b : Bool) → leb (length words / width) o.answer.count ≡ b → wiped (pick b (length words) ((o.answer.count + 1) * width)) ≡ replicate e 0
      by-case true p = ap (λ (v : List ℕ). replicate (length words) 0 ++ v) (drop-length words) ∙ append-nil (replicate (length words) 0) ∙ ap (λ (n : ℕ). replicate n 0) k
      by-case false p =
          let i = (o.answer.count + 1) * width in
          let m = length a.evs in
          let h = leb-false (length words / width) o.answer.count p in
          let j : m + (i - m) ≡ i = omega (arith, a.count) in
          let n : i + (e - m - (i - m)) ≡ e = omega (arith, a.count, h, k) in
          ap (λ (v : List ℕ). replicate i 0 ++ v)
          (ap (drop i) (w ∙ a.events) ∙ ap (λ (x : ℕ). drop x (a.evs ++ replicate (e - m) 0)) (sym j) ∙ drop-append-add a.evs (replicate (e - m) 0) (i - m) ∙ drop-zeros (i - m) (e - m))
          ∙ replicate-append-replicate i (e - m - (i - m)) 0 ∙ ap (λ (x : ℕ). replicate x 0) n

-- ---- zeros in place of the first words
pub zero-front : (n m : ℕ) (words : List ℕ) → m ≡ min n (length words) → (last : List ℕ)
    → last ≡ take 0 (take m words) ++ replicate (length (take m words) - 0) 0 → last ++ drop m words ≡ zeroed_of n words
zero-front n m words e last p =
    let k : length (take m words) - 0 ≡ min n (length words) = omega (arith, e, length-take-le m words (omega (arith, e))) in
    ap₂ (λ (l r : List ℕ). l ++ r) (p ∙ ap (λ (i : ℕ). replicate {A = ℕ} i 0) k) (by-case (leb n (length words)) refl)
  where
    by-case : (b : Bool) → leb n (length words) ≡ b → drop m words ≡ drop n words
    by-case true h =
        let j : m ≡ n = omega (arith, e, leb-true n (length words) h) in
        ap (λ (i : ℕ). drop i words) j
    by-case false h =
        let j = leb-false n (length words) h in
        drop_of_length-le words {i = m} (omega (arith, e, j)) ∙ sym (drop_of_length-le words {i = n} (omega (arith, j)))

-- words of which the first n were written over zeros
pub zeroed-zeros : (n l : ℕ) (words before : List ℕ) → length words ≡ l → before ≡ replicate l 0 → drop n words ≡ drop n before → zeroed_of n words ≡ replicate l 0
zeroed-zeros n l words before k z d =
    let j : min n (length words) + (l - n) ≡ l = omega (arith, k) in
    ap (λ (v : List ℕ). replicate (min n (length words)) 0 ++ v) (d ∙ ap (drop n) z ∙ drop-zeros n l) ∙ replicate-append-replicate (min n (length words)) (l - n) 0
    ∙ ap (λ (x : ℕ). replicate {A = ℕ} x 0) j

pub wiped-nothing : (e : ℕ) → wiped_of 0 (replicate e 0) ≡ replicate e 0
wiped-nothing e = all (used_by 0 (replicate e 0)) (within (leb (length (replicate {A = ℕ} e 0) / width) 0) refl)
  where
    size : length (replicate {A = ℕ} e 0) ≡ e
    size = length-replicate {A = ℕ} e 0

    within : (b : Bool) → leb (length (replicate {A = ℕ} e 0) / width) 0 ≡ b → pick b (length (replicate {A = ℕ} e 0)) ((0 + 1) * width) ≤ e
    within true h = omega (arith, size)
    within false h = omega (arith, size, leb-false (length (replicate {A = ℕ} e 0) / width) 0 h)

    all : (i : ℕ) → i ≤ e → ◌≡◌ {A = List ℕ} (replicate {A = ℕ} i 0 ++ drop i (replicate {A = ℕ} e 0)) (replicate e 0)
    all i h =
        let j : i + (e - i) ≡ e = omega (arith, h) in
        ap (λ (v : List ℕ). replicate i 0 ++ v) (drop-zeros i e) ∙ replicate-append-replicate i (e - i) 0 ∙ ap (λ (x : ℕ). replicate {A = ℕ} x 0) j

-- ---- zeros in place of events
pub wipe-all : (count : ℕ) (words : List ℕ) → length words / width ≤ count → (last : List ℕ) → last ≡ take 0 words ++ replicate (length words - 0) 0 → last ≡ wiped_of count words
wipe-all count words h last e =
    let k : length words - 0 ≡ length words = omega arith in
    let m = ap (λ (i : ℕ). replicate {A = ℕ} i 0) k ∙ sym (append-nil (replicate (length words) 0)) ∙ ap (λ (v : List ℕ). replicate (length words) 0 ++ v) (sym (drop-length words)) in
    e ∙ rw (le-leb (length words / width) count h) m

pub wipe-front : (count : ℕ) (words : List ℕ) → count < length words / width → (last : List ℕ)
    → let n = (count + 1) * width in last ≡ take 0 (take n words) ++ replicate (length (take n words) - 0) 0 → last ++ drop n words ≡ wiped_of count words
wipe-front count words h last e =
    let n = (count + 1) * width in
    let k : length (take n words) - 0 ≡ n = omega (arith, h, length-take-le n words (omega (arith, h))) in
    let m = e ∙ ap (λ (i : ℕ). replicate {A = ℕ} i 0) k in
    rw (lt-leb (length words / width) count h) (ap (λ (v : List ℕ). v ++ drop n words) m)

-- ---- what is wrong with an edition
module _ (limit : ℕ) (lim : Limits) (text given lines events : List ℕ) (r : Answer) (p : r ≡ (parse_of limit lim text lines events).answer) where
  abbrev l : ℕ
  l = length lines

  abbrev e : ℕ
  e = length events

  pub fault-refused : (r.number ≡ 0 → ⊥) → fault r.number r.position ≡ fault_of limit lim l e text given
  unfolding fault_of
  fault-refused z =
      let q = p ∙ (again-alike limit lim text lines events).answer in
      rw (← q, ne_eqb r.number 0 z)

  module _ (z : r.number ≡ 0) (words : List ℕ) (w : words ≡ (parse_of limit lim text lines events).events) (k : length words ≡ e) where
    taken : Accepted l e (parse_of limit lim text lines events)
    taken = (again-alike limit lim text lines events).accepted (ap (λ (a : Answer). a.number) (sym p) ∙ z)

    pub again-fits : r.count * width ≤ length words
    again-fits = omega (arith, used-fits l e (parse_of limit lim text lines events) taken words w k, ap (λ (a : Answer). a.count) p)

    pub again-lines : (ws : List ℕ) → ws ≡ (parse_of limit lim text lines events).lines → ws ≡ replicate l 0
    again-lines ws v = v ∙ taken.lines

    pub again-wiped : wiped_of r.count words ≡ replicate e 0
    again-wiped = ap (λ (a : Answer). wiped_of a.count words) p ∙ wiped-zeros l e (parse_of limit lim text lines events) taken words w k

  pub fault-against : r.number ≡ 0 → (words : List ℕ) → words ≡ (parse_of limit lim text lines events).events → (n : ℕ) → n ≡ r.count * width
      → against_of 0 (all_of given) (live_in (take n words)) ≡ fault_of limit lim l e text given
  unfolding fault_of
  fault-against z words w n m =
      let s = again-alike limit lim text lines events in
      let q = p ∙ s.answer in
      let v = w ∙ s.events (ap (λ (a : Answer). a.number) (sym p) ∙ z) in
      let k : n ≡ width * r.count = omega (arith, m) in
      rw (← q, eq-eqb r.number 0 z) (ap₂ (λ (i : ℕ) (ws : List ℕ). against_of 0 (all_of given) (live_in (take i ws))) k v)

  -- what is known after a refusal, and after the events were held to the parse's
  pub recheck-refused : (r.number ≡ 0 → ⊥) → (ws es : List ℕ) → ws ≡ replicate l 0 → es ≡ replicate e 0
      → Rechecks limit lim text given l e (record { number = r.number; position = r.position; count = 0; blocks = 0 }) ws es
  recheck-refused z ws es u v = record {
    answer = fault-refused z;
    lines-zeroed = zeroed-zeros 0 l ws ws (ap (λ (x : List ℕ). length x) u ∙ length-replicate {A = ℕ} l 0) u refl;
    events-wiped = ap (wiped_of 0) v ∙ wiped-nothing e;
    room = λ y. absurd (z y);
    blocks = λ y. absurd (z y);
    places = λ y. absurd (z y);
  }

  module _ (z : r.number ≡ 0) (words : List ℕ) (w : words ≡ (parse_of limit lim text lines events).events) (k : length words ≡ e) (n : ℕ) (m : n ≡ r.count * width)
      (before : List ℕ) (u : before ≡ (parse_of limit lim text lines events).lines) (ws : List ℕ) (v : length ws ≡ length before) (s : Rechecked) where
    pub recheck-held : Held given (take n words) before s ws → Rechecks limit lim text given l e s ws words
    recheck-held j =
        let zeros = again-lines z words w k before u in
        let size : length (take n words) ≡ r.count * width = length-take-le n words (omega (arith, m, again-fits z words w k)) ∙ m in
        let counted : s.count ≡ r.count = omega (arith, j.count, size) in
        let sound : s.number ≡ 0 → (against_of 0 (all_of given) (live_in (take n words))).number ≡ 0 = λ y. ap (λ (f : Fault). f.number) (sym j.answer) ∙ y in
        let ps = places_of (all_of (take n words)) in
        let behind = ap₂ (λ (i : ℕ) (x : List ℕ). drop i x) j.blocks j.places ∙ put-behind ps before ∙ ap (λ (i : ℕ). drop i before) (sym j.blocks) in
        record {
          answer = j.answer ∙ fault-against z words w n m;
          lines-zeroed = zeroed-zeros s.blocks l ws before (omega (arith, v, ap (λ (x : List ℕ). length x) zeros, length-replicate {A = ℕ} l 0)) zeros behind;
          events-wiped = ap (λ (i : ℕ). wiped_of i words) counted ∙ again-wiped z words w k;
          room = λ y. omega (arith, places-room given (take n words) (sound y), size, again-fits z words w k, k);
          blocks = λ y. j.blocks ∙ ap (λ (x : List ℕ). length x) (sym (places-given given (take n words) (sound y)));
          places = λ y. j.places ∙ ap₂ (put_in 0) (sym (places-given given (take n words) (sound y))) zeros;
        }
