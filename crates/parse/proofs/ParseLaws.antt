-- The Document step by step, and what parsing leaves in each case. Assumes nothing.
use Prim.Native.Nat.{ℕ, ◌-◌, ◌*◌, ◌/◌, ◌≤◌, min}
use mathlib.Core.Path.{◌≡◌, refl, sym, ap, ◌∙◌}
use mathlib.Core.Bool.{Bool, true, false}
use mathlib.Core.List.{List, ◌++◌}
use native.Mathlib.Omega.{arith}
use lib.Dec.{ltb}
use lib.ListN.{length, take, drop, replicate, length-append, length-drop}
use lib.Seq.{take_at, length-take-le}
use borrow.Author.Tests.{eq-eqb, ne_eqb, ltb-false}
use Rattle.classes.specs.Choice.{pick}
use Rattle.std.specs.Prelude.{Ok, Err}
use Rattle.lines.specs.Lines.{Split, lines_of, words_of, spans_of, filled, split_of, split_words, refusal}
use Rattle.refusals.specs.Numbers.{number_of}
use Rattle.refusals.specs.declared.Refusal.{Refusal}
use Rattle.refusals.specs.declared.Refusal.TheVariants.{TextTooLong, LinesFull}
use Rattle.lines.proofs.SpanLaws.{word_count, spans-of-words}
use Rattle.events.specs.State.{State}
use Rattle.events.specs.Events.{enter_of}
use Rattle.events.specs.View.{view}
use Rattle.events.specs.declared.St.{St}
use Rattle.events.specs.declared.Node.{Node}
use Rattle.events.proofs.GoLaws.{go_on, go-stop}
use Rattle.walk.specs.Leaf.{node}
use Rattle.walk.specs.Tree.{blocks_at}
use Rattle.walk.specs.Document.{start, close_all, document_of}
use Rattle.parse.specs.Parse.{outcome, capped_of, finish, parse_of}
use Rattle.walk.specs.declared.Limits.{Limits}
use Rattle.parse.specs.Shows.{Shows}

-- ---- the Document
pub shows : (r : St) (e k l v : List ℕ) (s : State) → r.words ≤ length e → view r e k l v ≡ s → Shows r e s
shows r e k l v s h p = record {
  words = h;
  evs = ap (λ (x : State). x.evs) p;
  looks = ap (λ (x : State). x.looks) p;
  place = ap (λ (x : State). x.at) p;
  number = ap (λ (x : State). x.number) p;
}

module _ (text : List ℕ) (lim : Limits) (s a : State) (x : Node) (ex : x ≡ node 1 0 0 0 0 0 0) (b : State) (eb : b ≡ s) (p : a ≡ enter_of x b) where
  entered : a ≡ enter_of (node 1 0 0 0 0 0 0) s
  entered = p ∙ rw (ex, eb)

  pub document-1 : (a.number ≡ 0 → ⊥) → a ≡ document_of text lim s
  unfolding document_of
  document-1 z = sym (rw (← entered) (go-stop a _ z))

  module _ (za : a.number ≡ 0) (ws : List ℕ) (ew : spans_of ws ≡ lines_of text) (c : State) (q : c ≡ blocks_at text lim lim.nesting true (spans_of ws) a) where
    walked : c ≡ blocks_at text lim lim.nesting true (lines_of text) a
    walked = q ∙ rw ew

    pub document-2 : (c.number ≡ 0 → ⊥) → c ≡ document_of text lim s
    unfolding document_of
    document-2 z = sym (rw (← entered) (go_on a _ za ∙ rw (← walked) (go-stop c _ z)))

    pub document-3 : c.number ≡ 0 → close_all (length text) c ≡ document_of text lim s
    unfolding document_of
    document-3 z = sym (rw (← entered) (go_on a _ za ∙ rw (← walked) (go_on c _ z)))

-- ---- the words that splitting leaves
abbrev count_in : Split → ℕ
count_in (Ok n) = n
count_in (Err r) = 0

module _ (text ws : List ℕ) (limit n : ℕ) (e : Ok n ≡ split_of text limit (length ws)) where
  pub split-count : (n ≡ length (lines_of text)) × (length text ≤ limit) × (2 * n ≤ length ws)
  unfolding split_of
  split-count = by_length (ltb limit (length text)) refl e
    where
      by-room : (b : Bool) → ltb (length ws) (2 * length (lines_of text)) ≡ b → length text ≤ limit → Ok n ≡ pick b (Err LinesFull) (Ok (length (lines_of text)))
          → (n ≡ length (lines_of text)) × (length text ≤ limit) × (2 * n ≤ length ws)
      by-room true p h q = let z : ◌≡◌ {A = ℕ} 0 2 = ap (λ (x : Split). refusal x) q in absurd (omega arith)
      by-room false p h q = let c : n ≡ length (lines_of text) = ap (λ (x : Split). count_in x) q in (c, h, rw c (ltb-false (length ws) (2 * length (lines_of text)) p))

      by_length : (b : Bool) → ltb limit (length text) ≡ b → Ok n ≡ pick b (Err TextTooLong) (pick (ltb (length ws) (2 * length (lines_of text))) (Err LinesFull) (Ok (length (lines_of text))))
          → (n ≡ length (lines_of text)) × (length text ≤ limit) × (2 * n ≤ length ws)
      by_length true p q = let z : ◌≡◌ {A = ℕ} 0 1 = ap (λ (x : Split). refusal x) q in absurd (omega arith)
      by_length false p q = by-room (ltb (length ws) (2 * length (lines_of text))) refl (ltb-false limit (length text) p) q

  -- the lines stand first among the words
  pub split-spans : spans_of (take (2 * n) (split_words text limit ws)) ≡ lines_of text
  unfolding split_words
  split-spans =
      let c = split-count.0 in
      let k : length (words_of (lines_of text)) ≡ 2 * n = word_count (lines_of text) ∙ rw c in
      let f : filled text ws (split_of text limit (length ws)) ≡ words_of (lines_of text) ++ drop (2 * n) ws = rw (← e) in
      rw (f, take_at (words_of (lines_of text)) (drop (2 * n) ws) (2 * n) k) (spans-of-words (lines_of text))

-- ---- what parsing leaves
pub capped_is : (lim : Limits) (n m : ℕ) → n ≡ min lim.nesting 32 → m ≡ min lim.sections 32 → record { nesting = n; sections = m } ≡ capped_of lim
capped_is lim n m p q = rw (p, q)

-- the walk within these limits, in so many lent words
abbrev pub walked_by : List ℕ → ℕ → Limits → State
walked_by text room lim = document_of text lim (start room lim.nesting)

module _ (limit : ℕ) (lim : Limits) (text ws ev : List ℕ) where
  module _ (r : Refusal) (e : Err r ≡ split_of text limit (length ws)) where
    pub parse-unsplit : parse_of limit lim text ws ev ≡ outcome (number_of r) 0 0 0 ws ev
    unfolding parse_of
    parse-unsplit = rw (← e)

    pub words-unsplit : split_words text limit ws ≡ ws
    unfolding split_words
    words-unsplit = rw (← e)

  module _ (n : ℕ) (e : Ok n ≡ split_of text limit (length ws)) (st : St) (ev' : List ℕ) (k : length ev' ≡ length ev)
      (h : Shows st ev' (walked_by text (length ev) (capped_of lim))) where
    pub parse-refused : (st.number ≡ 0 → ⊥) → parse_of limit lim text ws ev ≡ outcome st.number st.at 0 0 (replicate (length ws) 0) (replicate (length ev) 0)
    unfolding parse_of finish
    parse-refused z = rw (← e, ← h.number, ne_eqb st.number 0 z, ← h.place)

    pub parse-done : st.number ≡ 0
        → parse_of limit lim text ws ev ≡ outcome 0 (length text) (st.words / 8) st.looks (replicate (length ws) 0) (take st.words ev' ++ replicate (length ev' - st.words) 0)
    unfolding parse_of finish
    parse-done z =
        let w : length (take st.words ev') ≡ st.words = length-take-le st.words ev' h.words in
        rw (← e, ← h.number, eq-eqb st.number 0 z, ← h.looks, ← h.evs, w, k)

-- ---- words that are cleared
pub cleared : (ws xs ys : List ℕ) → ys ≡ take 0 xs ++ replicate (length xs - 0) 0 → length xs ≡ length ws → ys ≡ replicate (length ws) 0
cleared ws xs ys p q =
    let e : length xs - 0 ≡ length ws = omega arith in
    p ∙ rw e

-- words whose first n were lent have their length
pub rejoined : (ws ys : List ℕ) (n : ℕ) → length ys ≡ length (take n ws) → n ≤ length ws → length (ys ++ drop n ws) ≡ length ws
rejoined ws ys n p h = length-append ys (drop n ws) ∙ omega (arith, p, length-take-le n ws h, length-drop n ws)
