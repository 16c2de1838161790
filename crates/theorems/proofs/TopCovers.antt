-- The top-level blocks of every accepted text, one after another, are the text (RULES Z1). Assumes nothing.
use mathlib.Core.Path.{◌≡◌, sym, ap, subst, ◌∙◌}
use mathlib.Core.List.{List, [], ◌∷◌, ◌++◌}
use Prim.Native.Nat.{ℕ, zero, suc, ◌+◌, ◌-◌, ◌*◌, ◌/◌, ◌≤◌, ◌<◌}
use native.Mathlib.Nat.{sub-zero}
use native.Mathlib.Omega.{arith}
use lib.Dec.{eqb}
use lib.ListN.{length, take, drop, replicate, take-append-drop}
use lib.Seq.{drop-length, drop-drop, take-add}
use borrow.Author.Tests.{eqb-true, eqb-false}
use Rattle.trim.specs.Trim.{part_of}
use Rattle.trim.proofs.TrimLaws.{part_none}
use Rattle.events.specs.Events.{width}
use Rattle.events.specs.Pack.{all_of}
use Rattle.events.specs.Names.{largest}
use Rattle.tops.specs.Tops.{starts_of, first_or, blocks_of}
use Rattle.walk.specs.Document.{start, document_of}
use Rattle.walk.specs.declared.Limits.{Limits}
use Rattle.parse.specs.Parse.{Outcome, outcome, capped_of, finish, parse_of}
use Rattle.editions.proofs.RunLaws.{blocks-drop}
use Rattle.theorems.specs.Covers.{Rising, Covers, joined}
use Rattle.theorems.proofs.Proper.{of-pick}
use Rattle.theorems.proofs.TreeLaws.{document-walks}
use Rattle.theorems.proofs.Sound.{walked-words, of-parse}
use Rattle.theorems.proofs.TopRun.{document-tops}

-- ---- the parser's answer
-- if it accepts, the blocks in its events cover the text
abbrev Covered : List ℕ → Outcome → Type 0
Covered text a = a.answer.number ≡ 0 → Covers (length text) (starts_of text (all_of (take (width * a.answer.count) a.events)))

finished-covers : (lim : Limits) (text lines events : List ℕ)
    → Covered text (finish (length text) (length lines) (length events) (document_of text (capped_of lim) (start (length events) (capped_of lim).nesting)))
unfolding finish
finished-covers lim text lines events =
    let s = document_of text (capped_of lim) (start (length events) (capped_of lim).nesting) in
    let rest : List ℕ = replicate (length events - length s.evs) 0 in
    of-pick (Covered text) (eqb s.number 0)
    (outcome 0 (length text) (length s.evs / 8) s.looks (replicate (length lines) 0) (s.evs ++ rest))
    (outcome s.number s.at 0 0 (replicate (length lines) 0) (replicate (length events) 0))
    (λ e z.
    let n = eqb-true s.number 0 e in
    let w = walked-words text rest s (document-walks text (capped_of lim) (length events) (omega arith) n) in
    subst (λ (l : List ℕ). Covers (length text) (starts_of text (all_of l))) (sym w) (document-tops text (capped_of lim) (length events) (omega arith) n))
    (λ e z. absurd (eqb-false s.number 0 e z))

pub parse-covers : (lim : Limits) (text lines events : List ℕ) → let a = parse_of largest lim text lines events in a.answer.number ≡ 0
    → Covers (length text) (starts_of text (all_of (take (width * a.answer.count) a.events)))
parse-covers lim text lines events =
    of-parse (Covered text) lim text lines events (λ z. absurd (omega arith)) (λ z. absurd (omega arith)) (λ len. finished-covers lim text lines events)

-- ---- places that rise
module _ (end : ℕ) where
  first_on : (ss : List ℕ) (k : ℕ) → Rising end ss → first_or end ss ≤ first_or end (drop k ss)
  first_on ss zero r = omega arith
  first_on [] (suc k) r = omega arith
  first_on (s ∷ ss) (suc k) r = omega (arith, r.0, first_on ss k r.1)

  first-end : (ss : List ℕ) → Rising end ss → first_or end ss ≤ end
  first-end [] r = omega arith
  first-end (s ∷ ss) r = omega (arith, r.0, first-end ss r.1)

  rising-drop : (k : ℕ) (ss : List ℕ) → Rising end ss → Rising end (drop k ss)
  rising-drop zero ss r = r
  rising-drop (suc k) [] r = tt
  rising-drop (suc k) (s ∷ ss) r = rising-drop k ss r.1

  pub places-end : (k : ℕ) (ss : List ℕ) → Rising end ss → first_or end (drop k ss) ≤ end
  places-end k ss r = first-end (drop k ss) (rising-drop k ss r)

  pub places-on : (j k : ℕ) (ss : List ℕ) → j ≤ k → Rising end ss → first_or end (drop j ss) ≤ first_or end (drop k ss)
  places-on j k ss h r =
      let z : j + (k - j) ≡ k = omega arith in
      subst (λ (l : List ℕ). first_or end (drop j ss) ≤ first_or end l) (drop-drop (k - j) j ss ∙ ap (λ (n : ℕ). drop n ss) z) (first_on (drop j ss) (k - j) (rising-drop j ss r))

  pub places-rise : (k : ℕ) (ss : List ℕ) → k < length ss → Rising end ss → first_or end (drop k ss) < first_or end (drop (suc k) ss)
  places-rise k [] h r = absurd (omega arith)
  places-rise zero (s ∷ ss) h r = r.0
  places-rise (suc k) (s ∷ ss) h r = places-rise k ss (omega arith) r.1

-- ---- the blocks' bytes
part_join : (t : List ℕ) (a b e : ℕ) → a ≤ b → b ≤ e → part_of t a b ++ part_of t b e ≡ part_of t a e
unfolding part_of
part_join t a b e h k =
    let z : a + (b - a) ≡ b = omega arith in
    let w : b - a + (e - b) ≡ e - a = omega arith in
    ap (λ (l : List ℕ). take (b - a) (drop a t) ++ take (e - b) l) (ap (λ (n : ℕ). drop n t) (sym z) ∙ sym (drop-drop (b - a) a t))
    ∙ sym (take-add (b - a) (e - b) (drop a t)) ∙ ap (λ (n : ℕ). take n (drop a t)) w

module _ (text : List ℕ) where
  abbrev end : ℕ
  end = length text

  -- the first k blocks go on to the next one
  front-joined : (k : ℕ) (ss : List ℕ) → Rising end ss → joined (take k (blocks_of text ss)) ≡ part_of text (first_or end ss) (first_or end (drop k ss))
  unfolding joined blocks_of
  front-joined zero ss r = part_none text (first_or end ss) (first_or end ss) (omega arith)
  front-joined (suc k) [] r = part_none text end end (omega arith)
  front-joined (suc k) (s ∷ ss) r =
      ap (λ (l : List ℕ). part_of text s (first_or end ss) ++ l) (front-joined k ss r.1)
      ∙ part_join text s (first_or end ss) (first_or end (drop k ss)) (omega (arith, r.0)) (first_on end ss k r.1)

  -- all of them go on to the end
  all-joined : (ss : List ℕ) → Rising end ss → joined (blocks_of text ss) ≡ drop (first_or end ss) text
  unfolding joined blocks_of part_of
  all-joined [] r = sym (drop-length text)
  all-joined (s ∷ ss) r =
      let f = first_or end ss in
      let h = r.0 in
      let z : s + (f - s) ≡ f = omega arith in
      ap (λ (l : List ℕ). take (f - s) (drop s text) ++ l) (all-joined ss r.1 ∙ ap (λ (n : ℕ). drop n text) (sym z) ∙ sym (drop-drop (f - s) s text))
      ∙ take-append-drop (f - s) (drop s text)

  module _ (ss : List ℕ) (c : Covers end ss) where
    -- the blocks before the k-th are the bytes before it, those from it on the bytes from there on
    pub covers-before : (k : ℕ) → joined (take k (blocks_of text ss)) ≡ take (first_or end (drop k ss)) text
    unfolding part_of
    covers-before k = let q = first_or end (drop k ss) in front-joined k ss c.rising ∙ ap (λ (p : ℕ). take (q - p) (drop p text)) c.first ∙ rw sub-zero

    pub covers-behind : (k : ℕ) → joined (drop k (blocks_of text ss)) ≡ drop (first_or end (drop k ss)) text
    covers-behind k = ap joined (sym (blocks-drop text ss k)) ∙ all-joined (drop k ss) (rising-drop end k ss c.rising)

    -- k blocks from the j-th on
    pub covers-between : (j k : ℕ) → joined (take k (drop j (blocks_of text ss))) ≡ part_of text (first_or end (drop j ss)) (first_or end (drop (j + k) ss))
    covers-between j k =
        ap (λ (l : List (List ℕ)). joined (take k l)) (sym (blocks-drop text ss j)) ∙ front-joined k (drop j ss) (rising-drop end j ss c.rising)
        ∙ ap (λ (l : List ℕ). part_of text (first_or end (drop j ss)) (first_or end l)) (drop-drop k j ss)

    pub covers-blocks : joined (blocks_of text ss) ≡ text
    covers-blocks = all-joined ss c.rising ∙ ap (λ (p : ℕ). drop p text) c.first
