-- Counting at the front and the end, parts, and spans. Assumes nothing.
use mathlib.Core.Path.{◌≡◌, refl, ◌∙◌, sym, ap}
use mathlib.Core.Bool.{Bool, true, false}
use mathlib.Core.List.{List, [], ◌∷◌, ◌++◌}
use Prim.Native.Nat.{ℕ, zero, suc, min, ◌+◌, ◌-◌, ◌≤◌, ◌<◌}
use native.Mathlib.Omega.{arith}
use lib.Dec.{eqb, ltb, leb}
use lib.ListN.{length, take, drop, get_or, length-take, length-drop, drop_of_length-le}
use lib.Seq.{take_all, length-take-le, take-nil, drop-drop, take-take}
use borrow.Author.Tests.{ltb-false, leb-true, leb-false, not-true, not-false, eq-eqb, ne_eqb}
use Rattle.std.proofs.Common.{◌⊎◌, cond, not, Option, Some, None, MatchOption, Bor, position}
use Rattle.std.specs.Option.{unwrap_or}
use Rattle.std.specs.List.{position_or_len}
use Rattle.std.proofs.lemmas.List.Recursion.{is_position_or_len}
use Rattle.classes.proofs.ListLaws.{drop-next, drop-take}
use Rattle.classes.specs.Choice.{pick}
use Rattle.classes.specs.Classes.{is_space}
use Rattle.classes.specs.Last.{IsLast}
use Rattle.lines.specs.Lines.{span}
pub use Rattle.lines.proofs.PlaceLaws.{whole_drop}
use Rattle.trim.specs.Trim.{front, is_gap, lead, kept, trim_start, trim_end, trim_both, part_of, trim_span}

-- ---- the bytes at the front that pass a test
module _ (f : ℕ → Bool) where
  pub front-on : (s : List ℕ) (i : ℕ) → i < length s → f (get_or s i 0) ≡ true → front f (drop i s) ≡ suc (front f (drop (i + 1) s))
  unfolding front
  front-on s i h e = rw (drop-next s i, e)

  pub front-stop : (s : List ℕ) (i : ℕ) → i < length s → f (get_or s i 0) ≡ false → front f (drop i s) ≡ 0
  unfolding front
  front-stop s i h e = rw (drop-next s i, e)

  pub front-end : (s : List ℕ) (i : ℕ) → length s ≤ i → front f (drop i s) ≡ 0
  unfolding front
  front-end s i h = rw (drop_of_length-le s h)

  pub front-le : (s : List ℕ) → front f s ≤ length s
  unfolding front
  front-le [] = omega arith
  front-le (b ∷ bs) = by-case (f b) (front-le bs)
    where
      by-case : (t : Bool) → front f bs ≤ length bs → pick t (suc (front f bs)) 0 ≤ suc (length bs)
      by-case true h = omega arith
      by-case false h = omega arith

  -- where a search ends for the first that fails it
  front_none : front f [] ≡ 0
  unfolding front
  front_none = refl

  front_next : (x : ℕ) (s : List ℕ) → front f (x ∷ s) ≡ cond (not (f x)) 0 (1 + front f s)
  unfolding front
  front_next x s = by-case (f x)
    where
      by-case : (t : Bool) → pick t (suc (front f s)) 0 ≡ cond (not t) 0 (1 + front f s)
      by-case true = omega arith
      by-case false = refl

  front_is : (s : List ℕ) → front f s ≡ position_or_len (λ x. not (f x)) s
  front_is = is_position_or_len (front f) (λ x. not (f x)) front_none front_next

  pub front-found : (s : List ℕ) (r : Option ℕ) → r ≡ position (λ x. not (f x)) s → unwrap_or r (length s) ≡ front f s
  front-found s r e = rw (e, ← front_is s) (by-test (ltb (front f s) (length s)) refl)
    where
      by-test : (t : Bool) → ltb (front f s) (length s) ≡ t → unwrap_or (cond t (Some (front f s)) None) (length s) ≡ front f s
      by-test true q = refl
      by-test false q = omega (arith, ltb-false (front f s) (length s) q, front-le s)

pub gap-newline : (b : ℕ) → b ≡ 10 → false ≡ is_gap b
unfolding is_gap
gap-newline b p = rw (eq-eqb b 10 p)

-- ---- what is kept at the end
-- all whitespace, and a last byte that is none
kept-all : (s : List ℕ) → ((k : ℕ) → k < length s → is_space (get_or s k 0) ≡ true) → 0 ≡ kept s
unfolding kept
kept-all [] h = refl
kept-all (b ∷ s) h = rw (← kept-all s (λ k q. h (suc k) (omega arith)), h 0 (omega arith)) refl

kept-found : (s : List ℕ) (i : ℕ) → i < length s → is_space (get_or s i 0) ≡ false → ((k : ℕ) → i < k → k < length s → is_space (get_or s k 0) ≡ true) → i + 1 ≡ kept s
unfolding kept
kept-found [] i l e h = absurd (omega arith)
kept-found (b ∷ s) zero l e h = rw (← kept-all s (λ k q. h (suc k) (omega arith) (omega arith)), e) refl
kept-found (b ∷ s) (suc i) l e h =
    rw (← kept-found s i (omega arith) e (λ k p q. h (suc k) (omega arith) (omega arith)), ne_eqb (i + 1) 0 (λ z. omega arith)) (omega arith)

pub kept-last : (s : List ℕ) (r : Option ℕ) → IsLast (λ x. not (is_space x)) s r → MatchOption r (0 ≡ kept s) (λ i. (i + 1 ≡ kept s) × (i < length s))
kept-last s None h = kept-all s (λ k b. not-false (is_space (get_or s k 0)) (h k b))
kept-last s (Some i) h = (kept-found s i h.0 (not-true (is_space (get_or s i 0)) h.1) (λ k b l. not-false (is_space (get_or s k 0)) (h.2 k b l)), h.0)

pub kept-le : (s : List ℕ) → kept s ≤ length s
unfolding kept
kept-le [] = omega arith
kept-le (b ∷ bs) = by-case (eqb (kept bs) 0) (is_space b) (kept-le bs)
  where
    by-case : (t u : Bool) → kept bs ≤ length bs → pick t (pick u 0 1) (suc (kept bs)) ≤ suc (length bs)
    by-case true true h = omega arith
    by-case true false h = omega arith
    by-case false u h = omega arith

-- ---- parts
pub part_none : (s : List ℕ) (a e : ℕ) → e ≤ a → take 0 s ≡ part_of s a e
unfolding part_of
part_none s a e h = let z : e - a ≡ 0 = omega arith in rw z

pub part-past : (s : List ℕ) (a e : ℕ) → length s ≤ a → take 0 s ≡ part_of s a e
unfolding part_of
part-past s a e h = rw (drop_of_length-le s h, take-nil)

pub part-rest : (s : List ℕ) (a e : ℕ) → length s ≤ e → take (length s - a) (drop a s) ≡ part_of s a e
unfolding part_of
part-rest s a e h = whole_drop s a ∙ sym (take_all (e - a) (drop a s) (omega (arith, length-drop a s)))

-- what `get` finds of it
pub part-got : (s : List ℕ) (a e m : ℕ) (r : Option (Bor (List ℕ))) (d : Bor (List ℕ)) → m ≡ min e (length s)
    → MatchOption r ((m < a) ⊎ (length s < m)) (λ x. (a ≤ m) × (m ≤ length s) × (x.now ≡ take (m - a) (drop a s)) × (length x.now + a ≡ m))
    → d.now ≡ [] → (unwrap_or r d).now ≡ part_of s a e
unfolding part_of
part-got s a e m None d p h q = q ∙ by-order (leb e a) refl
  where
    by-order : (t : Bool) → leb e a ≡ t → take 0 s ≡ part_of s a e
    by-order true o = part_none s a e (leb-true e a o)
    by-order false o = part-past s a e (omega (arith, leb-false e a o, p, h))
part-got s a e m (Some x) d p h q = h.2 ∙ by-order (leb e (length s)) refl
  where
    by-order : (t : Bool) → leb e (length s) ≡ t → take (m - a) (drop a s) ≡ part_of s a e
    by-order true o = let z : m ≡ e = omega (arith, leb-true e (length s) o) in rw z
    by-order false o = let z : m ≡ length s = omega (arith, leb-false e (length s) o) in rw z (part-rest s a e (omega (arith, leb-false e (length s) o)))

pub part_length : (s : List ℕ) (a e : ℕ) → (length (part_of s a e) ≤ e - a) × (length (part_of s a e) ≤ length s - a)
unfolding part_of
part_length s a e = (simp (length-take, length-drop) (omega arith), simp (length-take, length-drop) (omega arith))

-- a part of a part: further on, up to the same end
pub part-further : (s : List ℕ) (a k e : ℕ) → drop k (part_of s a e) ≡ part_of s (a + k) e
unfolding part_of
part-further s a k e =
    let z : e - a - k ≡ e - (a + k) = omega arith in
    drop-take k (e - a) (drop a s) ∙ ap (λ (l : List ℕ). take (e - a - k) l) (drop-drop k a s) ∙ ap (λ (n : ℕ). take n (drop (a + k) s)) z

-- the first n bytes of a part
pub part-front : (s : List ℕ) (i n e : ℕ) → n ≤ length (part_of s i e) → part_of s i (i + n) ≡ take n (part_of s i e)
unfolding part_of
part-front s i n e h =
    let z : i + n - i ≡ n = omega arith in
    let k : n ≤ e - i = omega (arith, length-take (e - i) (drop i s)) in
    rw z (sym (take-take n (e - i) (drop i s) k))

-- ---- the lengths of what is trimmed
pub start-length : (s : List ℕ) → lead s + length (trim_start s) ≡ length s
unfolding trim_start
start-length s = omega (arith, length-drop (lead s) s, front-le is_space s)

-- what was taken off the front, by the lengths
pub start-off : (s w : List ℕ) → w ≡ trim_start s → (length w ≤ length s) × (length s - length w ≡ lead s)
start-off s w p = (omega (arith, ap length p, start-length s), omega (arith, ap length p, start-length s))

pub both_is : (s f t : List ℕ) → f ≡ trim_start s → t ≡ trim_end f → t ≡ trim_both s
unfolding trim_both
both_is s f t p q = q ∙ ap trim_end p

pub end-length : (s w : List ℕ) → w ≡ trim_end s → length w ≡ kept s
unfolding trim_end
end-length s w p = ap length p ∙ length-take-le (kept s) s (kept-le s)

-- ---- spans
pub span-is : (s w f b : List ℕ) (a e : ℕ) → w ≡ part_of s a e → f ≡ trim_start w → b ≡ trim_end f
    → span (a + (length w - length f)) (a + (length w - length f) + length b) ≡ trim_span s a e
unfolding trim_span trim_start
span-is s w f b a e p q r =
    let l : length w - length f ≡ lead (part_of s a e) = (start-off w f q).1 ∙ ap lead p in
    let g : f ≡ part_of s (a + lead (part_of s a e)) e = q ∙ ap (λ (x : List ℕ). drop (lead x) x) p ∙ part-further s a (lead (part_of s a e)) e in
    rw (l, end-length f b r ∙ ap kept g)

-- the bytes of the trimmed span are the part, trimmed
pub span-part : (s : List ℕ) (a e : ℕ) →
    part_of s (trim_span s a e).start (trim_span s a e).end ≡ trim_both (part_of s a e)
unfolding trim_span trim_both trim_start trim_end
span-part s a e =
    let i = a + lead (part_of s a e) in
    let n = kept (part_of s i e) in
    let p = part-further s a (lead (part_of s a e)) e in
    part-front s i n e (kept-le (part_of s i e)) ∙ rw p
