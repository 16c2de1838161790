-- The lines that words hold: how many there are, each by its place, and those of a list's own words. Assumes nothing.
use Prim.Native.Nat.{ℕ, zero, suc, ◌+◌, ◌*◌, ◌/◌, ◌≤◌}
use mathlib.Core.Path.{◌≡◌, refl, ap}
use mathlib.Core.List.{List, [], ◌∷◌}
use native.Mathlib.Omega.{arith}
use lib.ListN.{length, take, drop, get_or, drop_of_length-le}
use lib.Seq.{take-nil, drop-nil}
use Rattle.lines.specs.Lines.{Span, span, words_of, spans_of}

pub span-count : (ws : List ℕ) → length (spans_of ws) ≡ length ws / 2
unfolding spans_of
span-count [] = omega arith
span-count (a ∷ []) = omega arith
span-count (a ∷ b ∷ ws) = omega (arith, span-count ws)

pub span-at : (ws : List ℕ) (n : ℕ) → n * 2 + 2 ≤ length ws
    → drop n (spans_of ws) ≡ span (get_or ws (n * 2) 0) (get_or ws (n * 2 + 1) 0) ∷ drop (n + 1) (spans_of ws)
unfolding spans_of
span-at [] n h = absurd (omega arith)
span-at (a ∷ []) n h = absurd (omega arith)
span-at (a ∷ b ∷ ws) zero h = refl
span-at (a ∷ b ∷ ws) (suc n) h =
    let e : suc n * 2 ≡ suc (suc (n * 2)) = omega arith in
    let f : suc (suc (n * 2)) + 1 ≡ suc (suc (n * 2 + 1)) = omega arith in
    let g : suc n + 1 ≡ suc (n + 1) = omega arith in
    rw (e, f, g) (span-at ws n (omega arith))

pub span-end : (ws : List ℕ) (n : ℕ) → length ws / 2 ≤ n → drop n (spans_of ws) ≡ []
span-end ws n h = drop_of_length-le (spans_of ws) {i = n} (omega (arith, span-count ws))

-- the first t lines, and the lines after them
pub spans-take : (t : ℕ) (ws : List ℕ) (j : ℕ) → j ≡ 2 * t → spans_of (take j ws) ≡ take t (spans_of ws)
unfolding spans_of
spans-take zero ws j e = rw e
spans-take (suc t) [] j e = rw (take-nil j)
spans-take (suc t) (a ∷ []) j e =
    let e' : j ≡ suc (suc (2 * t)) = omega arith in
    rw e'
spans-take (suc t) (a ∷ b ∷ r) j e =
    let e' : j ≡ suc (suc (2 * t)) = omega arith in
    rw e' (ap (λ (l : List Span). span a b ∷ l) (spans-take t r (2 * t) refl))

pub spans-drop : (t : ℕ) (ws : List ℕ) (j : ℕ) → j ≡ 2 * t → spans_of (drop j ws) ≡ drop t (spans_of ws)
unfolding spans_of
spans-drop zero ws j e = rw e
spans-drop (suc t) [] j e = rw (drop-nil j)
spans-drop (suc t) (a ∷ []) j e =
    let e' : j ≡ suc (suc (2 * t)) = omega arith in
    rw e'
spans-drop (suc t) (a ∷ b ∷ r) j e =
    let e' : j ≡ suc (suc (2 * t)) = omega arith in
    rw e' (spans-drop t r (2 * t) refl)

pub word_count : (ls : List Span) → length (words_of ls) ≡ 2 * length ls
unfolding words_of
word_count [] = refl
word_count (l ∷ ls) = omega (arith, word_count ls)

pub spans-of-words : (ls : List Span) → spans_of (words_of ls) ≡ ls
unfolding spans_of words_of
spans-of-words [] = refl
spans-of-words (l ∷ ls) = ap (λ (x : List Span). l ∷ x) (spans-of-words ls)
