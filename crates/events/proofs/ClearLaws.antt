-- Words cleared: one law a turn, one for the end. Assumes nothing.
use Prim.Native.Nat.{ℕ, suc, ◌+◌, ◌-◌, ◌≤◌, ◌<◌}
use mathlib.Core.Path.{◌≡◌, refl, sym, ap, ◌∙◌}
use mathlib.Core.List.{List, [], ◌∷◌, ◌++◌, append_assoc}
use native.Mathlib.Omega.{arith}
use lib.ListN.{length, take, set, replicate, replicate-append-replicate}
use lib.Seq.{take_all, take-suc-set}

-- the words up to i are those up to `from`, and zeros
pub record Cleared (old : List ℕ) (from : ℕ) (now : List ℕ) (i : ℕ) : Type 0 where
  pub low : from ≤ i
  pub high : i ≤ length old
  pub size : length now ≡ length old
  pub words : take i now ≡ take from old ++ replicate (i - from) 0

pub clear-start : (old : List ℕ) (from : ℕ) → from ≤ length old → Cleared old from old from
clear-start old from h =
    let e : from - from ≡ 0 = omega arith in
    record { low = omega arith; high = h; size = refl; words = sym (ap (λ (n : ℕ). take from old ++ replicate n 0) e ∙ empty (take from old)) }
  where
    empty : (l : List ℕ) → l ++ [] ≡ l
    empty [] = refl
    empty (x ∷ l) = ap (λ (r : List ℕ). x ∷ r) (empty l)

clear-words : (old : List ℕ) (from : ℕ) (now : List ℕ) (i : ℕ) → from ≤ i → i < length now → take i now ≡ take from old ++ replicate (i - from) 0
    → take (i + 1) (set now i 0) ≡ take from old ++ replicate (i + 1 - from) 0
clear-words old from now i h g p =
    let e : i + 1 ≡ suc i = omega arith in
    let n : i - from + 1 ≡ i + 1 - from = omega arith in
    ap (λ (k : ℕ). take k (set now i 0)) e
    ∙ take-suc-set now i 0 g
    ∙ ap (λ (l : List ℕ). l ++ (0 ∷ [])) p
    ∙ append_assoc (take from old) (replicate (i - from) 0) (0 ∷ [])
    ∙ ap (λ (l : List ℕ). take from old ++ l) (replicate-append-replicate (i - from) 1 0)
    ∙ ap (λ (k : ℕ). take from old ++ replicate k 0) n

pub clear-turn : (old : List ℕ) (from : ℕ) (now : List ℕ) (i : ℕ) → i < length now → length (set now i 0) ≡ length now → Cleared old from now i → Cleared old from (set now i 0) (i + 1)
clear-turn old from now i g n c =
    let z = c.size in
    let l = c.low in
    record { low = omega arith; high = omega arith; size = n ∙ z; words = clear-words old from now i l g c.words }

pub clear-end : (old : List ℕ) (from : ℕ) (now : List ℕ) (i : ℕ) → length now ≤ i → Cleared old from now i → now ≡ take from old ++ replicate (length old - from) 0
clear-end old from now i g c =
    let z = c.size in
    let h = c.high in
    let e : i ≡ length old = omega arith in
    sym (take_all i now g) ∙ c.words ∙ ap (λ (k : ℕ). take from old ++ replicate (k - from) 0) e
