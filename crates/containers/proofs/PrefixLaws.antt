-- A container's prefix off its later lines: how long it is, and each line changed in place. Assumes nothing.
use mathlib.Core.Path.{◌≡◌, refl, sym, ap, ◌∙◌}
use mathlib.Core.Bool.{true, false}
use mathlib.Core.List.{List, [], ◌∷◌, map}
use Prim.Native.Nat.{ℕ, zero, suc, ◌+◌, ◌-◌, ◌*◌, ◌/◌, ◌≤◌, ◌<◌, min}
use native.Mathlib.Omega.{arith}
use lib.ListN.{length, take, get_or, set}
use borrow.Author.Tests.{eq-eqb, ne_eqb}
use Rattle.classes.specs.Classes.{is_space}
use Rattle.lines.specs.Lines.{Span, span, spans_of, place_of}
use Rattle.lines.proofs.SpanLaws.{span-count}
use Rattle.lines.proofs.PlaceLaws.{place-take}
use Rattle.trim.specs.Trim.{lead, trim_both, part_of}
use Rattle.trim.proofs.TrimLaws.{part_length}
use Rattle.kinds.specs.declared.Kind.{Kind}
use Rattle.measure.specs.Continue.{kind_num}
use Rattle.walk.specs.Fields.{indent_of}
use Rattle.walk.specs.Tree.{quote_prefix, skip_of, prefix_of, strip_line, strip_lines}

-- ---- how long a prefix is
module _ (line t : List ℕ) (p : t ≡ trim_both line) where
  pub quote-none : (get_or t 0 0 ≡ 62 → ⊥) → 0 ≡ quote_prefix line
  unfolding quote_prefix
  quote-none h = rw (← p, ne_eqb (get_or t 0 0) 62 h)

  module _ (n : ℕ) (q : n ≡ lead line) (h : get_or t 0 0 ≡ 62) where
    pub quote-alone : length t ≡ 1 → n + 1 ≡ quote_prefix line
    unfolding quote_prefix
    quote-alone e = rw (← p, eq-eqb (get_or t 0 0) 62 h, eq-eqb (length t) 1 e, q)

    pub quote-spaced : (length t ≡ 1 → ⊥) → is_space (get_or t 1 0) ≡ true → n + 2 ≡ quote_prefix line
    unfolding quote_prefix
    quote-spaced e b = rw (← p, eq-eqb (get_or t 0 0) 62 h, ne_eqb (length t) 1 e, b, q)

    pub quote-lazy : (length t ≡ 1 → ⊥) → is_space (get_or t 1 0) ≡ false → 0 ≡ quote_prefix line
    unfolding quote_prefix
    quote-lazy e b = rw (← p, eq-eqb (get_or t 0 0) 62 h, ne_eqb (length t) 1 e, b)

module _ (k : Kind) (opening : ℕ) (line : List ℕ) (n : ℕ) (p : n ≡ kind_num k) where
  pub skip-quote : n ≡ 8 → quote_prefix line ≡ skip_of k opening line
  unfolding skip_of
  skip-quote e = sym (rw (eq-eqb (kind_num k) 8 (sym p ∙ e)))

  module _ (f : n ≡ 8 → ⊥) where
    pub skip-fence : n ≡ 6 → min (lead line) (indent_of k) ≡ skip_of k opening line
    unfolding skip_of
    skip-fence e = sym (rw (ne_eqb (kind_num k) 8 (λ z. f (p ∙ z)), eq-eqb (kind_num k) 6 (sym p ∙ e)))

    pub skip-opening : (n ≡ 6 → ⊥) → min (lead line) opening ≡ skip_of k opening line
    unfolding skip_of
    skip-opening e = sym (rw (ne_eqb (kind_num k) 8 (λ z. f (p ∙ z)), ne_eqb (kind_num k) 6 (λ z. e (p ∙ z))))

-- the newline is looked for in what is skipped only
pub prefix-is : (k : Kind) (opening : ℕ) (line t : List ℕ) (r a : ℕ) → a ≡ skip_of k opening line → t ≡ part_of line 0 a → (r ≡ place_of 10 t) × (r ≤ length t)
    → (r ≡ prefix_of k opening line) × (r ≤ length line)
unfolding prefix_of part_of
prefix-is k opening line t r a p q h =
    let z : a - 0 ≡ a = omega arith in
    (h.0 ∙ ap (λ (x : List ℕ). place_of 10 x) (q ∙ ap (λ (n : ℕ). take n line) z) ∙ place-take 10 a line ∙ ap (λ (n : ℕ). min n (place_of 10 line)) p, omega (arith, h.1, ap (λ (x : List ℕ). length x) q, (part_length line 0 a).1))

-- ---- the lines changed in place
-- the first k lines
abbrev map_to : (Span → Span) → ℕ → List Span → List Span
map_to f zero ls = ls
map_to f (suc k) [] = []
map_to f (suc k) (l ∷ ls) = f l ∷ map_to f k ls

-- the first k lines but the very first
abbrev pub later_to : (Span → Span) → ℕ → List Span → List Span
later_to f zero ls = ls
later_to f (suc k) [] = []
later_to f (suc k) (l ∷ ls) = l ∷ map_to f k ls

-- line k alone
abbrev line_to : (Span → Span) → ℕ → List Span → List Span
line_to f k [] = []
line_to f zero (l ∷ ls) = f l ∷ ls
line_to f (suc k) (l ∷ ls) = l ∷ line_to f k ls

pub later-start : (f : Span → Span) (ls : List Span) → ls ≡ later_to f 1 ls
later-start f [] = refl
later-start f (l ∷ ls) = refl

map_next : (f : Span → Span) (k : ℕ) (ls : List Span) → line_to f k (map_to f k ls) ≡ map_to f (suc k) ls
map_next f zero [] = refl
map_next f zero (l ∷ ls) = refl
map_next f (suc k) [] = refl
map_next f (suc k) (l ∷ ls) = ap (λ (r : List Span). f l ∷ r) (map_next f k ls)

later-next : (f : Span → Span) (k : ℕ) (ls : List Span) → 1 ≤ k → line_to f k (later_to f k ls) ≡ later_to f (suc k) ls
later-next f zero ls h = absurd (omega arith)
later-next f (suc k) [] h = refl
later-next f (suc k) (l ∷ ls) h = ap (λ (r : List Span). l ∷ r) (map_next f k ls)

map-all : (f : Span → Span) (k : ℕ) (ls : List Span) → length ls ≤ k → map_to f k ls ≡ map f ls
map-all f zero [] h = refl
map-all f zero (l ∷ ls) h = let z : suc (length ls) ≤ 0 = h in absurd (omega arith)
map-all f (suc k) [] h = refl
map-all f (suc k) (l ∷ ls) h = let z : suc (length ls) ≤ suc k = h in ap (λ (r : List Span). f l ∷ r) (map-all f k ls (omega arith))

in_place : (g : ℕ → ℕ → ℕ) (k : ℕ) (ws : List ℕ) (i j : ℕ) → i ≡ k * 2 → j ≡ k * 2 + 1 → j < length ws
    → spans_of (set ws i (g (get_or ws i 0) (get_or ws j 0))) ≡ line_to (λ l. span (g l.start l.end) l.end) k (spans_of ws)
unfolding spans_of
in_place g k [] i j p q h = absurd (omega arith)
in_place g k (a ∷ []) i j p q h = let z : j < 1 = h in absurd (omega arith)
in_place g zero (a ∷ b ∷ r) i j p q h = rw (p, q)
in_place g (suc k) (a ∷ b ∷ r) i j p q h =
    let p' : i ≡ suc (suc (k * 2)) = omega arith in
    let q' : j ≡ suc (suc (k * 2 + 1)) = omega arith in
    let z : j < suc (suc (length r)) = h in
    rw (p', q') (ap (λ (l : List Span). span a b ∷ l) (in_place g k r (k * 2) (k * 2 + 1) refl refl (omega arith)))

module _ (text : List ℕ) (kind : Kind) (opening : ℕ) where
  -- a turn: line k loses its prefix
  pub strip-next : (k : ℕ) (ws os part : List ℕ) (x n : ℕ) → 1 ≤ k → k * 2 + 1 < length ws
      → part ≡ part_of text (get_or ws (k * 2) 0) (get_or ws (k * 2 + 1) 0) → n ≡ prefix_of kind opening part → x ≡ get_or ws (k * 2) 0 + n
      → spans_of ws ≡ later_to (strip_line text kind opening) k (spans_of os)
      → spans_of (set ws (k * 2) x) ≡ later_to (strip_line text kind opening) (k + 1) (spans_of os)
  strip-next k ws os part x n h b p q r e =
      let s : suc k ≡ k + 1 = omega arith in
      let y : x ≡ get_or ws (k * 2) 0 + prefix_of kind opening (part_of text (get_or ws (k * 2) 0) (get_or ws (k * 2 + 1) 0)) = r ∙ ap (λ (z : ℕ). get_or ws (k * 2) 0 + z) (q ∙ ap (λ (l : List ℕ). prefix_of kind opening l) p) in
      ap (λ (z : ℕ). spans_of (set ws (k * 2) z)) y
      ∙ in_place (λ i j. i + prefix_of kind opening (part_of text i j)) k ws (k * 2) (k * 2 + 1) refl refl b
      ∙ ap (λ (l : List Span). line_to (strip_line text kind opening) k l) e
      ∙ later-next (strip_line text kind opening) k (spans_of os) h
      ∙ ap (λ (z : ℕ). later_to (strip_line text kind opening) z (spans_of os)) s

  all_lines : (k : ℕ) (ls : List Span) → 1 ≤ k → length ls ≤ k → later_to (strip_line text kind opening) k ls ≡ strip_lines text kind opening ls
  unfolding strip_lines
  all_lines zero ls h b = absurd (omega arith)
  all_lines (suc k) [] h b = refl
  all_lines (suc k) (l ∷ ls) h b = let z : suc (length ls) ≤ suc k = b in ap (λ (r : List Span). l ∷ r) (map-all (strip_line text kind opening) k ls (omega arith))

  pub strip-all : (k : ℕ) (os : List ℕ) → 1 ≤ k → length os / 2 ≤ k → later_to (strip_line text kind opening) k (spans_of os) ≡ strip_lines text kind opening (spans_of os)
  strip-all k os h b = all_lines k (spans_of os) h (omega (arith, span-count os))
