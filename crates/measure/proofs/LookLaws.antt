-- One line: blank, an item's, in a fenced block or a quote. Assumes nothing.
use mathlib.Core.Path.{◌≡◌, refl, sym, ap, ◌∙◌}
use mathlib.Core.Bool.{Bool, true, false}
use mathlib.Core.List.{List}
use Prim.Native.Nat.{ℕ, zero, suc, ◌+◌, ◌≤◌, ◌<◌}
use native.Mathlib.Omega.{arith}
use lib.Dec.{eqb}
use lib.ListN.{length}
use borrow.Author.Tests.{eq-eqb, ne_eqb, lt-ltb, le-ltb}
use Rattle.std.specs.Prelude.{Option, Some, None}
use Rattle.lines.specs.Lines.{Span}
use Rattle.trim.specs.Trim.{lead, trim_start}
use Rattle.trim.proofs.TrimLaws.{start-length}
use Rattle.kinds.specs.Identify.{identify_of}
use Rattle.kinds.specs.declared.Kind.{Kind}
use Rattle.kinds.specs.declared.Kind.TheVariants.{Fenced, Blockquote}
use Rattle.kinds.specs.declared.Nested.{Nested}
use Rattle.measure.specs.declared.Fence.{Fence}
use Rattle.measure.specs.Continue.{taken_as, num_of, blank_line, quote_on, indented_on, after_fence, refence, fence_in, open_fence, continues_of}
use Rattle.measure.specs.Look.{late_fence, late_of}

pub blank-by-rest : (line w : List ℕ) → w ≡ trim_start line → eqb (length w) 0 ≡ blank_line line
unfolding blank_line
blank-by-rest line w p = by-rest (length w) (ap (λ (x : List ℕ). lead line + length x) p ∙ start-length line)
  where
    by-rest : (n : ℕ) → lead line + n ≡ length line → eqb n 0 ≡ eqb (lead line) (length line)
    by-rest zero h = sym (eq-eqb (lead line) (length line) (omega (arith, h)))
    by-rest (suc n) h = ne_eqb (suc n) 0 (λ e. omega arith) ∙ sym (ne_eqb (lead line) (length line) (λ e. omega (arith, h, e)))

-- in a block that is not closed
fence-late : (i l m : ℕ) (s : Span) (n : Option Nested) (f : Option Fence) → refence i l m s (after_fence l m n f) ≡ late_fence i l m s false n f
unfolding after_fence
fence-late i l m s n None = refl
fence-late i l m s n (Some f) = refl

pub fence-goes-on : (k : Kind) (line : List ℕ) (i l m : ℕ) (s : Span) (c : Bool) (n : Option Nested) → k ≡ Fenced i l m s c n → c ≡ false → continues_of k line ≡ late_of k (identify_of line).kind
unfolding continues_of open_fence
fence-goes-on k line i l m s c n p q = rw (p, q) (ap (λ (x : Kind). taken_as true x) (fence-late i l m s n (fence_in (identify_of line).kind)))

-- an item's or a footnote's line
module _ (i : ℕ) (last : Bool) (line : List ℕ) where
  pub indented-blank : num_of line ≡ 1 → (indented_on i last (num_of line) line ≡ true) × (true ≡ eqb (num_of line) 1)
  unfolding indented_on
  indented-blank n = (rw n, rw n)

  module _ (n : eqb (num_of line) 1 ≡ false) (d : ℕ) (e : d ≡ lead line) where
    pub indented-deep : i < d → (indented_on i last (num_of line) line ≡ true) × (false ≡ eqb (num_of line) 1)
    unfolding indented_on
    indented-deep h = (rw (n, ← e, lt-ltb i d h), sym n)

    pub indented-after : d ≤ i → last ≡ true → (indented_on i last (num_of line) line ≡ false) × (last ≡ last)
    unfolding indented_on
    indented-after h q = (rw (n, ← e, le-ltb i d h, q), refl)

    pub indented-late : d ≤ i → last ≡ false → (last ≡ last) × (last ≡ eqb (num_of line) 1) × (indented_on i last (num_of line) line ≡ eqb (num_of line) 4)
    unfolding indented_on
    indented-late h q = (refl, q ∙ sym n, rw (n, ← e, le-ltb i d h, q))

pub quote-goes-on : (k : Kind) (line : List ℕ) → k ≡ Blockquote → quote_on line ≡ true → continues_of k line ≡ taken_as true k
unfolding continues_of
quote-goes-on k line p q = rw (p, q)
