-- No stream that can be read begins with the line that asks for the full listing, so taking that line off loses nothing (DECISIONS 2.1a). Assumes nothing.
use mathlib.Core.Path.{◌≡◌, refl, sym, ap, ◌∙◌}
use mathlib.Core.Bool.{Bool, true, false}
use mathlib.Core.List.{List, [], ◌∷◌}
use Prim.Native.Nat.{ℕ}
use native.Mathlib.Omega.{arith}
use lib.Dec.{eqb}
use borrow.Author.Tests.{eqb-true}
use Rattle.fields.specs.Fields.{fields, is_listed}
use Rattle.records.specs.Records.{moved, take_of, read_of}
use Rattle.records.specs.Moved.{Moved}
use Rattle.entries.specs.Text.{text}
use Rattle.equals.specs.Same.{same}
use Rattle.heads.specs.Heads.{asks_full, text_of}

-- `f`: as a record's kind it is of no node
abbrev f : ℕ
f = 102

f-refused : (bytes : List ℕ) (lent : ℕ) → read_of (f ∷ bytes) lent ≡ moved 10 0 0
unfolding read_of take_of fields is_listed
f-refused bytes lent = refl

unasked : (b : ℕ) (bytes : List ℕ) → eqb b f ≡ false → text_of (b ∷ bytes) ≡ b ∷ bytes
unfolding text same asks_full text_of
unasked b bytes e = rw e

-- what `read` takes is what it is lent, the line taken off or not
pub stream-unasked : (bytes : List ℕ) (lent : ℕ) → (read_of bytes lent).number ≡ 0 → text_of bytes ≡ bytes
unfolding text same asks_full text_of
stream-unasked [] lent h = refl
stream-unasked (b ∷ bytes) lent h = by_first (eqb b f) refl
  where
    by_first : (t : Bool) → eqb b f ≡ t → text_of (b ∷ bytes) ≡ b ∷ bytes
    by_first true e =
        let k : b ≡ f = eqb-true b f e in
        absurd (omega (arith, sym (ap (λ (m : Moved). m.number) (ap (λ (n : ℕ). read_of (n ∷ bytes) lent) k ∙ f-refused bytes lent)) ∙ h))
    by_first false e = unasked b bytes e
