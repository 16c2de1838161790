-- No refusal has the number 0, and none has that of another. Assumes nothing.
use Prim.Native.Nat.{ℕ}
use mathlib.Core.Path.{◌≡◌, refl, sym, ap, ◌∙◌}
use mathlib.Core.List.{[], ◌∷◌}
use lib.ListN.{get_or}
use native.Mathlib.Omega.{arith}
use Rattle.refusals.specs.Numbers.{number_of}
use Rattle.refusals.specs.declared.Refusal.{Refusal}
use Rattle.refusals.specs.declared.Refusal.TheVariants.{TextTooLong, LinesFull, NestedTooDeep, TooManySections, HeadingTooLong, EventsFull, Fault, BytesFull, CutShort, NotListed, OutOfRange, BadNesting, ElementsFull, NotASet, Stray}

-- each at its own number
abbrev named : ℕ → Refusal
named n = get_or (TextTooLong ∷ TextTooLong ∷ LinesFull ∷ NestedTooDeep ∷ TooManySections ∷ HeadingTooLong ∷ EventsFull ∷ Fault ∷ BytesFull ∷ CutShort ∷ NotListed ∷ OutOfRange ∷ BadNesting ∷ ElementsFull ∷ NotASet ∷ []) n Stray

named_number : (r : Refusal) → named (number_of r) ≡ r
named_number TextTooLong = refl
named_number LinesFull = refl
named_number NestedTooDeep = refl
named_number TooManySections = refl
named_number HeadingTooLong = refl
named_number EventsFull = refl
named_number Fault = refl
named_number BytesFull = refl
named_number CutShort = refl
named_number NotListed = refl
named_number OutOfRange = refl
named_number BadNesting = refl
named_number ElementsFull = refl
named_number NotASet = refl
named_number Stray = refl

pub number-one : (r s : Refusal) → number_of r ≡ number_of s → r ≡ s
number-one r s e = sym (named_number r) ∙ ap named e ∙ named_number s

pub number-some : (r : Refusal) → number_of r ≡ 0 → ⊥
number-some TextTooLong e = omega arith
number-some LinesFull e = omega arith
number-some NestedTooDeep e = omega arith
number-some TooManySections e = omega arith
number-some HeadingTooLong e = omega arith
number-some EventsFull e = omega arith
number-some Fault e = omega arith
number-some BytesFull e = omega arith
number-some CutShort e = omega arith
number-some NotListed e = omega arith
number-some OutOfRange e = omega arith
number-some BadNesting e = omega arith
number-some ElementsFull e = omega arith
number-some NotASet e = omega arith
number-some Stray e = omega arith
