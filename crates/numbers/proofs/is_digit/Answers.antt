use Rattle.std.proofs.Common.{rules, ◌≡◌, Bool, true, false, eqb, Some, None}
use Rattle.std.specs.Option.{option_eq}
use Rattle.classes.specs.Choice.{pick}
use Rattle.classes.specs.Classes.{within}
use Rattle.numbers.specs.Numbers.{begins_of, begins_by, numeral_of, letter_of, num_of}
use Rattle.numbers.specs.contracts.NumberingPartialEq.TheImpl.{eq-value}
use Rattle.numbers.specs.declared.Numbering.{Numbering}
use Rattle.numbers.specs.declared.Numbering.TheVariants.{Decimal, AlphaLower, AlphaUpper, RomanLower, RomanUpper}
use Rattle.numbers.proofs.is_digit.Goals as goal

same : (j k : Numbering) → option_eq eq-value.it (Some j) (Some k) ≡ eqb (num_of j) (num_of k)
same j k = search rules

-- a byte of no numbering is no digit, whichever is asked for
none : (k : Numbering) → option_eq eq-value.it None (Some k) ≡ eqb 0 (num_of k)
none k = search rules

-- of the three ranges, and of a letter whether it is no roman one
ranged : (x y z u : Bool) (k : Numbering) → option_eq eq-value.it (begins_by (pick x 1 (pick y (pick u 2 4) (pick z (pick u 3 5) 0)))) (Some k) ≡ eqb (pick x 1 (pick y (pick u 2 4) (pick z (pick u 3 5) 0))) (num_of k)
ranged true y z u k = same Decimal k
ranged false true z true k = same AlphaLower k
ranged false true z false k = same RomanLower k
ranged false false true true k = same AlphaUpper k
ranged false false true false k = same RomanUpper k
ranged false false false u k = none k

pub returns : goal.returns
unfolding begins_of numeral_of
returns c =
    let a = c.args in
    rw (c.eq.ensures, c.begins.ensures) (ranged (within 48 57 a.b) (within 97 122 a.b) (within 65 90 a.b) (eqb (letter_of a.b) 0) a.k)
