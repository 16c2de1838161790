use Rattle.std.proofs.Common.{◌≡◌, ◌<◌, ◌^◌, drop}
use Rattle.numbers.specs.Numbers.{decimal_of}
use Rattle.numbers.proofs.decimal.Given as goal

abbrev pub invariant-loop-b : goal.invariant-loop-b
invariant-loop-b l = (l.v < 10 ^ l.b-index) × (decimal_of 0 l.s ≡ decimal_of l.v (drop l.b-index l.s))
