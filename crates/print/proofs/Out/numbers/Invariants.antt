use Rattle.std.proofs.Common.{◌≡◌, map, drop}
use Rattle.print.specs.Held.{after_numbers}
use Rattle.print.proofs.Out.numbers.Given as goal

abbrev pub invariant-loop-x : goal.invariant-loop-x
invariant-loop-x g l =
    after_numbers l.self (map g.I.Integer.text (drop l.x-index l.xs)) ≡ after_numbers l.initial.self (map g.I.Integer.text l.xs)
