use Rattle.std.proofs.Common.{◌∙◌, arith}
use Rattle.numbers.proofs.RunLaws.{run-value, run-within}
use Rattle.numbers.proofs.run.Goals as goal

pub returns-clause-value : goal.returns-clause-value
returns-clause-value c = c.digits.ensures ∙ run-value c.args.k c.args.t.now c.args.from c.min.result (rw c.max_of.ensures at c.min.ensures)

pub returns-clause-most : goal.returns-clause-most
returns-clause-most c = omega (arith, c.digits.ensures, run-within c.args.k c.args.t.now c.args.from c.min.result (rw c.max_of.ensures at c.min.ensures))

pub returns-clause-within : goal.returns-clause-within
returns-clause-within c = omega (arith, c.digits.ensures, run-within c.args.k c.args.t.now c.args.from c.min.result (rw c.max_of.ensures at c.min.ensures))
