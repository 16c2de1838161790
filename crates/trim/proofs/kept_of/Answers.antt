use Rattle.std.proofs.Common.{rules, not, arith}
use Rattle.classes.specs.Classes.{is_space}
use Rattle.trim.proofs.TrimLaws.{kept-last}
use Rattle.trim.proofs.kept_of.Goals as goal

pub returns-in-Some : goal.returns-in-Some
returns-in-Some c =
    let found = rw c.in-Some.is at (kept-last c.args.s.now c.rfind.result (c.rfind.ensures.place (λ x. not (is_space x)) (λ x r p. search rules))) in
    (found.0, omega (arith, found.1))

pub returns-in-None : goal.returns-in-None
returns-in-None c =
    let found = rw c.in-None.is at (kept-last c.args.s.now c.rfind.result (c.rfind.ensures.place (λ x. not (is_space x)) (λ x r p. search rules))) in
    (found, omega arith)
