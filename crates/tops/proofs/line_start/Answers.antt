use Rattle.std.proofs.Common.{rules, eqb}
use Rattle.tops.proofs.OpenLaws.{line-last}
use Rattle.tops.proofs.line_start.Goals as goal

pub returns-in-Some : goal.returns-in-Some
returns-in-Some c = rw c.in-Some.is at (line-last c.args.text.now c.args.p c.part.result.now c.part.ensures c.rfind.result (c.rfind.ensures.place (λ x. eqb x 10) (λ x r q. search rules)))

pub returns-in-None : goal.returns-in-None
returns-in-None c = rw c.in-None.is at (line-last c.args.text.now c.args.p c.part.result.now c.part.ensures c.rfind.result (c.rfind.ensures.place (λ x. eqb x 10) (λ x r q. search rules)))
