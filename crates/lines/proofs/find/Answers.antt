use Rattle.std.proofs.Common.{rules, eqb}
use Rattle.lines.proofs.PlaceLaws.{place-found}
use Rattle.lines.proofs.find.Goals as goal

pub returns : goal.returns
returns c = place-found c.args.b c.args.s.now c.find.result (c.find.ensures (λ x. eqb x c.args.b) (λ x r q. search rules))
