use Rattle.std.proofs.Common.{◌∙◌, ap, refl}
use Rattle.trim.proofs.TrimLaws.{part-got}
use Rattle.trim.proofs.part.Goals as goal

pub returns : goal.returns
returns c = ap (λ x. x.now) c.unwrap_or.ensures ∙ part-got c.args.s.now c.args.a c.args.e c.min.result c.get.result _ c.min.ensures c.get.ensures.lookup.0 refl
