use native.Mathlib.Omega.{arith}
use mathlib.Core.Path.{ap}
use lib.ListN.{length}
use Rattle.trim.proofs.TrimLaws.{part_length, start-off, end-length, kept-le, span-is}
use Rattle.trim.proofs.trim_span.Goals as goal

pub overflow_sub-start : goal.overflow_sub-start
overflow_sub-start c = omega (arith, (start-off _ _ c.trim_start-front.ensures).0)

pub overflow_add-start : goal.overflow_add-start
overflow_add-start c = omega (arith, ap length c.part-whole.ensures, (part_length c.args.s.now c.args.a c.args.e).1)

pub overflow_add-end : goal.overflow_add-end
overflow_add-end c = omega (arith, ap length c.part-whole.ensures, (part_length c.args.s.now c.args.a c.args.e).1, (start-off _ _ c.trim_start-front.ensures).0, end-length _ _ c.trim_end.ensures, kept-le c.trim_start-front.result.now)

pub returns : goal.returns
returns c = span-is c.args.s.now _ _ _ c.args.a c.args.e c.part-whole.ensures c.trim_start-front.ensures c.trim_end.ensures
