use native.Mathlib.Omega.{arith}
use mathlib.Core.Path.{◌∙◌}
use Rattle.trim.proofs.TrimLaws.{start-off}
use Rattle.walk.proofs.LineLaws.{inside, front_at}
use Rattle.walk.proofs.strip_front.Goals as goal

pub overflow_sub-line : goal.overflow_sub-line
overflow_sub-line c = omega (arith, (start-off _ _ c.trim_start-front.ensures).0)

pub offset-requires : goal.offset-requires
offset-requires c = inside c.args.text.now c.args.start c.args.end _ _ _ c.part_at-line.ensures (omega arith) c.ranges.start.fits c.ranges.end.fits

pub returns : goal.returns
returns c = c.offset.ensures ∙ front_at c.args.text.now c.args.start c.args.end _ _ c.part_at-line.ensures (start-off _ _ c.trim_start-front.ensures).1
