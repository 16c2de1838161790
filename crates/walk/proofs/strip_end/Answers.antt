use native.Mathlib.Omega.{arith}
use mathlib.Core.Path.{◌∙◌}
use Rattle.trim.proofs.TrimLaws.{end-length, kept-le}
use Rattle.walk.proofs.LineLaws.{inside, back_at}
use Rattle.walk.proofs.strip_end.Goals as goal

pub offset-requires : goal.offset-requires
offset-requires c =
    inside c.args.text.now c.args.start c.args.end _ _ _ c.part_at.ensures (omega (arith, end-length _ _ c.trim_end.ensures, kept-le c.part_at.result.now)) c.ranges.start.fits c.ranges.end.fits

pub returns : goal.returns
returns c = c.offset.ensures ∙ back_at c.args.text.now c.args.start c.args.end _ _ c.part_at.ensures (end-length _ _ c.trim_end.ensures)
