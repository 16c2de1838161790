use native.Mathlib.Nat.{le_trans}
use Rattle.walk.proofs.LineLaws.{inside}
use Rattle.leaves.proofs.LineLaws.{least-le, code_at}
use Rattle.leaves.proofs.strip_indent.Goals as goal

pub offset-requires : goal.offset-requires
offset-requires c = inside c.args.text.now c.args.start c.args.end _ _ _ c.part_at-line.ensures (le_trans (least-le _ _ _ c.least.ensures) c.indent_of.ensures.1) c.ranges.start.fits c.ranges.end.fits

pub returns : goal.returns
returns c = code_at c.args.text.now c.args.start c.args.end c.args.indent _ _ _ _ c.part_at-line.ensures c.indent_of.ensures.0 c.least.ensures c.offset.ensures
