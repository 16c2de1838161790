use Rattle.walk.proofs.LineLaws.{inside}
use Rattle.tables.proofs.CaptionLaws.{caret-fits, caret-past}
use Rattle.tables.proofs.past_caret.Goals as goal

pub offset-requires : goal.offset-requires
offset-requires c = inside c.args.text.now c.strip_front-s.result c.args.end _ _ c.part_at.result.now c.part_at.ensures (caret-fits _ c.part_at.result.now c.least.ensures) c.strip_front-s.type_inv c.ranges.end.fits

pub returns : goal.returns
returns c = caret-past c.args.text.now c.args.start c.args.end _ _ _ c.part_at.result.now c.strip_front-s.ensures c.part_at.ensures c.least.ensures c.offset.ensures
