use Rattle.walk.proofs.LineLaws.{inside}
use Rattle.leaves.proofs.LineLaws.{front_below, marks-none, marks-off}
use Rattle.leaves.proofs.strip_marks.Goals as goal

pub offset-after-requires : goal.offset-after-requires
offset-after-requires c = inside c.args.text.now c.strip_front-marks.result c.args.end _ _ _ c.part_at.ensures c.run_of.ensures.1 (front_below c.args.text.now c.args.start c.args.end _ _ c.strip_front-marks.ensures c.ranges.start.fits c.ranges.end.fits) c.ranges.end.fits

pub returns-then-rest-after : goal.returns-then-rest-after
returns-then-rest-after c = marks-none c.args.text.now c.args.start c.args.end _ _ _ _ _ c.strip_front-marks.ensures c.part_at.ensures c.run_of.ensures.0 c.offset-after.ensures c.strip_front-rest.ensures c.if-rest-after.true

pub returns : goal.returns
returns c = marks-off c.args.text.now c.args.start c.args.end _ _ _ _ _ c.strip_front-marks.ensures c.part_at.ensures c.run_of.ensures.0 c.offset-after.ensures c.strip_front-rest.ensures c.if-rest-after.false
