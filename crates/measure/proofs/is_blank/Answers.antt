use Rattle.measure.proofs.LookLaws.{blank-by-rest}
use Rattle.measure.proofs.is_blank.Goals as goal

pub returns : goal.returns
returns c = blank-by-rest _ _ c.trim_start.ensures
