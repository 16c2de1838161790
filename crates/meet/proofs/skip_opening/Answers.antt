use Rattle.meet.proofs.MetLaws.{skipped}
use Rattle.meet.proofs.skip_opening.Goals as goal

pub returns : goal.returns
returns c = skipped c.args.text.now c.args.m c.args.lines.now c.after_quote.result c.requires c.after_quote.ensures.0
