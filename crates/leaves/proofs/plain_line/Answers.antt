use Rattle.leaves.proofs.LineLaws.{plain-last, plain_more}
use Rattle.leaves.proofs.plain_line.Goals as goal

pub returns-then-last : goal.returns-then-last
returns-then-last c = plain-last c.args.text.now c.args.last c.args.start c.args.end _ c.strip_front-s.ensures c.if-last.true _ c.strip_end.ensures

pub returns : goal.returns
returns c = plain_more c.args.text.now c.args.last c.args.start c.args.end _ c.strip_front-s.ensures c.if-last.false
