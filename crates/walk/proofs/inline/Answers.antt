use mathlib.Core.Path.{◌∙◌}
use Rattle.events.specs.View.{view}
use Rattle.walk.proofs.LineLaws.{inlined}
use Rattle.walk.proofs.inline.Goals as goal

pub returns : goal.returns
returns c = record { by_index = λ k l v. c.push.ensures.by_index k l v ∙ inlined c.args.start c.args.end c.mark.result (view c.args.st c.args.events.now k l v) c.mark.ensures; words_in_bounds = c.push.ensures.words_in_bounds }
