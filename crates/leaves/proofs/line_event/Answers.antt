use mathlib.Core.Path.{refl, ◌∙◌}
use Rattle.events.specs.View.{view}
use Rattle.leaves.proofs.LineLaws.{event-none, event-one}
use Rattle.leaves.proofs.line_event.Goals as goal

pub returns-then-l : goal.returns-then-l
returns-then-l c =
    let a = c.args in record { by_index = λ k s v. event-none a.l.start a.l.end (view a.st a.events.now k s v) c.if-l.true; words_in_bounds = (c.requires, record { depth = refl; lists = refl; sections = refl }) }

pub returns : goal.returns
returns c =
    let a = c.args in
    let n = c.inline.ensures in record { by_index = λ k s v. n.by_index k s v ∙ event-one a.l.start a.l.end (view a.st a.events.now k s v) c.if-l.false; words_in_bounds = (n.words_in_bounds.0, n.words_in_bounds.2) }
