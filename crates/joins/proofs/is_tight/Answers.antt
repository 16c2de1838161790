use Rattle.sets.specs.Words.{listed_as}
use Rattle.std.proofs.Common.{◌∙◌}
use Rattle.joins.proofs.WordLaws.{tight-none, tight-first}
use Rattle.joins.proofs.is_tight.Goals as goal

pub returns-in-Some : goal.returns-in-Some
returns-in-Some c =
    let es = c.args.elements in
    c.is.ensures ∙ tight-first es.count es.words.now (listed_as c.in-Some.e) c.in-Some.ensures.0 c.in-Some.ensures.1

pub returns-in-None : goal.returns-in-None
returns-in-None c = tight-none c.args.elements.count c.args.elements.words.now c.in-None.ensures
