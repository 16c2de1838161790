use Rattle.std.proofs.Common.{rules, tests, ◌∙◌, ap}
use Rattle.classes.proofs.LastLaws.{last-by}
use Rattle.classes.proofs.rfind.Goals as goal

pub returns-clause-place : goal.returns-clause-place
returns-clause-place g c = λ p acts.
    let u = c.rposition.ensures.runs in
    let items = rw (ap (λ x. x.rest.now) u.1 ∙ c.iter.ensures.rest) at (c.iter.ensures.runs_back u.0 u.0.seen) in
    last-by (λ y. y.now) p c.args.s.now (λ x b q k. search (rules, tests, acts)) c.rposition.result u.0.whole u.0.len u.0.at
    (λ a r f k. search rules) (items.1, items.2) (rw c.iter.ensures.rest at u.2) (rw c.iter.ensures.rest at c.rposition.ensures.bound)
