use Rattle.std.proofs.Common.{rules, tests, ◌∙◌, not}
use Rattle.std.proofs.lemmas.Iterator.{YieldsList-from_slice}
use Rattle.std.proofs.lemmas.Iterator.Search.{position_from_yields_List}
use Rattle.trim.proofs.TrimLaws.{front-found}
use Rattle.trim.proofs.front.Goals as goal

pub returns-clause-value : goal.returns-clause-value
returns-clause-value g c = λ f acts.
    let r = position_from_yields_List (λ x. not (f x)) _ _ c.position.result c.position.ensures.ran (YieldsList-from_slice _ c.iter.ensures.rest) (λ x b q k. search (rules, tests, acts)) in
    c.unwrap_or.ensures ∙ front-found f c.args.s.now c.position.result r
