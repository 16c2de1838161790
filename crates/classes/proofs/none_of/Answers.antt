use Rattle.std.proofs.Common.{rules, tests, ◌∙◌, ap, not, ◌||◌, false}
use Rattle.std.proofs.lemmas.Iterator.{YieldsList-from_slice}
use Rattle.std.proofs.lemmas.Iterator.Consumers.{fold_from_yields_List}
use Rattle.classes.proofs.FindLaws.{none_fold}
use Rattle.classes.proofs.none_of.Goals as goal

pub returns : goal.returns
returns g c = λ p acts.
    ap not (fold_from_yields_List _ (λ a x. a || p x) false c.fold.result c.fold.ensures.ran (YieldsList-from_slice c.args.part.now c.iter.ensures.rest) (λ a x b q k. search (rules, tests, acts))) ∙ none_fold p c.args.part.now
