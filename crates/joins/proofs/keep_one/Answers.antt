use Rattle.std.proofs.Common.{ap, ◌∙◌, ◌≡◌, [], ◌∷◌}
use Rattle.sets.specs.Layout.{Listed, words_of}
use Rattle.std.proofs.lemmas.List.Edits.{sets}
use Rattle.joins.proofs.WordLaws.{one_none, one-there}
use Rattle.joins.proofs.keep_one.Goals as goal

pub returns-then-n-place : goal.returns-then-n-place
returns-then-n-place c = one_none c.args.n c.args.place c.args.elements.now c.if-n-place.true

pub returns : goal.returns
returns c = one-there c.args.n c.args.place c.args.elements.now c.if-n-place.false c.requires _ (c.put_element.ensures ∙ ap (λ (x : Listed). sets c.args.elements.now 0 (words_of (x ∷ []))) c.element_at-e.ensures)
