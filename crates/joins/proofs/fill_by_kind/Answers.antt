use Rattle.std.proofs.Common.{ap, ◌∙◌}
use Rattle.sets.specs.Layout.{listed}
use Rattle.joins.specs.Joins.{Filled}
use Rattle.joins.proofs.WordLaws.{filled-tight, filled-spaced}
use Rattle.joins.proofs.fill_by_kind.Goals as goal

pub returns-then-is_tight : goal.returns-then-is_tight
returns-then-is_tight c =
    let a = c.args in
    let d = filled-tight a.bytes.now a.out.now a.pieces.now (listed a.elements.count a.elements.words.now) c.if-is_tight.ensures in
    record { value = c.fill.ensures.value ∙ ap (λ (f : Filled). f.answer) d; out_after = c.fill.ensures.out_after ∙ ap (λ (f : Filled). f.out) d }

pub returns : goal.returns
returns c =
    let a = c.args in
    let d = filled-spaced a.bytes.now a.out.now a.pieces.now (listed a.elements.count a.elements.words.now) c.if-is_tight.ensures in
    record { value = c.fill-2.ensures.value ∙ ap (λ (f : Filled). f.answer) d; out_after = c.fill-2.ensures.out_after ∙ ap (λ (f : Filled). f.out) d }
