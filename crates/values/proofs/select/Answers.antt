use mathlib.Core.Path.{sym, ap, ◌∙◌}
use mathlib.Core.List.{List}
use lib.ListN.{length}
use Rattle.sets.specs.Layout.{Listed, listed, words_of}
use Rattle.values.proofs.KeptLaws.{value-class, value-other}
use Rattle.values.proofs.select.Goals as goal

pub returns-then-same : goal.returns-then-same
returns-then-same c =
    let v = sym (value-class c.args.bytes.now c.args.key.now (listed c.args.n c.args.elements.now) (sym c.if-same.true ∙ c.same.ensures)) in
    (c.keep_all.ensures.0 ∙ ap words_of v, c.keep_all.ensures.1 ∙ ap (λ (xs : List Listed). length xs) v, c.keep_all.ensures.2)

pub returns : goal.returns
returns c =
    let v = sym (value-other c.args.bytes.now c.args.key.now (listed c.args.n c.args.elements.now) (sym c.if-same.false ∙ c.same.ensures)) in
    (c.keep_last.ensures.0 ∙ ap words_of v, c.keep_last.ensures.1 ∙ ap (λ (xs : List Listed). length xs) v, c.keep_last.ensures.2)
