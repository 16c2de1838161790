use mathlib.Core.Path.{refl, sym, ◌∙◌}
use lib.Seq.{length-take-le}
use Rattle.events.specs.View.{view}
use Rattle.meet.proofs.AdmitLaws.{admit-high, admit-deep, admit-many, admit-ok}
use Rattle.meet.proofs.admit.Goals as goal

pub returns-then-too_high : goal.returns-then-too_high
returns-then-too_high c =
    let a = c.args in
    let f = c.refuse.ensures in
    (λ e k l. f.0 e k l a.levels.now ∙ admit-high a.lim a.left a.top a.m (view a.st e k l a.levels.now) (sym c.too_high.ensures ∙ c.if-too_high.true), f.1, f.4)

pub returns-then-too_deep : goal.returns-then-too_deep
returns-then-too_deep c =
    let a = c.args in
    let f = c.refuse-then-too_deep.ensures in
    (λ e k l. f.0 e k l a.levels.now ∙ admit-deep a.lim a.left a.top a.m (view a.st e k l a.levels.now) (sym c.too_high.ensures ∙ c.if-too_high.false) (sym c.too_deep.ensures ∙ c.if-too_deep.true), f.1, f.4)

pub slice_bounds-too_many-end : goal.slice_bounds-too_many-end
slice_bounds-too_many-end c = sym (length-take-le c.args.st.sections c.args.levels.now c.requires)

pub returns-then-too_many : goal.returns-then-too_many
returns-then-too_many c =
    let a = c.args in
    let f = c.refuse-then-too_many.ensures in
    (λ e k l. f.0 e k l a.levels.now ∙ admit-many a.lim a.left a.top a.m (view a.st e k l a.levels.now) (sym c.too_high.ensures ∙ c.if-too_high.false) (sym c.too_deep.ensures ∙ c.if-too_deep.false) (sym c.too_many.ensures ∙ c.if-too_many.true), f.1, f.4)

pub returns : goal.returns
returns c =
    let a = c.args in
    (λ e k l. admit-ok a.lim a.left a.top a.m (view a.st e k l a.levels.now) (sym c.too_high.ensures ∙ c.if-too_high.false) (sym c.too_deep.ensures ∙ c.if-too_deep.false) (sym c.too_many.ensures ∙ c.if-too_many.false), refl, record { depth = refl; lists = refl; sections = refl })
