use native.Mathlib.Omega.{arith}
use mathlib.Core.Path.{refl, sym, ap, ◌∙◌}
use lib.Seq.{length-take-le}
use Rattle.markers.specs.Markers.{marker_num}
use Rattle.terms.proofs.TermLaws.{settle_other, settle-outside, settle-item}
use Rattle.terms.proofs.settle_term.Goals as goal

pub returns-then-marker_num-ne4 : goal.returns-then-marker_num-ne4
returns-then-marker_num-ne4 c =
    let a = c.args in
    let n = c.marker_num.ensures ∙ ap marker_num c.marker_in.ensures in record { by_index = λ l v. settle_other _ a.d _ (λ z. c.if-marker_num-ne4.true (n ∙ z)); fits = (c.requires, record { lists = refl; sections = refl }) }

pub returns-then-st-d : goal.returns-then-st-d
returns-then-st-d c =
    let a = c.args in
    let f = c.refuse.ensures in
    let n = c.marker_num.ensures ∙ ap marker_num c.marker_in.ensures in record { by_index = λ l v. f.0 a.events.now a.stack.now l v ∙ settle-outside _ a.d _ (sym n ∙ c.if-marker_num-ne4.false) (omega (arith, length-take-le a.st.depth a.stack.now c.requires.depth, c.if-st-d.true)); fits = (record { words = omega (arith, f.1, c.requires.words); depth = omega (arith, f.2, c.requires.depth); room = c.requires.room }, record { lists = f.4.lists; sections = f.4.sections }) }

pub open_at-i-requires : goal.open_at-i-requires
open_at-i-requires c = (c.if-st-d.false, c.requires.depth)

pub term-requires : goal.term-requires
term-requires c = (c.requires, c.if-st-d.false)

pub returns : goal.returns
returns c =
    let a = c.args in
    let n = c.marker_num.ensures ∙ ap marker_num c.marker_in.ensures in record { by_index = λ l v. c.term.ensures.by_index l v ∙ settle-item _ a.d _ (sym n ∙ c.if-marker_num-ne4.false) _ (omega (arith, length-take-le a.st.depth a.stack.now c.requires.depth, c.if-st-d.false)) (c.open_at-i.ensures a.events.now l v); fits = c.term.ensures.fits }
