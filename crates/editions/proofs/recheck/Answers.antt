use native.Mathlib.Omega.{arith}
use mathlib.Core.Path.{refl, sym}
use lib.Seq.{length-take-le}
use Rattle.parse.proofs.ParseLaws.{cleared}
use Rattle.editions.proofs.AgainLaws.{again-fits, recheck-refused, recheck-held}
use Rattle.editions.proofs.recheck.Goals as goal

pub returns-then-a-ne0 : goal.returns-then-a-ne0
returns-then-a-ne0 c =
    let a = c.args in
    recheck-refused a.limit a.lim a.text.now a.given.now a.lines.now a.events.now c.parse_within-a.result c.parse_within-a.ensures.value c.if-a-ne0.true _ _
    (cleared a.lines.now c.parse_within-a.new.lines c.clear.new.words c.clear.ensures c.parse_within-a.auto.lines)
    (cleared a.events.now c.parse_within-a.new.events c.clear-then-a-ne0.new.words c.clear-then-a-ne0.ensures c.parse_within-a.auto.events)

pub overflow_mul-w : goal.overflow_mul-w
overflow_mul-w c =
    let a = c.args in
    omega (arith, again-fits a.limit a.lim a.text.now a.given.now a.lines.now a.events.now c.parse_within-a.result c.parse_within-a.ensures.value c.if-a-ne0.false c.parse_within-a.new.events c.parse_within-a.ensures.events_after c.parse_within-a.auto.events, c.parse_within-a.auto.events, c.well_formed.1.1.1.0)

pub slice_bounds-hold-end : goal.slice_bounds-hold-end
slice_bounds-hold-end c =
    let a = c.args in
    again-fits a.limit a.lim a.text.now a.given.now a.lines.now a.events.now c.parse_within-a.result c.parse_within-a.ensures.value c.if-a-ne0.false c.parse_within-a.new.events c.parse_within-a.ensures.events_after c.parse_within-a.auto.events

pub slice_bounds-hold-end-2 : goal.slice_bounds-hold-end-2
slice_bounds-hold-end-2 c =
    let a = c.args in
    sym (length-take-le _ c.parse_within-a.new.events (again-fits a.limit a.lim a.text.now a.given.now a.lines.now a.events.now c.parse_within-a.result c.parse_within-a.ensures.value c.if-a-ne0.false c.parse_within-a.new.events c.parse_within-a.ensures.events_after c.parse_within-a.auto.events))

pub returns : goal.returns
returns c =
    let a = c.args in
    recheck-held a.limit a.lim a.text.now a.given.now a.lines.now a.events.now c.parse_within-a.result c.parse_within-a.ensures.value c.if-a-ne0.false
    c.parse_within-a.new.events c.parse_within-a.ensures.events_after c.parse_within-a.auto.events _ refl c.parse_within-a.new.lines c.parse_within-a.ensures.lines_after _ c.hold.auto.lines _ c.hold.ensures
