use native.Mathlib.Omega.{arith}
use mathlib.Core.Path.{sym, ◌∙◌}
use Rattle.events.proofs.PackLaws.{rest-fits}
use Rattle.editions.proofs.AgainstLaws.{against-start, against-stale, against-short, against-differ, against-next, against-left, against-done}
use Rattle.editions.proofs.against.Goals as goal

pub loop-i-init : goal.loop-i-init
loop-i-init c = against-start c.args.given.now c.args.parsed.now _ _ c.requires (record { within = c.live_from-j.ensures.0; live = c.live_from-j.ensures.1 }) c.live_from-j.ensures.2

pub event_at-x-requires : goal.event_at-x-requires
event_at-x-requires c = rest-fits c.args.given.now c.loop-i.i c.loop-i-test.true

pub loop-i-preserved-then-is_stale : goal.loop-i-preserved-then-is_stale
loop-i-preserved-then-is_stale c = against-stale c.args.given.now c.args.parsed.now _ c.loop-i.i c.loop-i.j c.loop-i.invariant c.loop-i-test.true _ c.event_at-x.ensures (sym c.is_stale.ensures ∙ c.if-is_stale.true)

pub returns-then-count-j : goal.returns-then-count-j
returns-then-count-j c = c.stray.ensures ∙ against-short c.args.given.now c.args.parsed.now _ c.loop-i.i c.loop-i.j c.loop-i.invariant c.loop-i-test.true _ c.event_at-x.ensures (sym c.is_stale.ensures ∙ c.if-is_stale.false) c.if-count-j.true

pub event_at-requires : goal.event_at-requires
event_at-requires c = rest-fits c.args.parsed.now c.loop-i.j (omega (arith, c.if-count-j.false))

pub returns-then-not-same_event : goal.returns-then-not-same_event
returns-then-not-same_event c =
    c.stray-then-not-same_event.ensures
    ∙ against-differ c.args.given.now c.args.parsed.now _ c.loop-i.i c.loop-i.j c.loop-i.invariant c.loop-i-test.true _ c.event_at-x.ensures (sym c.is_stale.ensures ∙ c.if-is_stale.false)
    (omega (arith, c.if-count-j.false)) _ c.event_at.ensures (sym c.same_event.ensures ∙ c.if-not-same_event.true)

pub live_from-j-requires-in-loop-i : goal.live_from-j-requires-in-loop-i
live_from-j-requires-in-loop-i c = omega (arith, c.if-count-j.false)

pub loop-i-preserved : goal.loop-i-preserved
loop-i-preserved c =
    against-next c.args.given.now c.args.parsed.now _ c.loop-i.i c.loop-i.j c.loop-i.invariant c.loop-i-test.true _ c.event_at-x.ensures (sym c.is_stale.ensures ∙ c.if-is_stale.false)
    (omega (arith, c.if-count-j.false)) _ c.event_at.ensures (sym c.same_event.ensures ∙ c.if-not-same_event.false) _ (record { within = c.live_from-j-in-loop-i.ensures.0; live = c.live_from-j-in-loop-i.ensures.1 }) c.live_from-j-in-loop-i.ensures.2

pub returns-then-j-count : goal.returns-then-j-count
returns-then-j-count c = c.stray-then-j-count.ensures ∙ against-left c.args.given.now c.args.parsed.now _ c.loop-i.i c.loop-i.j c.loop-i.invariant c.loop-i-test.false c.if-j-count.true

pub returns : goal.returns
returns c = against-done c.args.given.now c.args.parsed.now _ c.loop-i.i c.loop-i.j c.loop-i.invariant c.loop-i-test.false c.if-j-count.false
