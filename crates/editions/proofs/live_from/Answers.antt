use native.Mathlib.Omega.{arith}
use mathlib.Core.Path.{refl, sym, ◌∙◌}
use Rattle.events.proofs.PackLaws.{rest-fits}
use Rattle.editions.proofs.AgainstLaws.{live-found, live_on}
use Rattle.editions.proofs.live_from.Goals as goal

pub loop-i-init : goal.loop-i-init
loop-i-init c = (c.requires, refl)

pub event_at-requires : goal.event_at-requires
event_at-requires c = rest-fits c.args.words.now c.loop-i.i c.loop-i-test.true

pub returns-then-not-is_stale : goal.returns-then-not-is_stale
returns-then-not-is_stale c = (c.loop-i.invariant.0, live-found c.args.words.now c.args.from c.loop-i.i c.loop-i.invariant.1 c.loop-i-test.true _ c.event_at.ensures (sym c.is_stale.ensures ∙ c.if-not-is_stale.true), c.loop-i.invariant.1)

pub loop-i-preserved : goal.loop-i-preserved
loop-i-preserved c = (omega arith, live_on c.args.words.now c.args.from c.loop-i.i c.loop-i.invariant.1 c.loop-i-test.true _ c.event_at.ensures (sym c.is_stale.ensures ∙ c.if-not-is_stale.false))

pub returns : goal.returns
returns c = (c.loop-i.invariant.0, (λ h. absurd (omega (arith, h, c.loop-i-test.false))), c.loop-i.invariant.1)
