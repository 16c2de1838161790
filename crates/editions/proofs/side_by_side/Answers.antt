use native.Mathlib.Omega.{arith}
use mathlib.Core.Path.{sym, ◌∙◌}
use Rattle.events.proofs.PackLaws.{rest-fits}
use Rattle.tops.proofs.PlaceLaws.{walked_start, walked_next, walked-done}
use Rattle.editions.proofs.HoldLaws.{beside-start, beside_same, beside-differ, beside-done}
use Rattle.editions.proofs.side_by_side.Goals as goal
use Rattle.editions.proofs.side_by_side.Goals.{then-not-same_event, else-not-same_event}

pub loop-i-init : goal.loop-i-init
loop-i-init c = (beside-start c.args.given.now c.args.parsed.now, walked_start c.args.parsed.now c.args.out.now)

pub event_at-x-requires : goal.event_at-x-requires
event_at-x-requires c = rest-fits c.args.given.now c.loop-i.i (omega (arith, c.loop-i-test.true, c.requires))

pub event_at-y-requires : goal.event_at-y-requires
event_at-y-requires c = rest-fits c.args.parsed.now c.loop-i.i c.loop-i-test.true

pub note-w-requires : goal.note-w-requires
note-w-requires c = (omega (arith, c.loop-i.invariant.1.low.0, c.loop-i-test.true), omega (arith, c.loop-i.invariant.1.low.1, c.loop-i-test.true))

pub loop-i-preserved : goal.loop-i-preserved
loop-i-preserved c =
    let l = c.loop-i in (
      elim c.if-not-same_event.branch [
        | then-not-same_event v ↦ beside-differ c.args.given.now c.args.parsed.now c.requires l.i l.alike l.invariant.0 c.loop-i-test.true _ _ c.event_at-x.ensures c.event_at-y.ensures (sym c.same_event.ensures ∙ v.if-not-same_event.true) _ v.alike-is
        | else-not-same_event v ↦ beside_same c.args.given.now c.args.parsed.now c.requires l.i l.alike l.invariant.0 c.loop-i-test.true _ _ c.event_at-x.ensures c.event_at-y.ensures (sym c.same_event.ensures ∙ v.if-not-same_event.false) _ v.alike-is
      ],
      walked_next c.args.parsed.now c.args.out.now l.i l.w l.out l.invariant.1 c.loop-i-test.true _ c.event_at-y.ensures _ c.note-w.ensures.0 _ c.note-w.ensures.1,
    )

pub returns : goal.returns
returns c =
    let l = c.loop-i in
    let d = walked-done c.args.parsed.now c.args.out.now l.i l.w l.out l.invariant.1 c.loop-i-test.false in record { alike_value = (beside-done c.args.given.now c.args.parsed.now c.requires l.i l.alike l.invariant.0 c.loop-i-test.false, d.0); out_after = d.1 }
