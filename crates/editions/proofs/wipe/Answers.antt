use native.Mathlib.Omega.{arith}
use mathlib.Core.Path.{sym}
use lib.Seq.{length-take-le}
use Rattle.editions.proofs.AgainLaws.{wipe-all, wipe-front}
use Rattle.editions.proofs.wipe.Goals as goal

pub returns-then-events-count : goal.returns-then-events-count
returns-then-events-count c = wipe-all c.args.count c.args.events.now c.if-events-count.true _ c.clear.ensures

pub slice_bounds-clear-end-2 : goal.slice_bounds-clear-end-2
slice_bounds-clear-end-2 c = sym (length-take-le _ c.args.events.now (omega (arith, c.if-events-count.false)))

pub returns : goal.returns
returns c = wipe-front c.args.count c.args.events.now c.if-events-count.false _ c.clear-2.ensures
