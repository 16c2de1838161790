use Rattle.events.proofs.StaleLaws.{stale-1, stale-2, stale-3, stale-4, stale-5, stale-6, stale-7, stale-8}
use Rattle.events.proofs.is_stale.Goals as goal

pub returns-then-x-ne-STALE : goal.returns-then-x-ne-STALE
returns-then-x-ne-STALE c = stale-1 c.args.x c.if-x-ne-STALE.true

pub returns-then-x-ne0 : goal.returns-then-x-ne0
returns-then-x-ne0 c = stale-2 c.args.x c.if-x-ne-STALE.false c.if-x-ne0.true

pub returns-then-x-ne0-2 : goal.returns-then-x-ne0-2
returns-then-x-ne0-2 c = stale-3 c.args.x c.if-x-ne-STALE.false c.if-x-ne0.false c.if-x-ne0-2.true

pub returns-then-x-ne0-3 : goal.returns-then-x-ne0-3
returns-then-x-ne0-3 c = stale-4 c.args.x c.if-x-ne-STALE.false c.if-x-ne0.false c.if-x-ne0-2.false c.if-x-ne0-3.true

pub returns-then-x-ne0-4 : goal.returns-then-x-ne0-4
returns-then-x-ne0-4 c = stale-5 c.args.x c.if-x-ne-STALE.false c.if-x-ne0.false c.if-x-ne0-2.false c.if-x-ne0-3.false c.if-x-ne0-4.true

pub returns-then-x-ne0-5 : goal.returns-then-x-ne0-5
returns-then-x-ne0-5 c = stale-6 c.args.x c.if-x-ne-STALE.false c.if-x-ne0.false c.if-x-ne0-2.false c.if-x-ne0-3.false c.if-x-ne0-4.false c.if-x-ne0-5.true

pub returns-then-x-ne0-6 : goal.returns-then-x-ne0-6
returns-then-x-ne0-6 c = stale-7 c.args.x c.if-x-ne-STALE.false c.if-x-ne0.false c.if-x-ne0-2.false c.if-x-ne0-3.false c.if-x-ne0-4.false c.if-x-ne0-5.false c.if-x-ne0-6.true

pub returns : goal.returns
returns c = stale-8 c.args.x c.if-x-ne-STALE.false c.if-x-ne0.false c.if-x-ne0-2.false c.if-x-ne0-3.false c.if-x-ne0-4.false c.if-x-ne0-5.false c.if-x-ne0-6.false
