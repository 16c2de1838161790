use native.Mathlib.Omega.{arith}
use lib.ListN.{length-set}
use Rattle.events.proofs.EventLaws.{put-words}
use Rattle.events.proofs.put.Goals as goal

pub bounds-events-i-2 : goal.bounds-events-i-2
bounds-events-i-2 c = simp length-set (omega arith)

pub bounds-events-i-3 : goal.bounds-events-i-3
bounds-events-i-3 c = simp length-set (omega arith)

pub bounds-events-i-4 : goal.bounds-events-i-4
bounds-events-i-4 c = simp length-set (omega arith)

pub bounds-events-i-5 : goal.bounds-events-i-5
bounds-events-i-5 c = simp length-set (omega arith)

pub bounds-events-i-6 : goal.bounds-events-i-6
bounds-events-i-6 c = simp length-set (omega arith)

pub bounds-events-i-7 : goal.bounds-events-i-7
bounds-events-i-7 c = simp length-set (omega arith)

pub bounds-events-i-8 : goal.bounds-events-i-8
bounds-events-i-8 c = simp length-set (omega arith)

pub returns : goal.returns
returns c = put-words c.args.events.now c.args.i c.args.x
