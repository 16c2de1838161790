use native.Mathlib.Omega.{arith}
use mathlib.Core.Path.{◌∙◌}
use Rattle.editions.proofs.RunLaws.{runs_fit}
use Rattle.editions.proofs.BetweenLaws.{part-older, part-new, part_same}
use Rattle.editions.proofs.between.Goals as goal

pub overflow_sub-ns : goal.overflow_sub-ns
overflow_sub-ns c = omega (arith, (runs_fit c.args.older.now c.args.os.now c.args.newer.now c.args.ns.now c.front-k.result c.front-k.ensures c.back-r.result c.back-r.ensures).1)

pub overflow_add-k : goal.overflow_add-k
overflow_add-k c = omega (arith, (runs_fit c.args.older.now c.args.os.now c.args.newer.now c.args.ns.now c.front-k.result c.front-k.ensures c.back-r.result c.back-r.ensures).0, c.well_formed.1.0)

pub returns-then-k-r : goal.returns-then-k-r
returns-then-k-r c =
    c.part_of.ensures
    ∙ part-new c.args.older.now c.args.os.now c.args.newer.now c.args.ns.now c.front-k.result c.back-r.result c.front-k.ensures c.back-r.ensures _ _ c.start_of-start.ensures c.start_of-end.ensures c.if-k-r.true

pub returns-then-k-r-2 : goal.returns-then-k-r-2
returns-then-k-r-2 c =
    c.part_of-then-k-r-2.ensures
    ∙ part_same c.args.older.now c.args.os.now c.args.newer.now c.args.ns.now c.front-k.result c.back-r.result c.front-k.ensures c.back-r.ensures _ _ c.start_of-start.ensures c.start_of-end.ensures c.if-k-r.false c.if-k-r-2.true

pub overflow_sub-os : goal.overflow_sub-os
overflow_sub-os c = omega (arith, (runs_fit c.args.older.now c.args.os.now c.args.newer.now c.args.ns.now c.front-k.result c.front-k.ensures c.back-r.result c.back-r.ensures).0)

pub returns : goal.returns
returns c =
    c.part_of-2.ensures
    ∙ part-older c.args.older.now c.args.os.now c.args.newer.now c.args.ns.now c.front-k.result c.back-r.result c.front-k.ensures c.back-r.ensures _ _ c.start_of.ensures c.start_of-2.ensures c.if-k-r.false c.if-k-r-2.false
