use native.Mathlib.Omega.{arith}
use mathlib.Core.Path.{sym, ap₂, ◌∙◌}
use Prim.Native.Nat.{◌-◌}
use lib.ListN.{length}
use Rattle.equals.specs.Same.{same}
use Rattle.editions.proofs.RunLaws.{front_fits, left-few, back_start, back-differ, back-again, back_done}
use Rattle.editions.proofs.back.Goals as goal

pub overflow_sub-os : goal.overflow_sub-os
overflow_sub-os c = (front_fits c.args.older.now c.args.os.now c.args.newer.now c.args.ns.now c.args.k c.requires).0

pub overflow_sub-ns : goal.overflow_sub-ns
overflow_sub-ns c = (front_fits c.args.older.now c.args.os.now c.args.newer.now c.args.ns.now c.args.k c.requires).1

pub loop-r-init : goal.loop-r-init
loop-r-init c = back_start c.args.older.now c.args.os.now c.args.newer.now c.args.ns.now c.args.k c.requires

pub overflow_sub-os-in-loop-r : goal.overflow_sub-os-in-loop-r
overflow_sub-os-in-loop-r c = omega (arith, (left-few (length c.args.os.now - c.args.k) (length c.args.ns.now - c.args.k) c.left-most.result c.loop-r.r c.left-most.ensures c.loop-r-test.true).0)

pub overflow_sub-os-in-loop-r-2 : goal.overflow_sub-os-in-loop-r-2
overflow_sub-os-in-loop-r-2 c = omega (arith, (left-few (length c.args.os.now - c.args.k) (length c.args.ns.now - c.args.k) c.left-most.result c.loop-r.r c.left-most.ensures c.loop-r-test.true).0)

pub overflow_sub-ns-in-loop-r : goal.overflow_sub-ns-in-loop-r
overflow_sub-ns-in-loop-r c = omega (arith, (left-few (length c.args.os.now - c.args.k) (length c.args.ns.now - c.args.k) c.left-most.result c.loop-r.r c.left-most.ensures c.loop-r-test.true).1)

pub overflow_sub-ns-in-loop-r-2 : goal.overflow_sub-ns-in-loop-r-2
overflow_sub-ns-in-loop-r-2 c = omega (arith, (left-few (length c.args.os.now - c.args.k) (length c.args.ns.now - c.args.k) c.left-most.result c.loop-r.r c.left-most.ensures c.loop-r-test.true).1)

pub returns-then-not-same : goal.returns-then-not-same
returns-then-not-same c =
    back-differ c.args.older.now c.args.os.now c.args.newer.now c.args.ns.now c.args.k c.requires c.left-most.result c.loop-r.p c.loop-r.q c.loop-r.r c.left-most.ensures c.loop-r.invariant c.loop-r-test.true
    _ _ c.start_of-a.ensures c.start_of-b.ensures (sym (c.same.ensures ∙ ap₂ same c.part.ensures c.part-in-loop-r.ensures) ∙ c.if-not-same.true)

pub loop-r-preserved : goal.loop-r-preserved
loop-r-preserved c =
    back-again c.args.older.now c.args.os.now c.args.newer.now c.args.ns.now c.args.k c.requires c.left-most.result c.loop-r.p c.loop-r.q c.loop-r.r c.left-most.ensures c.loop-r.invariant c.loop-r-test.true
    _ _ c.start_of-a.ensures c.start_of-b.ensures (sym (c.same.ensures ∙ ap₂ same c.part.ensures c.part-in-loop-r.ensures) ∙ c.if-not-same.false)

pub returns : goal.returns
returns c = back_done c.args.older.now c.args.os.now c.args.newer.now c.args.ns.now c.args.k c.requires c.left-most.result c.loop-r.p c.loop-r.q c.loop-r.r c.left-most.ensures c.loop-r.invariant c.loop-r-test.false
