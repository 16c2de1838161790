use mathlib.Core.Path.{sym, ap₂, ◌∙◌}
use Rattle.equals.specs.Same.{same}
use Rattle.editions.proofs.RunLaws.{front-start, front-differ, front-again, front-done}
use Rattle.editions.proofs.front.Goals as goal

pub loop-k-init : goal.loop-k-init
loop-k-init c = front-start c.args.older.now c.args.os.now c.args.newer.now c.args.ns.now _ _ c.start_of-a.ensures c.start_of-b.ensures

pub returns-then-not-same : goal.returns-then-not-same
returns-then-not-same c =
    front-differ c.args.older.now c.args.os.now c.args.newer.now c.args.ns.now c.least-most.result c.loop-k.a c.loop-k.b c.loop-k.k c.least-most.ensures c.loop-k.invariant c.loop-k-test.true
    _ _ c.start_of-p.ensures c.start_of-q.ensures (sym (c.same.ensures ∙ ap₂ same c.part.ensures c.part-in-loop-k.ensures) ∙ c.if-not-same.true)

pub loop-k-preserved : goal.loop-k-preserved
loop-k-preserved c =
    front-again c.args.older.now c.args.os.now c.args.newer.now c.args.ns.now c.least-most.result c.loop-k.a c.loop-k.b c.loop-k.k c.least-most.ensures c.loop-k.invariant c.loop-k-test.true
    _ _ c.start_of-p.ensures c.start_of-q.ensures (sym (c.same.ensures ∙ ap₂ same c.part.ensures c.part-in-loop-k.ensures) ∙ c.if-not-same.false)

pub returns : goal.returns
returns c = front-done c.args.older.now c.args.os.now c.args.newer.now c.args.ns.now c.least-most.result c.loop-k.a c.loop-k.b c.loop-k.k c.least-most.ensures c.loop-k.invariant c.loop-k-test.false
