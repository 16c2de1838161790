use native.Mathlib.Omega.{arith}
use mathlib.Core.Path.{refl, ◌∙◌}
use Rattle.walk.proofs.KeptLaws.{kept-hit, kept_on, kept-end}
use Rattle.walk.proofs.kept_sections.Goals as goal

pub loop-n-init : goal.loop-n-init
loop-n-init c = (omega arith, refl)

pub overflow_sub-n : goal.overflow_sub-n
overflow_sub-n c = c.loop-n-test.true

pub bounds-levels-n : goal.bounds-levels-n
bounds-levels-n c = omega (arith, c.loop-n-test.true, c.loop-n.invariant.0)

pub returns-then-levels-n : goal.returns-then-levels-n
returns-then-levels-n c = (kept-hit c.args.levels.now c.args.level c.loop-n.n c.loop-n-test.true c.if-levels-n.true ∙ c.loop-n.invariant.1, c.loop-n.invariant.0)

pub overflow_sub-n-in-loop-n : goal.overflow_sub-n-in-loop-n
overflow_sub-n-in-loop-n c = c.loop-n-test.true

pub loop-n-smaller : goal.loop-n-smaller
loop-n-smaller c = omega (arith, c.loop-n-test.true)

pub loop-n-preserved : goal.loop-n-preserved
loop-n-preserved c = (omega (arith, c.loop-n.invariant.0), kept_on c.args.levels.now c.args.level c.loop-n.n c.loop-n-test.true c.if-levels-n.false ∙ c.loop-n.invariant.1)

pub returns : goal.returns
returns c = (kept-end c.args.levels.now c.args.level c.loop-n.n c.loop-n-test.false ∙ c.loop-n.invariant.1, omega arith)
