use native.Mathlib.Omega.{arith}
use mathlib.Core.Path.{◌∙◌, sym, ap}
use Rattle.attrs.specs.Machine.{next_of, step_of}
use Rattle.attrs.proofs.MachineLaws.{step_past}
use Rattle.attrs.proofs.step.Goals as goal

pub returns-then-state-ge18 : goal.returns-then-state-ge18
returns-then-state-ge18 c = (sym (step_past c.args.state c.args.b c.if-state-ge18.true), omega arith)

pub returns : goal.returns
unfolding step_of
returns c = (c.next.ensures.0 ∙ ap (next_of c.args.state) c.class_of.ensures.0, c.next.ensures.1)
