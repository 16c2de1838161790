use native.Mathlib.Omega.{arith}
use Rattle.events.proofs.OpenLaws.{open-view}
use Rattle.events.proofs.reopen.Goals as goal

pub bounds-stack-d : goal.bounds-stack-d
bounds-stack-d c = omega (arith, c.requires.0, c.requires.1)

pub returns : goal.returns
returns c = λ e l v. open-view c.args.st e c.args.stack.now c.args.d c.args.o l v c.requires.0
