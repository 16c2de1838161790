use native.Mathlib.Omega.{arith}
use mathlib.Core.Path.{sym}
use lib.Seq.{get_or-take}
use Rattle.events.proofs.open_at.Goals as goal

pub offset_bounds-stack-d : goal.offset_bounds-stack-d
offset_bounds-stack-d c = omega (arith, c.requires.0, c.requires.1)

pub bounds-stack-d : goal.bounds-stack-d
bounds-stack-d c = omega (arith, c.requires.0, c.requires.1)

pub returns : goal.returns
returns c = λ e l v. sym (get_or-take c.args.st.depth c.args.stack.now c.args.d 0 c.requires.0)
