use native.Mathlib.Omega.{arith}
use mathlib.Core.Path.{sym}
use lib.Seq.{get_or-take}
use Rattle.events.proofs.word.Goals as goal

pub offset_bounds-events-i : goal.offset_bounds-events-i
offset_bounds-events-i c = omega (arith, c.requires.0, c.requires.1)

pub bounds-events-i : goal.bounds-events-i
bounds-events-i c = omega (arith, c.requires.0, c.requires.1)

pub returns : goal.returns
returns c = λ k l v. sym (get_or-take c.args.st.words c.args.events.now c.args.i 0 c.requires.0)
