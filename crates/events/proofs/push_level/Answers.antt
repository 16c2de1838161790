use native.Mathlib.Omega.{arith}
use mathlib.Core.Path.{refl}
use Rattle.events.proofs.OpenLaws.{level-view}
use Rattle.events.proofs.push_level.Goals as goal

pub bounds-levels-n : goal.bounds-levels-n
bounds-levels-n c = c.requires.1

pub overflow_add-r : goal.overflow_add-r
overflow_add-r c = omega (arith, c.requires.1)

pub returns : goal.returns
returns c = record { by_index = λ e k l. level-view c.args.st c.args.n c.args.level e k l c.args.levels.now c.requires.0 c.requires.1; words_value = (refl, refl, refl, refl) }
