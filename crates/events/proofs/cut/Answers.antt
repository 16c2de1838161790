use mathlib.Core.Path.{refl}
use Rattle.events.proofs.EventLaws.{cut-view}
use Rattle.events.proofs.cut.Goals as goal

pub returns : goal.returns
returns c = (cut-view c.args.st c.args.n c.requires, refl, record { depth = refl; lists = refl; sections = refl })
