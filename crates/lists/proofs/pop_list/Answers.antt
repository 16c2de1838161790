use native.Mathlib.Omega.{arith}
use mathlib.Core.Path.{refl}
use Rattle.lists.proofs.ListLaws.{pop-view}
use Rattle.lists.proofs.pop_list.Goals as goal

pub returns : goal.returns
returns c = (λ e k l v h. pop-view c.args.st l h e k v c.requires, omega arith, refl, refl, refl)
