use Rattle.lists.proofs.ListLaws.{last_view}
use Rattle.lists.proofs.last_list.Goals as goal

pub returns : goal.returns
returns c = λ e k v. last_view c.args.st c.args.lists.now c.requires.1 e k v c.requires.0 _ _ c.type_of.ensures c.type_of-2.ensures
