use Rattle.lists.proofs.ListLaws.{set_view}
use Rattle.lists.proofs.set_list.Goals as goal

pub returns : goal.returns
returns c = λ e k v. set_view c.args.st c.args.lists.now c.requires.1 e k v c.requires.0 c.args.o c.store_list.new.lists c.store_list.ensures
