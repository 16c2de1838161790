use Rattle.std.proofs.Common.{rules}
use Rattle.nests.specs.View.{nest_by}
use Rattle.nests.proofs.NestLaws.{after-enter, after-exit}
use Rattle.nests.proofs.Nest.follow.Goals as goal

pub returns-in-1-clause-by_index : goal.returns-in-1-clause-by_index
unfolding nest_by
returns-in-1-clause-by_index c =
    let n = c.args.self.now in
    λ get g. after-enter get n.room n.depth n.done c.args.x c.args.at c.in-1.is (search rules) g

pub returns-in-2-clause-by_index : goal.returns-in-2-clause-by_index
unfolding nest_by
returns-in-2-clause-by_index c =
    let n = c.args.self.now in
    λ get g. after-exit get n.room n.depth n.done c.args.x c.in-2.is (c.requires.2 c.in-2.is)
