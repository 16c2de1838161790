use Rattle.ranks.proofs.OrderLaws.{like-unkeyed, like-keyed, like-keys}
use Rattle.ranks.proofs.Keyed.like.Goals as goal

pub returns-in_default : goal.returns-in_default
returns-in_default c =
    let k = c.args.self.now in
    like-unkeyed k.bytes.now k.elements.words.now k.elements.count c.args.p c.args.q c.in_default.ensures

pub returns-in_default-key : goal.returns-in_default-key
returns-in_default-key c =
    let k = c.args.self.now in
    like-keyed k.bytes.now k.elements.words.now k.elements.count c.args.p c.args.q c.in-Some.a.now c.in-Some.ensures c.in_default-key.ensures

pub returns : goal.returns
returns c =
    let k = c.args.self.now in
    like-keys k.bytes.now k.elements.words.now k.elements.count c.args.p c.args.q c.in-Some.a.now c.in-Some-key.b.now c.in-Some.ensures c.in-Some-key.ensures _ c.same.ensures
