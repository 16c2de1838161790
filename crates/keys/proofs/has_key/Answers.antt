use Rattle.sets.specs.Words.{listed_as}
use Rattle.keys.proofs.KeyLaws.{has-none, has_some}
use Rattle.keys.proofs.has_key.Goals as goal

pub returns-in-Some : goal.returns-in-Some
returns-in-Some c =
    let e = c.in-Some.ensures in
    has_some c.args.bytes.now c.args.key.now (listed_as c.args.e) e.0 _ c.in-Some.k.now e.1 c.same.ensures

pub returns-in-None : goal.returns-in-None
returns-in-None c = has-none c.args.bytes.now c.args.key.now (listed_as c.args.e) c.in-None.ensures
