use Rattle.std.proofs.Common.{◌≡◌, None, rules}
use Rattle.sets.specs.Words.{listed_as}
use Rattle.ranks.proofs.OrderLaws.{key-match, past-key}
use Rattle.ranks.proofs.Keyed.key.Goals as goal

pub returns-in_err-get : goal.returns-in_err-get
returns-in_err-get c =
    let k = c.args.self.now in
    let r : c.from_residual.result ≡ None = search rules in
    rw r (past-key k.bytes.now k.elements.words.now k.elements.count c.args.p c.in_err-get.ensures)

pub returns : goal.returns
returns c =
    let k = c.args.self.now in
    let e = c.in_ok-get.ensures in
    key-match k.bytes.now k.elements.words.now k.elements.count c.args.p (listed_as c.in_ok-get.field-0) e.0 e.1 c.key_of.result c.key_of.ensures
