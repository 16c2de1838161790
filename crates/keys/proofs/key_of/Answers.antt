use Rattle.std.proofs.Common.{sym}
use Rattle.sets.specs.Words.{listed_as}
use Rattle.keys.proofs.KeyLaws.{key-comment, keyed-is}
use Rattle.keys.proofs.key_of.Goals as goal

pub returns-then-is : goal.returns-then-is
returns-then-is c = key-comment (listed_as c.args.e) (sym c.if-is.ensures)

pub returns : goal.returns
returns c = (keyed-is (listed_as c.args.e) (sym c.if-is.ensures), c.key_by.ensures)
