use Rattle.std.proofs.Common.{sym}
use Rattle.sets.specs.Words.{listed_as}
use Rattle.keys.proofs.KeyLaws.{key-class, key-id, key-other}
use Rattle.keys.proofs.key_by.Goals as goal

pub returns-then-is : goal.returns-then-is
returns-then-is c =
    let a = c.args in
    key-class a.bytes.now a.class.now a.id.now (listed_as a.e) (sym c.if-is.ensures)

pub returns-then-is-2 : goal.returns-then-is-2
returns-then-is-2 c =
    let a = c.args in
    key-id a.bytes.now a.class.now a.id.now (listed_as a.e) (sym c.if-is.ensures) (sym c.if-is-2.ensures)

pub returns : goal.returns
returns c =
    let a = c.args in
    key-other a.bytes.now a.class.now a.id.now (listed_as a.e) (sym c.if-is.ensures) (sym c.if-is-2.ensures) _ c.part.ensures
