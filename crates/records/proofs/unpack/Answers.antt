use native.Mathlib.Omega.{arith}
use mathlib.Core.Path.{refl}
use Rattle.fields.specs.Fields.{offset, size_of}
use Rattle.records.proofs.ReadLaws.{size-some, unpack-start, unpack-fits, unpack-inside, unpack-room, unpack-again, unpack-cleared, unpack-end}
use Rattle.records.proofs.unpack.Goals as goal

pub loop-at-init : goal.loop-at-init
loop-at-init c = unpack-start c.args.bytes.now c.args.words.now c.requires.bytes_value

pub get_record-x-requires : goal.get_record-x-requires
get_record-x-requires c =
    let a = c.args in
    let l = c.loop-at in
    unpack-fits a.bytes.now a.words.now l.words l.at l.w l.invariant c.loop-at-test.true

pub put-requires : goal.put-requires
put-requires c =
    let a = c.args in
    let l = c.loop-at in
    let x = c.get_record-x in
    unpack-room a.bytes.now a.words.now l.words l.at l.w l.invariant c.loop-at-test.true x.result x.ensures (size_of offset x.result.role x.result.node) refl c.requires.bytes_in_bounds

pub overflow_add-at : goal.overflow_add-at
overflow_add-at c =
    let a = c.args in
    let l = c.loop-at in
    let x = c.get_record-x in
    omega (arith, unpack-inside a.bytes.now a.words.now l.words l.at l.w l.invariant c.loop-at-test.true x.result x.ensures c.size_of-at.result c.size_of-at.ensures)

pub overflow_add-w : goal.overflow_add-w
overflow_add-w c =
    let a = c.args in
    let l = c.loop-at in
    let x = c.get_record-x in
    omega (arith, unpack-room a.bytes.now a.words.now l.words l.at l.w l.invariant c.loop-at-test.true x.result x.ensures c.size_of-at.result c.size_of-at.ensures c.requires.bytes_in_bounds)

pub loop-at-smaller : goal.loop-at-smaller
loop-at-smaller c =
    let x = c.get_record-x.result in
    omega (arith, size-some offset x.role x.node, c.size_of-at.ensures, c.loop-at-test.true)

pub loop-at-preserved : goal.loop-at-preserved
loop-at-preserved c =
    let a = c.args in
    let l = c.loop-at in
    let x = c.get_record-x in
    unpack-again a.bytes.now a.words.now l.words l.at l.w l.invariant c.loop-at-test.true x.result x.ensures c.size_of-at.result c.size_of-at.ensures c.put.new.events c.put.ensures

pub clear-requires : goal.clear-requires
clear-requires c =
    let a = c.args in
    let l = c.loop-at in
    unpack-cleared a.bytes.now a.words.now l.words l.at l.w l.invariant c.loop-at-test.false c.requires.bytes_in_bounds

pub returns : goal.returns
returns c =
    let a = c.args in
    let l = c.loop-at in
    unpack-end a.bytes.now a.words.now l.words l.at l.w l.invariant c.loop-at-test.false c.requires.bytes_in_bounds c.clear.new.words c.clear.ensures
