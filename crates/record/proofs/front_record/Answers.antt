use Rattle.std.proofs.Common.{◌+◌, length, ap, ◌∙◌, arith, length-drop}
use Rattle.std.proofs.lemmas.List.{take_rest}
use Rattle.record.proofs.RecordLaws.{row-width, part-number, part-rest, record-front, record-read, front-size}
use Rattle.record.proofs.front_record.Goals as goal

pub bounds-bytes-0 : goal.bounds-bytes-0
bounds-bytes-0 c = omega (arith, front-size c.args.bytes.now c.requires)

pub slice_bounds-take_number-count : goal.slice_bounds-take_number-count
slice_bounds-take_number-count c = omega (arith, front-size c.args.bytes.now c.requires)

pub take_number-start-requires-clause-whole : goal.take_number-start-requires-clause-whole
take_number-start-requires-clause-whole c = omega (arith, front-size c.args.bytes.now c.requires, ap length (take_rest c.args.bytes.now 1), length-drop 1 c.args.bytes.now)

pub take_number-end-requires-clause-whole : goal.take_number-end-requires-clause-whole
take_number-end-requires-clause-whole c = omega (arith, front-size c.args.bytes.now c.requires, ap length (take_rest c.args.bytes.now 1), length-drop 1 c.args.bytes.now, c.take_number-start.ensures.left)

pub take_number-a-requires-clause-whole : goal.take_number-a-requires-clause-whole
take_number-a-requires-clause-whole c = omega (arith, record-front c.args.bytes.now c.requires c.role_of-role.ensures c.node_of-node.ensures c.row_of.result c.row_of.ensures, ap length (take_rest c.args.bytes.now 1), length-drop 1 c.args.bytes.now, c.take_number-start.ensures.left, c.take_number-end.ensures.left, c.width.ensures.value)

pub take_number-b-requires-clause-whole : goal.take_number-b-requires-clause-whole
take_number-b-requires-clause-whole c = omega (arith, record-front c.args.bytes.now c.requires c.role_of-role.ensures c.node_of-node.ensures c.row_of.result c.row_of.ensures, ap length (take_rest c.args.bytes.now 1), length-drop 1 c.args.bytes.now, c.take_number-start.ensures.left, c.take_number-end.ensures.left, c.take_number-a.ensures.left, c.width.ensures.value, c.width-2.ensures.value)

pub take_number-c-requires-clause-whole : goal.take_number-c-requires-clause-whole
take_number-c-requires-clause-whole c = omega (arith, record-front c.args.bytes.now c.requires c.role_of-role.ensures c.node_of-node.ensures c.row_of.result c.row_of.ensures, ap length (take_rest c.args.bytes.now 1), length-drop 1 c.args.bytes.now, c.take_number-start.ensures.left, c.take_number-end.ensures.left, c.take_number-a.ensures.left, c.take_number-b.ensures.left, c.width.ensures.value, c.width-2.ensures.value, c.width-3.ensures.value)

pub take_number-d-requires-clause-whole : goal.take_number-d-requires-clause-whole
take_number-d-requires-clause-whole c = omega (arith, record-front c.args.bytes.now c.requires c.role_of-role.ensures c.node_of-node.ensures c.row_of.result c.row_of.ensures, ap length (take_rest c.args.bytes.now 1), length-drop 1 c.args.bytes.now, c.take_number-start.ensures.left, c.take_number-end.ensures.left, c.take_number-a.ensures.left, c.take_number-b.ensures.left, c.take_number-c.ensures.left, c.width.ensures.value, c.width-2.ensures.value, c.width-3.ensures.value, c.width-4.ensures.value)

pub returns : goal.returns
returns c =
    let bs = c.args.bytes.now in
    let row = row-width _ _ c.row_of.result c.row_of.ensures in
    let r0 = take_rest bs 1 in
    let r1 = part-rest bs 1 3 r0 c.take_number-start.ensures.rest in
    let r2 = part-rest bs 4 3 r1 c.take_number-end.ensures.rest in
    let r3 = part-rest bs 7 c.width.result r2 c.take_number-a.ensures.rest in
    let r4 = part-rest bs (7 + c.width.result) c.width-2.result r3 c.take_number-b.ensures.rest in
    let r5 = part-rest bs (7 + c.width.result + c.width-2.result) c.width-3.result r4 c.take_number-c.ensures.rest in
    record-read bs c.role_of-role.ensures c.node_of-node.ensures (c.width.ensures.value ∙ row 0) (c.width-2.ensures.value ∙ row 1) (c.width-3.ensures.value ∙ row 2) (c.width-4.ensures.value ∙ row 3) _ _ _ _ _ _
    (part-number bs 1 3 r0 c.take_number-start.ensures.number) (part-number bs 4 3 r1 c.take_number-end.ensures.number)
    (part-number bs 7 c.width.result r2 c.take_number-a.ensures.number) (part-number bs (7 + c.width.result) c.width-2.result r3 c.take_number-b.ensures.number)
    (part-number bs (7 + c.width.result + c.width-2.result) c.width-3.result r4 c.take_number-c.ensures.number)
    (part-number bs (7 + c.width.result + c.width-2.result + c.width-3.result) c.width-4.result r5 c.take_number-d.ensures.number)

pub slice_bounds-take_number-start : goal.slice_bounds-take_number-start
slice_bounds-take_number-start c = omega (arith, front-size c.args.bytes.now c.requires)
