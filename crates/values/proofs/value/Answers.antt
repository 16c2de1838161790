use Rattle.std.proofs.Common.{arith, refl, ◌∙◌, ◌≡◌, length, rules, Err}
use Rattle.refusals.proofs.NumberLaws.{number-some}
use Rattle.sets.specs.Words.{answered}
use Rattle.values.proofs.KeptLaws.{value-refused, value_read}
use Rattle.values.proofs.value.Goals as goal

pub returns-in_err-all : goal.returns-in_err-all
returns-in_err-all c =
    let a = c.args in
    let o = c.read in
    let w = c.in_err-all.field-0.0 in
    let r : c.from_residual.result ≡ Err w = search rules in
    let d = value-refused a.bytes.now a.key.now (length a.elements.now) (length a.pieces.now) (answered (Err w)) o.new.elements o.new.pieces c.in_err-all.ensures.value o.ensures.elements_after o.ensures.pieces_after (number-some w.why) in
    record { value = rw r d.0; elements_after = d.1; pieces_after = d.2; room = rw r tt }

pub select-m-requires : goal.select-m-requires
select-m-requires c = c.in_ok-all.ensures.room

pub hand-requires : goal.hand-requires
hand-requires c = omega (arith, c.select-m.ensures.2, c.in_ok-all.ensures.room, c.select-m.auto.elements)

pub returns : goal.returns
returns c =
    let a = c.args in
    let o = c.read in
    let s = c.select-m in
    let d = value_read a.bytes.now a.key.now (length a.elements.now) (length a.pieces.now) (record { number = 0; position = c.in_ok-all.all.position; count = c.in_ok-all.all.count }) o.new.elements o.new.pieces c.in_ok-all.ensures.value o.ensures.elements_after o.ensures.pieces_after s.new.elements s.result refl (s.auto.elements ∙ o.auto.elements) s.ensures.0 s.ensures.1 _ c.hand.ensures.elements_after in
    record { value = rw c.hand.ensures.value d.0; elements_after = d.1; pieces_after = d.2; room = rw c.hand.ensures.value (omega (arith, s.ensures.2, c.in_ok-all.ensures.room, s.auto.elements, c.hand.auto.elements)) }
