use Rattle.std.proofs.Common.{arith, refl, ◌∙◌, ◌≡◌, length, rules, Ok, Err}
use Rattle.refusals.proofs.NumberLaws.{number-some}
use Rattle.sets.specs.Words.{answered}
use Rattle.joins.proofs.WordLaws.{one-refused, one-read}
use Rattle.joins.proofs.one.Goals as goal

pub returns-in_err-all : goal.returns-in_err-all
returns-in_err-all c =
    let a = c.args in
    let o = c.read in
    let w = c.in_err-all.field-0.0 in
    let r : c.from_residual.result ≡ Err w = search rules in
    let d = one-refused a.bytes.now a.place (length a.elements.now) (length a.pieces.now) (answered (Err w)) o.new.elements o.new.pieces c.in_err-all.ensures.value o.ensures.elements_after o.ensures.pieces_after (number-some w.why) in
    record { value = rw r d.0; elements_after = d.1; pieces_after = d.2; room = rw r tt }

pub hand-requires : goal.hand-requires
hand-requires c = omega (arith, c.keep_one-m.ensures.2, c.in_ok-all.ensures.room, c.keep_one-m.auto.elements)

pub returns : goal.returns
returns c =
    let a = c.args in
    let o = c.read in
    let k = c.keep_one-m in
    let d = one-read a.bytes.now a.place (length a.elements.now) (length a.pieces.now) (answered (Ok c.in_ok-all.all)) o.new.elements o.new.pieces c.in_ok-all.ensures.value o.ensures.elements_after o.ensures.pieces_after refl k.result k.new.elements (k.auto.elements ∙ o.auto.elements) k.ensures.0 k.ensures.1 _ c.hand.ensures.elements_after in
    record { value = rw c.hand.ensures.value d.0; elements_after = d.1; pieces_after = d.2; room = rw c.hand.ensures.value (omega (arith, k.ensures.2, c.in_ok-all.ensures.room, k.auto.elements, c.hand.auto.elements)) }
