use Rattle.std.proofs.Common.{refl, ◌≡◌, length, rules, Ok, Err}
use Rattle.refusals.proofs.NumberLaws.{number-some}
use Rattle.sets.specs.Words.{answered}
use Rattle.joins.specs.Joins.{one_of}
use Rattle.joins.proofs.WordLaws.{joined-refused, joined-filled}
use Rattle.joins.proofs.text.Goals as goal

pub returns-in_err-there : goal.returns-in_err-there
returns-in_err-there c =
    let a = c.args in
    let o = c.one in
    let w = c.in_err-there.field-0.0 in
    let r : c.from_residual.result ≡ Err w = search rules in
    let d = joined-refused a.bytes.now a.out.now (one_of a.bytes.now a.place (length a.elements.now) (length a.pieces.now)) (answered (Err w)) o.new.elements o.new.pieces c.in_err-there.ensures.value o.ensures.elements_after o.ensures.pieces_after (number-some w.why) in
    record { value = rw r d.0; elements_after = d.1.0; pieces_after = d.1.1.0; out_after = d.1.1.1 }

pub returns : goal.returns
returns c =
    let a = c.args in
    let o = c.one in
    let d = joined-filled a.bytes.now a.out.now (one_of a.bytes.now a.place (length a.elements.now) (length a.pieces.now)) (answered (Ok c.in_ok-there.there)) o.new.elements o.new.pieces c.in_ok-there.ensures.value o.ensures.elements_after o.ensures.pieces_after refl _ _ c.fill_by_kind.ensures.value c.fill_by_kind.ensures.out_after in
    record { value = d.0; elements_after = d.1.0; pieces_after = d.1.1.0; out_after = d.1.1.1 }
