use Rattle.std.proofs.Common.{arith, refl, ◌∙◌, ◌≡◌, length, rules, Ok, Err}
use Rattle.refusals.proofs.NumberLaws.{number-some}
use Rattle.sets.specs.Words.{answered, listed_as}
use Rattle.pairs.specs.Pairs.{lesser}
use Rattle.pairs.proofs.ShowLaws.{pairs-refused, pairs-paired, paired-refused, paired-shown, lesser-min}
use Rattle.pairs.proofs.paired.Goals as goal

pub returns-in_err-all : goal.returns-in_err-all
returns-in_err-all c =
    let a = c.args in
    let o = c.read in
    let w = c.in_err-all.field-0.0 in
    let r : c.from_residual.result ≡ Err w = search rules in
    let d = pairs-refused a.bytes.now (length a.elements.now) (length a.pieces.now) (lesser (length a.places.now) (length a.spare.now)) (answered (Err w)) o.new.elements o.new.pieces c.in_err-all.ensures.value o.ensures.elements_after o.ensures.pieces_after (number-some w.why) in
    record { value = rw r d.0; elements_after = d.1; pieces_after = d.2 }

pub returns-then-room-n : goal.returns-then-room-n
returns-then-room-n c =
    let a = c.args in
    let o = c.read in
    let l = lesser (length a.places.now) (length a.spare.now) in
    let e = c.min-room.ensures ∙ lesser-min (length a.places.now) (length a.spare.now) in
    let d = paired-refused a.bytes.now o.new.elements o.new.pieces l c.in_ok-all.all.count (omega (arith, e, c.if-room-n.true)) (listed_as c.element_at-lacks.result) (rw (← e) c.element_at-lacks.ensures) c.fill.new.self c.fill-then-room-n.new.self (c.fill.ensures.after (λ y p. p)) (c.fill-then-room-n.ensures.after (λ y p. p)) in
    let p = pairs-paired a.bytes.now (length a.elements.now) (length a.pieces.now) l (answered (Ok c.in_ok-all.all)) o.new.elements o.new.pieces c.in_ok-all.ensures.value o.ensures.elements_after o.ensures.pieces_after refl o.auto.elements o.auto.pieces _ _ _ d in
    record { value = p.0; elements_after = p.1; pieces_after = p.2 }

pub returns : goal.returns
returns c =
    let a = c.args in
    let o = c.read in
    let s = c.sorted-m in
    let l = lesser (length a.places.now) (length a.spare.now) in
    let e = c.min-room.ensures ∙ lesser-min (length a.places.now) (length a.spare.now) in
    let d = paired-shown a.bytes.now o.new.elements o.new.pieces l c.in_ok-all.all.count (omega (arith, e, c.if-room-n.false)) s.result s.new.elements _ s.auto.elements s.ensures.0 s.ensures.1 c.hand.ensures.elements_after in
    let p = pairs-paired a.bytes.now (length a.elements.now) (length a.pieces.now) l (answered (Ok c.in_ok-all.all)) o.new.elements o.new.pieces c.in_ok-all.ensures.value o.ensures.elements_after o.ensures.pieces_after refl o.auto.elements o.auto.pieces _ _ _ d in
    record { value = rw c.hand.ensures.value p.0; elements_after = p.1; pieces_after = p.2 }
