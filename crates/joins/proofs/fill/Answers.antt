use Rattle.std.proofs.Common.{length, ◌/◌, ◌≡◌, Err, rules, sym}
use Rattle.sets.specs.Layout.{spanned, listed}
use Rattle.joins.specs.Joins.{pieces_of}
use Rattle.joins.proofs.TextLaws.{fill-refused, fill-written}
use Rattle.joins.proofs.fill.Goals as goal

pub returns-in_err-put_all : goal.returns-in_err-put_all
returns-in_err-put_all c =
    let a = c.args in
    let w = c.in_err-put_all.field-0.0 in
    let r : c.from_residual.result ≡ Err w = search rules in
    let d = fill-refused a.bytes.now a.glue.now a.out.now (pieces_of (spanned (length a.pieces.now / 2) a.pieces.now) (listed a.elements.count a.elements.words.now)) w c.in_err-put_all.ensures.value in
    record { value = rw r d.0; out_after = d.1 }

pub returns : goal.returns
returns c =
    let a = c.args in
    let h = c.in_ok-n.ensures.put in
    let d = fill-written a.bytes.now a.glue.now a.out.now (pieces_of (spanned (length a.pieces.now / 2) a.pieces.now) (listed a.elements.count a.elements.words.now)) c.in_ok-n.n c.in_ok-n.ensures.value _ h.bytes in
    let p = d.1 in
    let s = sym h.same in
    record { value = d.0; out_after = search rules }
