use Rattle.std.proofs.Common.{length, ◌/◌, ◌≡◌, Err, rules, [], ◌∷◌, ◌+◌}
use Rattle.sets.specs.Words.{spanned_as}
use Rattle.joins.proofs.PutLaws.{putting_end, putting_stops, putting_some, from_next, from_end, from}
use Rattle.joins.proofs.Joining.put_pieces.Goals as goal

pub returns-in_err-n-clause-value : goal.returns-in_err-n-clause-value
returns-in_err-n-clause-value g c =
    let j = c.args.self.now in
    let l = c.loop-j in
    let w = c.in_err-n.field-0.0 in
    let p = spanned_as c.piece_at.result in
    let n = length c.args.pieces.now / 2 in
    let r : c.from_residual.result ≡ Err w = search rules in
    rw r (putting_stops j.bytes.now j.glue.now j.room g.met.S.Sink.laws _ _ _ l.n l.to _ l.invariant (p ∷ []) (from c.args.pieces.now n c.args.e.past (l.j + 1)) (from_next c.args.pieces.now n c.args.e.past c.min-end.result c.min-end.ensures l.j c.loop-j-test.true p c.piece_at.ensures) w c.in_err-n.ensures.value)

pub loop-j-preserved : goal.loop-j-preserved
loop-j-preserved g c =
    let j = c.args.self.now in
    let l = c.loop-j in
    let p = spanned_as c.piece_at.result in
    let n = length c.args.pieces.now / 2 in
    putting_some j.bytes.now j.glue.now j.room g.met.S.Sink.laws _ _ _ l.n l.to _ l.invariant (p ∷ []) (from c.args.pieces.now n c.args.e.past (l.j + 1)) (from_next c.args.pieces.now n c.args.e.past c.min-end.result c.min-end.ensures l.j c.loop-j-test.true p c.piece_at.ensures) _ c.in_ok-n.ensures.value _ c.in_ok-n.ensures.put

pub returns : goal.returns
returns g c =
    let j = c.args.self.now in
    let l = c.loop-j in
    let n = length c.args.pieces.now / 2 in
    let d = putting_end j.bytes.now j.glue.now j.room g.met.S.Sink.laws _ _ _ l.n l.to _ l.invariant (from_end c.args.pieces.now n c.args.e.past c.min-end.result c.min-end.ensures l.j c.loop-j-test.false) in
    record { value = d.0; put = d.1 }
