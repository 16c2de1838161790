use Rattle.std.proofs.Common.{length, ◌/◌, ◌≡◌, Err, rules, ◌+◌}
use Rattle.sets.specs.Layout.{spanned, own}
use Rattle.sets.specs.Words.{listed_as}
use Rattle.joins.proofs.PutLaws.{putting_end, putting_stops, putting_some, behind, behind-next, behind-end}
use Rattle.joins.proofs.Joining.put_all.Goals as goal

pub returns-in_err-n-clause-value : goal.returns-in_err-n-clause-value
returns-in_err-n-clause-value g c =
    let j = c.args.self.now in
    let l = c.loop-i in
    let w = c.in_err-n.field-0.0 in
    let es = c.args.elements in
    let ps = spanned (length c.args.pieces.now / 2) c.args.pieces.now in
    let x = listed_as c.element_at-e.result in
    let r : c.from_residual.result ≡ Err w = search rules in
    rw r (putting_stops j.bytes.now j.glue.now j.room g.met.S.Sink.laws _ _ _ l.n l.to _ l.invariant (own ps x) (behind ps es.words.now es.count (l.i + 1)) (behind-next ps es.words.now es.count l.i c.loop-i-test.true x c.element_at-e.ensures) w c.in_err-n.ensures.value)

pub loop-i-preserved : goal.loop-i-preserved
loop-i-preserved g c =
    let j = c.args.self.now in
    let l = c.loop-i in
    let es = c.args.elements in
    let ps = spanned (length c.args.pieces.now / 2) c.args.pieces.now in
    let x = listed_as c.element_at-e.result in
    putting_some j.bytes.now j.glue.now j.room g.met.S.Sink.laws _ _ _ l.n l.to _ l.invariant (own ps x) (behind ps es.words.now es.count (l.i + 1)) (behind-next ps es.words.now es.count l.i c.loop-i-test.true x c.element_at-e.ensures) _ c.in_ok-n.ensures.value _ c.in_ok-n.ensures.put

pub returns : goal.returns
returns g c =
    let j = c.args.self.now in
    let l = c.loop-i in
    let es = c.args.elements in
    let ps = spanned (length c.args.pieces.now / 2) c.args.pieces.now in
    let d = putting_end j.bytes.now j.glue.now j.room g.met.S.Sink.laws _ _ _ l.n l.to _ l.invariant (behind-end ps es.words.now es.count l.i c.loop-i-test.false) in
    record { value = d.0; put = d.1 }
