use Rattle.std.proofs.Common.{List, ℕ, [], ◌∷◌, ◌++◌, length, refl, ap, ◌∙◌, subst, arith, length-append}
use Rattle.sinks.proofs.PutLaws.{fits-behind, took-more}
use Rattle.fields.specs.Fields.{offset, pairs_of}
use Rattle.record.specs.Record.{bytes_of, body_bytes}
use Rattle.record.proofs.RecordLaws.{listed-kind, bytes-length, body-length, record-parts}
use Rattle.record.proofs.put_record.Goals as goal

pub kind_byte-requires : goal.kind_byte-requires
kind_byte-requires g c = let k = listed-kind c.args.x.role c.args.x.node c.requires.listed in (k.0, k.1)

pub put-requires : goal.put-requires
put-requires g c = g.met.S.Sink.laws.less _ _ _ c.requires.fits (omega (arith, body-length c.args.x))

pub put_number-requires-clause-fits : goal.put_number-requires-clause-fits
put_number-requires-clause-fits g c =
    let l = g.met.S.Sink.laws in
    fits-behind l 1 3 _ c.put.ensures c.requires.fits refl (omega (arith, body-length c.args.x))

pub put_number-requires-2-clause-fits : goal.put_number-requires-2-clause-fits
put_number-requires-2-clause-fits g c =
    let l = g.met.S.Sink.laws in
    fits-behind l 4 3 _ (took-more l c.put.ensures c.put_number.ensures) c.requires.fits (omega (arith, bytes-length 3 c.args.x.start)) (omega (arith, body-length c.args.x))

pub put_body-requires : goal.put_body-requires
put_body-requires g c =
    let l = g.met.S.Sink.laws in
    let x = c.args.x in
    fits-behind l 7 (length (body_bytes (pairs_of x))) _ (took-more l (took-more l c.put.ensures c.put_number.ensures) c.put_number-2.ensures) c.requires.fits
    (omega (arith, length-append (bytes_of 3 x.start) (bytes_of 3 x.end), bytes-length 3 x.start, bytes-length 3 x.end)) (omega (arith, body-length x))

pub returns : goal.returns
returns g c =
    let l = g.met.S.Sink.laws in
    let x = c.args.x in
    subst (λ (b : List ℕ). g.S.Sink.took c.args.sink.now b c.put_body.new.sink)
    (ap (λ (k : ℕ). (((k ∷ []) ++ bytes_of offset x.start) ++ bytes_of offset x.end) ++ body_bytes (pairs_of x)) c.kind_byte.ensures ∙ record-parts x)
    (took-more l (took-more l (took-more l c.put.ensures c.put_number.ensures) c.put_number-2.ensures) c.put_body.ensures)
