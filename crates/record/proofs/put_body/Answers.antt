use Rattle.std.proofs.Common.{◌≡◌, List, ℕ, length, map, sym, ap, ◌∙◌, subst, arith}
use Rattle.std.proofs.lemmas.List.{length-map}
use Rattle.sinks.proofs.PutLaws.{putting-start, putting-room, putting-turn, putting-end}
use Rattle.fields.specs.Fields.{pairs_of}
use Rattle.fields.specs.Numbers.{pair_num}
use Rattle.fields.specs.declared.Field.{Field}
use Rattle.fields.specs.declared.Field.TheVariants.{Nothing}
use Rattle.events.specs.declared.Event.{Event}
use Rattle.record.specs.Record.{body_bytes}
use Rattle.record.proofs.RecordLaws.{piece, pieces-bytes, bytes-length}
use Rattle.record.proofs.put_body.Goals as goal

four-words : (x : Event) (ws : List (Field × ℕ)) → map pair_num ws ≡ pairs_of x → length ws ≡ 4
four-words x ws e = sym (length-map ws pair_num) ∙ ap length e

pub loop-f-init : goal.loop-f-init
loop-f-init g c =
    putting-start g.met.S.Sink.laws piece _ _ (subst (λ (l : List ℕ). g.S.Sink.fits c.args.sink.now (length l)) (sym (pieces-bytes c.body_of-f-items.result ∙ ap body_bytes c.body_of-f-items.ensures)) c.requires)

pub put_number-requires-clause-fits : goal.put_number-requires-clause-fits
put_number-requires-clause-fits g c =
    let ws = c.body_of-f-items.result in
    let n = four-words c.args.x ws c.body_of-f-items.ensures in
    subst (g.S.Sink.fits c.loop-f.sink) (bytes-length _ _ ∙ sym c.width.ensures.value) (putting-room g.met.S.Sink.laws piece c.loop-f.invariant (Nothing, 0) (omega (arith, n)))

pub loop-f-preserved : goal.loop-f-preserved
loop-f-preserved g c =
    let ws = c.body_of-f-items.result in
    let n = four-words c.args.x ws c.body_of-f-items.ensures in
    let t = rw c.width.ensures.value at c.put_number.ensures in
    putting-turn g.met.S.Sink.laws piece c.loop-f.invariant (Nothing, 0) (omega (arith, n)) t

pub returns : goal.returns
returns g c =
    let ws = c.body_of-f-items.result in
    let n = four-words c.args.x ws c.body_of-f-items.ensures in
    subst (λ (l : List ℕ). g.S.Sink.took c.args.sink.now l c.loop-f.sink) (pieces-bytes ws ∙ ap body_bytes c.body_of-f-items.ensures) (putting-end g.met.S.Sink.laws piece c.loop-f.invariant (omega (arith, n)))
