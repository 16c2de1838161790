use Rattle.std.proofs.Common.{◌≡◌, ℕ, ◌+◌, ◌++◌, List, length, drop, refl, sym, ap, ◌∙◌, arith, rules}
use Rattle.std.proofs.lemmas.List.Edits.{sets-eq}
use Rattle.std.proofs.lemmas.Grind.{common_steps}
use Rattle.events.specs.Pack.{live_of, all_of}
use Rattle.records.specs.Records.{stream_of}
use Rattle.records.proofs.stream.Goals as goal

pub returns : goal.returns
returns c =
    let s = stream_of (live_of (all_of c.args.words.now)) in
    let z : 0 + length s ≡ length s = omega arith in
    let e : c.put_stream.new.sink.out.now ≡ s ++ drop (length s) c.args.bytes.now =
    c.put_stream.ensures.bytes ∙ sets-eq s c.args.bytes.now 0 (omega arith) ∙ ap (λ (k : ℕ). s ++ drop k c.args.bytes.now) z in
    let n = c.put_stream.ensures.same in
    grind (arith, common_steps)
