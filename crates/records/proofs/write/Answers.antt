use Rattle.std.proofs.Common.{Ok, Err, refl}
use Rattle.std.proofs.lemmas.Result.{err_from_is_err_and}
use Rattle.records.specs.Moved.{told}
use Rattle.refusals.proofs.NumberLaws.{number-some}
use Rattle.records.proofs.WriteLaws.{writing-none, writing-asks, writing-all}
use Rattle.records.proofs.write.Goals as goal

pub returns-in_err-done-clause-bytes_after : goal.returns-in_err-done-clause-bytes_after
returns-in_err-done-clause-bytes_after c = writing-none c.args.words.now c.args.bytes.now (told (Err c.in_err-done.field-0.0)) c.in_err-done.ensures (number-some c.in_err-done.field-0.0.why)

pub stream-requires : goal.stream-requires
stream-requires c =
    let w = writing-asks c.args.words.now c.args.bytes.now (told (Ok c.in_ok-done.done)) c.in_ok-done.ensures refl in
    record { words_value = w.0; words_in_bounds = w.1 }

pub returns-clause-bytes_after : goal.returns-clause-bytes_after
returns-clause-bytes_after c = writing-all c.args.words.now c.args.bytes.now (told (Ok c.in_ok-done.done)) c.in_ok-done.ensures refl _ c.stream.ensures
