use Rattle.std.proofs.Common.{Ok, Err, refl, sym, ◌∙◌}
use Rattle.std.proofs.lemmas.Result.{err_from_is_err_and}
use Rattle.records.specs.Moved.{told}
use Rattle.refusals.proofs.NumberLaws.{number-some}
use Rattle.records.proofs.ReadLaws.{read_answer, read-refused, read_whole, read_done}
use Rattle.records.proofs.read.Goals as goal

pub returns-in_err-done : goal.returns-in_err-done
returns-in_err-done c =
    let p = err_from_is_err_and c.from_residual.result c.from_residual.ensures.1 in
    let a = told (Err c.in_err-done.field-0.0) in
    rw (p.1, p.2) (record {
      value = read_answer c.args.bytes.now c.args.words.now a c.in_err-done.ensures;
      words_after = read-refused c.args.bytes.now c.args.words.now a c.in_err-done.ensures (number-some c.in_err-done.field-0.0.why);
    })

pub unpack-requires : goal.unpack-requires
unpack-requires c =
    let w = read_whole c.args.bytes.now c.args.words.now (told (Ok c.in_ok-done.done)) c.in_ok-done.ensures refl in
    record { bytes_value = w.0; bytes_in_bounds = w.1 }

pub returns : goal.returns
returns c =
    let a = told (Ok c.in_ok-done.done) in record {
      value = read_answer c.args.bytes.now c.args.words.now a c.in_ok-done.ensures;
      words_after = read_done c.args.bytes.now c.args.words.now a c.in_ok-done.ensures refl c.unpack.new.words c.unpack.ensures;
    }
