use Rattle.std.proofs.Common.{◌≡◌, ℕ, Ok, Err, eqb, refl, sym, ap, ◌∙◌, arith, length}
use Rattle.std.proofs.lemmas.Result.{err_from_is_err_and}
use Rattle.std.proofs.lemmas.Grind.{common_steps}
use Rattle.records.specs.Moved.{told}
use Rattle.refusals.proofs.NumberLaws.{number-some}
use Rattle.listing.specs.Listing.{full, listed_of}
use Rattle.listing.specs.Modes.{mode_num}
use Rattle.listing.proofs.ListLaws.{list_left, list-room, list_put}
use Rattle.listing.proofs.SameLaws.{mode-same, list-same, listed-same}
use Rattle.listing.proofs.list.Goals as goal

pub returns-in_err-done : goal.returns-in_err-done
returns-in_err-done c =
    let w = c.args.words.now in
    let o = c.args.out.now in
    let m = mode_num c.from-mode.result in
    let e = ap (λ k. eqb (mode_num k) full) c.from-mode.ensures ∙ mode-same c.args.mode in
    let p = err_from_is_err_and c.from_residual.result c.from_residual.ensures.1 in
    let r = c.in_err-done.field-0.0 in
    rw (p.1, p.2) (record {
      value = c.in_err-done.ensures ∙ list-same m c.args.mode e w (length o);
      out_after = list_left m w o (told (Err r)) c.in_err-done.ensures (number-some r.why) ∙ listed-same m c.args.mode e w o;
    })

pub put_lines-requires : goal.put_lines-requires
put_lines-requires c = omega (arith, list-room (mode_num c.from-mode.result) c.args.words.now c.args.out.now (told (Ok c.in_ok-done.done)) c.in_ok-done.ensures refl)

pub returns : goal.returns
returns c =
    let w = c.args.words.now in
    let o = c.args.out.now in
    let m = mode_num c.from-mode.result in
    let e = ap (λ k. eqb (mode_num k) full) c.from-mode.ensures ∙ mode-same c.args.mode in
    let v = c.in_ok-done.ensures ∙ list-same m c.args.mode e w (length o) in
    let q : c.put_lines.new.sink.out.now ≡ listed_of c.args.mode w o = list_put m w o (told (Ok c.in_ok-done.done)) c.in_ok-done.ensures refl _ c.put_lines.ensures.bytes ∙ listed-same m c.args.mode e w o in
    let n = c.put_lines.ensures.same in
    record { value = v; out_after = grind (arith, common_steps) }
