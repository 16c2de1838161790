use Rattle.std.proofs.Common.{◌≡◌, ℕ, Ok, Err, eqb, zero-add, length, refl, sym, ap, ◌∙◌, arith, length-append}
use Rattle.std.proofs.Math.Seq.{length-sets}
use Rattle.std.proofs.lemmas.Result.{err_from_is_err_and}
use Rattle.std.proofs.lemmas.Grind.{common_steps}
use Rattle.records.specs.Moved.{told}
use Rattle.refusals.proofs.NumberLaws.{number-some}
use Rattle.entries.proofs.EntryLaws.{looks-short}
use Rattle.entries.specs.Entries.{looks_line}
use Rattle.listing.specs.Listing.{full, lines_in}
use Rattle.events.specs.Pack.{all_of}
use Rattle.listing.specs.Modes.{mode_num}
use Rattle.listing.proofs.ListLaws.{list-room, list_count, page-refused, page-events, page-none, page-room, page-put}
use Rattle.sinks.specs.Sinks.{fill_laws}
use Rattle.sinks.proofs.PutLaws.{took-more}
use Rattle.listing.proofs.SameLaws.{mode-same, page-same, paged-same}
use Rattle.listing.proofs.page.Goals as goal

pub returns-then-number-ne0 : goal.returns-then-number-ne0
returns-then-number-ne0 c = record { value = c.put_alone.ensures.by_index c.args.mode c.args.looks c.args.words.now; out_after = c.put_alone.ensures.by_index_2 c.args.mode c.args.looks c.args.words.now }

pub returns-in_err-done : goal.returns-in_err-done
returns-in_err-done c =
    let a = c.args in
    let m = mode_num c.from-mode.result in
    let e = ap (λ k. eqb (mode_num k) full) c.from-mode.ensures ∙ mode-same a.mode in
    let p = err_from_is_err_and c.from_residual.result c.from_residual.ensures.1 in
    let r = c.in_err-done.field-0.0 in
    let w = page-refused m a.number a.position a.looks a.words.now a.out.now c.if-number-ne0.false (told (Err r)) c.in_err-done.ensures (number-some r.why) in
    rw (p.1, p.2) (record {
      value = w.0 ∙ page-same m a.mode e a.number a.position a.looks a.words.now (length a.out.now);
      out_after = w.1 ∙ paged-same m a.mode e a.number a.position a.looks a.words.now a.out.now;
    })

pub put_looks-requires : goal.put_looks-requires
put_looks-requires c = omega (arith, looks-short c.args.looks)

pub overflow_sub-out : goal.overflow_sub-out
overflow_sub-out c = list_count (mode_num c.from-mode.result) c.args.words.now c.args.out.now (told (Ok c.in_ok-done.done)) c.in_ok-done.ensures refl

pub returns-then-out-done : goal.returns-then-out-done
returns-then-out-done c =
    let a = c.args in
    let m = mode_num c.from-mode.result in
    let e = ap (λ k. eqb (mode_num k) full) c.from-mode.ensures ∙ mode-same a.mode in
    let d = told (Ok c.in_ok-done.done) in
    let n = c.put_looks.ensures ∙ zero-add (length (looks_line a.looks)) in
    let w = page-none m a.number a.position a.looks a.words.now a.out.now c.if-number-ne0.false d c.in_ok-done.ensures refl _ n c.if-out-done.true in
    let t = page-events m a.number a.position a.looks a.words.now a.out.now c.if-number-ne0.false d c.in_ok-done.ensures refl _ n in
    rw (c.refused.ensures.0, c.refused.ensures.1, t) (record {
      value = w.0 ∙ page-same m a.mode e a.number a.position a.looks a.words.now (length a.out.now);
      out_after = w.1 ∙ paged-same m a.mode e a.number a.position a.looks a.words.now a.out.now;
    })

pub put_lines-requires : goal.put_lines-requires
put_lines-requires c = omega (arith, list-room (mode_num c.from-mode.result) c.args.words.now c.args.out.now (told (Ok c.in_ok-done.done)) c.in_ok-done.ensures refl)

pub put_looks-requires-2 : goal.put_looks-requires-2
put_looks-requires-2 c =
    let a = c.args in
    let m = mode_num c.from-mode.result in
    let e = ap (λ k. eqb (mode_num k) full) c.from-mode.ensures ∙ mode-same a.mode in
    let d = told (Ok c.in_ok-done.done) in
    let n = c.put_looks.ensures ∙ zero-add (length (looks_line a.looks)) in
    let r = page-room m a.number a.position a.looks a.words.now a.out.now c.if-number-ne0.false d c.in_ok-done.ensures refl _ n c.if-out-done.false in
    let ls = lines_in m (all_of a.words.now) in
    omega (arith, c.put_lines.ensures.place, ap length c.put_lines.ensures.bytes, length-sets a.out.now 0 ls, r, length-append ls (looks_line a.looks))

pub returns : goal.returns
returns c =
    let a = c.args in
    let m = mode_num c.from-mode.result in
    let e = ap (λ k. eqb (mode_num k) full) c.from-mode.ensures ∙ mode-same a.mode in
    let d = told (Ok c.in_ok-done.done) in
    let n = c.put_looks.ensures ∙ zero-add (length (looks_line a.looks)) in
    let b = took-more fill_laws c.put_lines.ensures c.put_looks-2.ensures in
    let w = page-put m a.number a.position a.looks a.words.now a.out.now c.if-number-ne0.false d c.in_ok-done.ensures refl _ n c.if-out-done.false c.put_looks-2.new.sink.at c.put_looks-2.new.sink.out.now b.place b.bytes in
    let t = page-events m a.number a.position a.looks a.words.now a.out.now c.if-number-ne0.false d c.in_ok-done.ensures refl _ n in
    let q = w.1 ∙ paged-same m a.mode e a.number a.position a.looks a.words.now a.out.now in
    let s = b.same in
    record {
      value = rw t (w.0 ∙ page-same m a.mode e a.number a.position a.looks a.words.now (length a.out.now));
      out_after = grind (arith, common_steps);
    }
