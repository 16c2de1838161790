use Rattle.std.proofs.Common.{◌≡◌, ℕ, zero-add, length, ◌∙◌, arith}
use Rattle.std.proofs.lemmas.Grind.{common_steps}
use Rattle.entries.proofs.EntryLaws.{refused-short}
use Rattle.entries.specs.Entries.{refused_line}
use Rattle.listing.proofs.ListLaws.{alone-none, alone-put}
use Rattle.listing.proofs.put_alone.Goals as goal

pub put_refused-requires : goal.put_refused-requires
put_refused-requires c = omega (arith, refused-short c.args.number c.args.position)

pub returns-then-out-size : goal.returns-then-out-size
returns-then-out-size c =
    let e = c.put_refused.ensures ∙ zero-add (length (refused_line c.args.number c.args.position)) in
    let w = alone-none c.args.number c.args.position c.args.out.now _ e c.requires c.if-out-size.true in
    rw (c.refused.ensures.0, c.refused.ensures.1) (record { by_index = w.0; by_index_2 = w.1 })

pub returns : goal.returns
returns c =
    let e = c.put_refused.ensures ∙ zero-add (length (refused_line c.args.number c.args.position)) in
    let w = alone-put c.args.number c.args.position c.args.out.now _ e c.requires c.put_refused-2.new.sink.out.now c.if-out-size.false c.put_refused-2.ensures.bytes in
    let n = c.put_refused-2.ensures.same in
    record { by_index = w.0; by_index_2 = λ mode looks words. let q = w.1 mode looks words in grind (arith, common_steps) }
