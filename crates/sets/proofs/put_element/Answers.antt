use Rattle.std.proofs.Common.{arith, [], ◌∷◌, ◌*◌}
use Rattle.sets.specs.Layout.{words_of}
use Rattle.sets.proofs.HoldLaws.{written}
use Rattle.sets.proofs.put_element.Goals as goal

pub returns : goal.returns
unfolding words_of
returns c =
    let e = c.args.e in
    rw c.copy_from_slice.ensures.after (written c.args.elements.now (e.kind ∷ e.key.start ∷ e.key.end ∷ e.first ∷ e.past ∷ []) c.args.at _ (omega arith) (omega arith))
