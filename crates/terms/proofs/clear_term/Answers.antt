use Rattle.terms.proofs.TermLaws.{cleared}
use Rattle.terms.proofs.clear_term.Goals as goal

pub returns : goal.returns
returns c =
    let a = c.args in
    (λ k l v. cleared a.i a.x _ _ _ _ c.mark.result c.mark-2.result (c.patch.ensures k l v) c.mark.ensures (c.edit.ensures k l v) c.mark-2.ensures (c.edit-2.ensures k l v))
