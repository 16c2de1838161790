use Rattle.terms.proofs.TermLaws.{moved}
use Rattle.terms.proofs.move_term.Goals as goal

pub returns : goal.returns
returns c =
    let a = c.args in
    (λ l v. moved a.d a.i a.x c.find_other-f.result _ _ _ (c.clear_term.ensures a.stack.now l v) (c.find_other-f.ensures.0 a.stack.now l v) (c.place_detail.ensures l v))
