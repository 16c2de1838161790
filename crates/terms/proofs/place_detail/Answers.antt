use mathlib.Core.Path.{◌∙◌}
use Rattle.terms.proofs.TermLaws.{placed}
use Rattle.terms.proofs.place_detail.Goals as goal

pub reopen-requires : goal.reopen-requires
reopen-requires c = (c.requires.1, c.requires.0.depth)

pub returns : goal.returns
returns c =
    let a = c.args in
    (λ l v. c.reopen.ensures c.edit.new.events l v
    ∙ placed a.d a.i a.f c.detail_start-pos.result _ _ _ c.mark.result (c.detail_start-pos.ensures a.stack.now l v) (c.shift.ensures a.stack.now l v) c.mark.ensures (c.edit.ensures a.stack.now l v))
