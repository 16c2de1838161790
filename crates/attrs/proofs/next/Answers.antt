use mathlib.Core.Path.{◌∙◌}
use Rattle.attrs.proofs.NextLaws.{next-rule}
use Rattle.attrs.proofs.next.Goals as goal

pub returns : goal.returns
returns c =
    let r = next-rule c.args.s c.args.c c.requires.0 c.requires.1 in
    (c.wide.ensures ∙ r.0, rw c.wide.ensures r.1)
