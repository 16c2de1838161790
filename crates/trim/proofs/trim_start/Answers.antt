use Rattle.std.proofs.Common.{rules, ◌∙◌, ap, ℕ, drop}
use Rattle.classes.specs.Classes.{is_space}
use Rattle.trim.specs.Trim.{trim_start}
use Rattle.trim.proofs.TrimLaws.{whole_drop}
use Rattle.trim.proofs.trim_start.Goals as goal

pub returns : goal.returns
unfolding trim_start
returns c = whole_drop _ c.front-n.result ∙ ap (λ (k : ℕ). drop k c.args.s.now) (c.front-n.ensures.value is_space (λ x r p. search rules))
