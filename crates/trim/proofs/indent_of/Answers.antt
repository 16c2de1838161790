use Rattle.std.proofs.Common.{rules}
use Rattle.trim.specs.Trim.{is_gap}
use Rattle.trim.proofs.indent_of.Goals as goal

pub returns : goal.returns
returns c = (c.front.ensures.value is_gap (λ x r p. search rules), c.front.ensures.bound)
