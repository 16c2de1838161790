use mathlib.Core.Path.{ap, ◌∙◌}
use Prim.Native.Nat.{ℕ}
use Rattle.trim.specs.Trim.{part_of}
use Rattle.walk.proofs.part_at.Goals as goal

pub returns : goal.returns
returns c = c.part.ensures ∙ ap (λ (n : ℕ). part_of c.args.text.now n c.wide-2.result) c.wide.ensures ∙ ap (λ (n : ℕ). part_of c.args.text.now c.args.start n) c.wide-2.ensures
