use mathlib.Core.Path.{ap, ◌∙◌}
use Prim.Native.Nat.{ℕ}
use lib.Dec.{ltb}
use Rattle.measure.specs.Continue.{kind_num, level_of}
use Rattle.meet.proofs.AdmitLaws.{other, same}
use Rattle.meet.proofs.too_high.Goals as goal

pub returns-then-kind_num-ne-HEADING : goal.returns-then-kind_num-ne-HEADING
returns-then-kind_num-ne-HEADING c = other _ (kind_num c.args.kind) 5 c.kind_num.ensures (ltb 65535 (level_of c.args.kind)) c.if-kind_num-ne-HEADING.true

pub returns : goal.returns
returns c = ap (λ (l : ℕ). ltb 65535 l) c.level_of.ensures ∙ same _ (kind_num c.args.kind) 5 c.kind_num.ensures (ltb 65535 (level_of c.args.kind)) c.if-kind_num-ne-HEADING.false
