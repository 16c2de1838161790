use native.Mathlib.Omega.{arith}
use mathlib.Core.Path.{sym, ◌∙◌}
use Rattle.meet.proofs.MetLaws.{inner-all, inner-open, inner-none, inner-closed}
use Rattle.meet.proofs.inner.Goals as goal

pub returns-then-kind_num-ne-FENCED : goal.returns-then-kind_num-ne-FENCED
returns-then-kind_num-ne-FENCED c =
    let a = c.args in record { start_le_end = (omega arith, omega arith); by_index = λ ws e. inner-all a.kind c.kind_num.result a.n c.kind_num.ensures ws e c.if-kind_num-ne-FENCED.true }

pub returns-then-not-closed_of : goal.returns-then-not-closed_of
returns-then-not-closed_of c =
    let a = c.args in record { start_le_end = (omega (arith, c.requires.0), omega arith); by_index = λ ws e. inner-open a.kind c.kind_num.result a.n c.kind_num.ensures ws e c.if-kind_num-ne-FENCED.false c.requires.0 c.requires.1 (sym c.closed_of.ensures ∙ c.if-not-closed_of.true) }

pub returns-then-n-lt4 : goal.returns-then-n-lt4
returns-then-n-lt4 c =
    let a = c.args in record { start_le_end = (omega arith, omega (arith, c.requires.0)); by_index = λ ws e. inner-none a.kind c.kind_num.result a.n c.kind_num.ensures ws e c.if-kind_num-ne-FENCED.false c.requires.0 c.requires.1 (sym c.closed_of.ensures ∙ c.if-not-closed_of.false) c.if-n-lt4.true }

pub returns : goal.returns
returns c =
    let a = c.args in record { start_le_end = (omega (arith, c.if-n-lt4.false), omega arith); by_index = λ ws e. inner-closed a.kind c.kind_num.result a.n c.kind_num.ensures ws e c.if-kind_num-ne-FENCED.false c.requires.0 c.requires.1 (sym c.closed_of.ensures ∙ c.if-not-closed_of.false) c.if-n-lt4.false }
