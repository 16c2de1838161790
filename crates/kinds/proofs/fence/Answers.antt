use native.Mathlib.Omega.{arith}
use mathlib.Core.Path.{◌∙◌, sym}
use Rattle.trim.proofs.TrimLaws.{start-off}
use Rattle.kinds.proofs.KindLaws.{fence-short, fence-no, fence-yes}
use Rattle.kinds.proofs.fence.Goals as goal

pub returns-then-length-lt3 : goal.returns-then-length-lt3
returns-then-length-lt3 c = c.paragraph.ensures ∙ fence-short _ _ _ _ c.byte_at-mark.ensures c.run_of-length.ensures.0 c.if-length-lt3.true

pub returns-then-not-spec_ok : goal.returns-then-not-spec_ok
returns-then-not-spec_ok c =
    c.paragraph-then-not-spec_ok.ensures ∙ fence-no _ _ _ _ c.byte_at-mark.ensures c.run_of-length.ensures.0 c.if-length-lt3.false _ _ _ c.trim_end-whole.ensures c.part-rest.ensures c.trim_start-spec.ensures
    (sym c.spec_ok.ensures ∙ c.if-not-spec_ok.true)

pub overflow_sub-start : goal.overflow_sub-start
overflow_sub-start c = omega (arith, (start-off _ _ c.trim_start-spec.ensures).0)

pub returns : goal.returns
returns c =
    c.new.ensures ∙ fence-yes _ _ _ _ c.byte_at-mark.ensures c.run_of-length.ensures.0 c.if-length-lt3.false _ _ _ c.trim_end-whole.ensures c.part-rest.ensures c.trim_start-spec.ensures
    (sym c.spec_ok.ensures ∙ c.if-not-spec_ok.false)
