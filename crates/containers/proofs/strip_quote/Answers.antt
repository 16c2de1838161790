use native.Mathlib.Omega.{arith}
use mathlib.Core.Path.{sym, ap, ◌∙◌}
use Rattle.classes.specs.Classes.{is_space}
use Rattle.trim.proofs.TrimLaws.{start-off, both_is}
use Rattle.containers.proofs.PrefixLaws.{quote-none, quote-alone, quote-spaced, quote-lazy}
use Rattle.containers.proofs.strip_quote.Goals as goal

pub returns-then-byte_at-ne62 : goal.returns-then-byte_at-ne62
returns-then-byte_at-ne62 c = quote-none c.args.line.now _ (both_is _ _ _ c.trim_start-front.ensures c.trim_end-t.ensures) (λ e. c.if-byte_at-ne62.true (c.byte_at.ensures ∙ e))

pub overflow_sub-lead : goal.overflow_sub-lead
overflow_sub-lead c = omega (arith, (start-off _ _ c.trim_start-front.ensures).0)

pub returns-then-t-eq1 : goal.returns-then-t-eq1
returns-then-t-eq1 c = quote-alone c.args.line.now _ (both_is _ _ _ c.trim_start-front.ensures c.trim_end-t.ensures) _ (start-off _ _ c.trim_start-front.ensures).1 (sym c.byte_at.ensures ∙ c.if-byte_at-ne62.false) c.if-t-eq1.true

pub returns-then-is_space : goal.returns-then-is_space
returns-then-is_space c = quote-spaced c.args.line.now _ (both_is _ _ _ c.trim_start-front.ensures c.trim_end-t.ensures) _ (start-off _ _ c.trim_start-front.ensures).1 (sym c.byte_at.ensures ∙ c.if-byte_at-ne62.false) c.if-t-eq1.false (sym (ap is_space c.byte_at-2.ensures) ∙ sym c.is_space.ensures ∙ c.if-is_space.true)

pub returns : goal.returns
returns c = quote-lazy c.args.line.now _ (both_is _ _ _ c.trim_start-front.ensures c.trim_end-t.ensures) _ (start-off _ _ c.trim_start-front.ensures).1 (sym c.byte_at.ensures ∙ c.if-byte_at-ne62.false) c.if-t-eq1.false (sym (ap is_space c.byte_at-2.ensures) ∙ sym c.is_space.ensures ∙ c.if-is_space.false)
