use Rattle.std.proofs.Common.{rules, ◌∙◌}
use Rattle.trim.specs.Label.{defines_of}
use Rattle.trim.proofs.LabelLaws.{not-closed, not-colon}
use Rattle.trim.proofs.close_of.Goals as goal

pub returns-then-byte_at-ne91 : goal.returns-then-byte_at-ne91
unfolding defines_of
returns-then-byte_at-ne91 c = search rules

pub returns-in_err-close : goal.returns-in_err-close
returns-in_err-close c = rw c.from_residual.ensures (not-closed c.args.t.now c.in_err-close.ensures)

pub returns-then-byte_at-eq58 : goal.returns-then-byte_at-eq58
unfolding defines_of
returns-then-byte_at-eq58 c = search rules

pub returns-else-byte_at-eq58 : goal.returns-else-byte_at-eq58
returns-else-byte_at-eq58 c = not-colon c.args.t.now c.in_ok-close.close c.in_ok-close.ensures.0 (λ e. c.if-byte_at-eq58.false (c.byte_at-2.ensures ∙ e))
