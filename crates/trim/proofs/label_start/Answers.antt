use Rattle.std.proofs.Common.{rules}
use Rattle.trim.specs.Label.{label_start}
use Rattle.trim.proofs.label_start.Goals as goal

pub returns-then-byte_at-eq94 : goal.returns-then-byte_at-eq94
unfolding label_start
returns-then-byte_at-eq94 c = search rules

pub returns-else-byte_at-eq94 : goal.returns-else-byte_at-eq94
unfolding label_start
returns-else-byte_at-eq94 c = search rules
