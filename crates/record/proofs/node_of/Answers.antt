use Rattle.std.proofs.Common.{◌∙◌}
use lib.Bits.{and_mask}
use Rattle.record.proofs.node_of.Goals as goal

pub returns : goal.returns
returns c = c.from.ensures ∙ and_mask c.args.kind 5
