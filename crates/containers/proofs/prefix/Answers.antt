use Rattle.std.proofs.Common.{◌∙◌}
use Rattle.lines.proofs.PlaceLaws.{place-or}
use Rattle.containers.proofs.PrefixLaws.{prefix-is}
use Rattle.containers.proofs.prefix.Goals as goal

pub returns : goal.returns
returns c =
    let found = place-or 10 c.part-front.result.now c.find.result c.find.ensures in
    prefix-is c.args.kind c.args.opening c.args.line.now _ _ _ c.skip_of.ensures c.part-front.ensures (c.unwrap_or.ensures ∙ found.0, rw c.unwrap_or.ensures found.1)
