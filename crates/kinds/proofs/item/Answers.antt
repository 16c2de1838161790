use Rattle.std.proofs.Common.{◌∙◌, sym, arith}
use Rattle.markers.proofs.WithinLaws.{marker-len}
use Rattle.kinds.proofs.item.Goals as goal

pub overflow_add-t : goal.overflow_add-t
overflow_add-t c = omega (arith, marker-len c.args.t.bytes.now c.in-Some.read (sym c.in-Some.is ∙ c.read_marker.ensures))
