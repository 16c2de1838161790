use native.Mathlib.Omega.{arith}
use mathlib.Core.Path.{sym}
use lib.Seq.{set_out}
use Rattle.tops.proofs.keep.Goals as goal

pub returns-else-k-out : goal.returns-else-k-out
returns-else-k-out c = sym (set_out c.args.out.now c.args.k c.args.place (omega arith))
