use mathlib.Core.Path.{sym, ap}
use Prim.Native.Nat.{ℕ}
use lib.ListN.{take}
use lib.Seq.{length-take-le}
use Rattle.trim.specs.Trim.{trim_end}
use Rattle.trim.proofs.trim_end.Goals as goal

pub slice_bounds-result-end : goal.slice_bounds-result-end
slice_bounds-result-end c = sym (length-take-le c.kept_of-n.result c.args.s.now c.kept_of-n.ensures.1)

pub returns : goal.returns
unfolding trim_end
returns c = ap (λ (k : ℕ). take k c.args.s.now) c.kept_of-n.ensures.0
