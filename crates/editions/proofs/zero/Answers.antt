use native.Mathlib.Omega.{arith}
use mathlib.Core.Path.{sym}
use lib.Seq.{length-take-le}
use Rattle.editions.proofs.AgainLaws.{zero-front}
use Rattle.editions.proofs.zero.Goals as goal

pub slice_bounds-clear-end : goal.slice_bounds-clear-end
slice_bounds-clear-end c = omega (arith, c.least-m.ensures)

pub slice_bounds-clear-end-2 : goal.slice_bounds-clear-end-2
slice_bounds-clear-end-2 c = sym (length-take-le _ c.args.words.now (omega (arith, c.least-m.ensures)))

pub returns : goal.returns
returns c = zero-front c.args.n _ c.args.words.now c.least-m.ensures _ c.clear.ensures
