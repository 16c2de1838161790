use mathlib.Core.Path.{refl}
use Rattle.cells.proofs.HeldLaws.{alike_same, held_kept, held-wider}
use Rattle.cells.proofs.widest.Goals as goal

pub returns-then-n-al : goal.returns-then-n-al
returns-then-n-al c =
    let a = c.args in
    ((λ text evs h o. held_kept a.al a.n c.if-n-al.true text evs h), alike_same a.al)

pub returns : goal.returns
returns c =
    let a = c.args in
    (held-wider a.al a.here a.n c.if-n-al.false, record { s = refl; e = refl; cells = refl })
