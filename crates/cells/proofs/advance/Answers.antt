use mathlib.Core.Path.{refl}
use Rattle.cells.proofs.HeldLaws.{alike_same, place-row, place-text}
use Rattle.cells.proofs.advance.Goals as goal

pub returns-then-i-al : goal.returns-then-i-al
returns-then-i-al c =
    let a = c.args in
    (place-row a.text.now a.i a.al c.requires.1 c.if-i-al.true, alike_same a.al, refl, refl)

pub returns : goal.returns
returns c =
    let a = c.args in
    (place-text a.text.now _ a.i _ a.al c.requires.1 c.if-i-al.false c.part.ensures c.next_start.ensures, record { s = refl; e = refl; cells = refl }, refl, refl)
