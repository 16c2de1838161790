use native.Mathlib.Omega.{arith}
use mathlib.Core.Path.{refl, ◌∙◌}
use Rattle.events.specs.View.{view}
use Rattle.meet.proofs.AdmitLaws.{count-full, count-on}
use Rattle.meet.proofs.count.Goals as goal

pub returns-then-looks-st : goal.returns-then-looks-st
returns-then-looks-st c =
    let a = c.args in
    let f = c.refuse.ensures in
    (λ e k l v. f.0 e k l v ∙ count-full a.at a.looks (view a.st e k l v) (omega (arith, c.ranges.looks.fits)) c.if-looks-st.true, f.1, record { depth = f.4.depth; lists = f.4.lists; sections = f.4.sections })

pub returns : goal.returns
returns c =
    let a = c.args in
    (λ e k l v. count-on a.at a.looks (view a.st e k l v) (omega (arith, c.ranges.looks.fits)) c.if-looks-st.false, refl, record { depth = refl; lists = refl; sections = refl })
