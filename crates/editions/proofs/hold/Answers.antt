use mathlib.Core.Path.{refl, sym, ◌∙◌}
use Rattle.editions.proofs.HoldLaws.{against-all, against-front}
use Rattle.editions.proofs.hold.Goals as goal

pub returns-then-given-parsed : goal.returns-then-given-parsed
returns-then-given-parsed c =
    let a = c.args in
    record { answer = against-all a.given.now a.parsed.now _ c.against-f.ensures; count = refl; blocks = c.places-blocks.ensures.0; places = c.places-blocks.ensures.1 }

pub returns-then-t : goal.returns-then-t
returns-then-t c =
    let a = c.args in
    let s = c.side_by_side-t.ensures in
    record { answer = against-front a.given.now a.parsed.now (sym s.alike_value.0 ∙ c.if-t.true) _ c.against-f-then-t.ensures; count = refl; blocks = s.alike_value.1; places = s.out_after }

pub returns : goal.returns
returns c =
    let a = c.args in
    let s = c.side_by_side-t.ensures in
    record { answer = against-all a.given.now a.parsed.now _ c.against-f-2.ensures; count = refl; blocks = s.alike_value.1; places = s.out_after }
