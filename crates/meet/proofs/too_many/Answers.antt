use mathlib.Core.Path.{ap, ◌∙◌}
use Prim.Native.Nat.{ℕ}
use lib.Dec.{leb}
use lib.ListN.{length}
use Rattle.classes.specs.Choice.{both}
use Rattle.measure.specs.Continue.{kind_num, level_of}
use Rattle.walk.specs.Leaf.{kept_of}
use Rattle.meet.proofs.AdmitLaws.{other, same, both-no, both_yes}
use Rattle.meet.proofs.too_many.Goals as goal

pub returns-then-kind_num-ne-HEADING : goal.returns-then-kind_num-ne-HEADING
returns-then-kind_num-ne-HEADING c =
    let a = c.args in
    let v = a.levels.now in
    other _ (kind_num a.kind) 5 c.kind_num.ensures (both a.top (leb a.lim.sections (kept_of v (level_of a.kind) (length v)))) c.if-kind_num-ne-HEADING.true

pub returns-then-not-top : goal.returns-then-not-top
returns-then-not-top c =
    let a = c.args in
    let v = a.levels.now in
    let b = leb a.lim.sections (kept_of v (level_of a.kind) (length v)) in
    both-no a.top b c.if-not-top.true ∙ same _ (kind_num a.kind) 5 c.kind_num.ensures (both a.top b) c.if-kind_num-ne-HEADING.false

pub returns : goal.returns
returns c =
    let a = c.args in
    let v = a.levels.now in
    let b = leb a.lim.sections (kept_of v (level_of a.kind) (length v)) in
    ap (λ (n : ℕ). leb a.lim.sections n) (c.kept_sections.ensures.0 ∙ ap (λ (l : ℕ). kept_of v l (length v)) c.level_of.ensures)
    ∙ both_yes a.top b c.if-not-top.false ∙ same _ (kind_num a.kind) 5 c.kind_num.ensures (both a.top b) c.if-kind_num-ne-HEADING.false
