use native.Mathlib.Omega.{arith}
use mathlib.Core.Path.{◌∙◌, sym, ap}
use lib.ListN.{length}
use Rattle.trim.proofs.LabelLaws.{label-start-le, label-ends}
use Rattle.kinds.proofs.KindLaws.{definition-no, definition-yes}
use Rattle.kinds.proofs.definition.Goals as goal

pub returns-then-not-defines : goal.returns-then-not-defines
returns-then-not-defines c = c.paragraph.ensures ∙ definition-no _ _ (sym c.defines.ensures ∙ c.if-not-defines.true)

pub overflow_add-start : goal.overflow_add-start
overflow_add-start c = omega (arith, label-start-le c.args.t.bytes.now, c.label_start.ensures)

pub overflow_add-end : goal.overflow_add-end
overflow_add-end c =
    omega (arith, (label-ends c.args.t.bytes.now _ _ (sym c.defines.ensures ∙ c.if-not-defines.false) c.label_start.ensures (ap length c.label.ensures)).1)

pub overflow_add-end-2 : goal.overflow_add-end-2
overflow_add-end-2 c =
    omega (arith, (label-ends c.args.t.bytes.now _ _ (sym c.defines.ensures ∙ c.if-not-defines.false) c.label_start.ensures (ap length c.label.ensures)).1)

pub returns : goal.returns
returns c =
    c.new.ensures ∙ definition-yes c.args.t.indent c.args.t.bytes.now _ _ _ (sym c.defines.ensures ∙ c.if-not-defines.false) c.label_start.ensures (ap length c.label.ensures) c.byte_at.ensures
