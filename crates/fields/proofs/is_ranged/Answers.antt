use borrow.Author.Tests.{lt-leb}
use Rattle.std.proofs.Common.{◌≡◌, true, false, sym, ap, ◌∙◌, rules}
use Rattle.classes.specs.Choice.{both}
use Rattle.fields.specs.Fields.{in_order}
use Rattle.fields.proofs.FieldLaws.{ranged-span, ranged-end, ranged-body}
use Rattle.fields.proofs.is_ranged.Goals as goal
use Rattle.fields.proofs.is_ranged.Goals.{then-x, else-x, then-holds, else-holds}

pub returns-then-holds_body : goal.returns-then-holds_body
returns-then-holds_body c = elim c.if-holds.branch [
  | then-holds w ↦ elim c.if-x.branch [
    | then-x v ↦ c.in_order.ensures ∙ (rw (← w.value-is, c.if-holds_body.true) at (ranged-body c.args.most c.args.x v.if-x.true (sym v.holds.ensures ∙ sym v.value-is ∙ w.if-holds.true) _ w.body_of.ensures _ w.holds_body.ensures))
    | else-x v ↦ cc (lt-leb c.args.x.start c.args.x.end v.if-x.false)
  ]
  | else-holds w ↦ cc
]

pub returns-else-holds_body : goal.returns-else-holds_body
returns-else-holds_body c = elim c.if-holds.branch [
  | then-holds w ↦ elim c.if-x.branch [
    | then-x v ↦ c.if-holds_body.false ∙ (rw (← w.value-is, c.if-holds_body.false) at (ranged-body c.args.most c.args.x v.if-x.true (sym v.holds.ensures ∙ sym v.value-is ∙ w.if-holds.true) _ w.body_of.ensures _ w.holds_body.ensures))
    | else-x v ↦ c.if-holds_body.false ∙ ranged-span c.args.most c.args.x v.if-x.false
  ]
  | else-holds w ↦ elim c.if-x.branch [
    | then-x v ↦ c.if-holds_body.false ∙ ranged-end c.args.most c.args.x v.if-x.true (sym v.holds.ensures ∙ sym v.value-is ∙ w.if-holds.false)
    | else-x v ↦ c.if-holds_body.false ∙ ranged-span c.args.most c.args.x v.if-x.false
  ]
]
