use native.Mathlib.Omega.{arith}
use mathlib.Core.Path.{sym, ◌∙◌}
use Rattle.events.specs.View.{view}
use Rattle.meet.proofs.SettleLaws.{loose-part, loose-already, loose_now}
use Rattle.meet.proofs.loose_at.Goals as goal

pub returns-then-not-whole : goal.returns-then-not-whole
returns-then-not-whole c =
    let a = c.args in
    let f = c.refuse.ensures in
    (λ k l v. f.0 a.events.now k l v ∙ loose-part a.e (view a.st a.events.now k l v) (sym (c.whole.ensures.0 a.events.now k l v c.requires) ∙ c.if-not-whole.true), f.1, f.4)

pub overflow_add-e : goal.overflow_add-e
overflow_add-e c = omega (arith, c.requires, c.whole.ensures.1 c.if-not-whole.false)

pub word-requires : goal.word-requires
word-requires c = (omega (arith, c.whole.ensures.1 c.if-not-whole.false), c.requires)

pub returns-then-word-ne1 : goal.returns-then-word-ne1
returns-then-word-ne1 c =
    let a = c.args in
    let f = c.flags.ensures in
    (λ k l v. f.0 a.events.now k l v ∙ loose-already a.e (view a.st a.events.now k l v) (sym (c.whole.ensures.0 a.events.now k l v c.requires) ∙ c.if-not-whole.false) c.word.result (sym (c.word.ensures k l v)) c.if-word-ne1.true, f.1, f.2)

pub overflow_add-e-2 : goal.overflow_add-e-2
overflow_add-e-2 c = omega (arith, c.requires, c.whole.ensures.1 c.if-not-whole.false)

pub patch-requires : goal.patch-requires
patch-requires c = (omega (arith, c.whole.ensures.1 c.if-not-whole.false), c.requires)

pub returns : goal.returns
returns c =
    let a = c.args in
    let f = c.flags-2.ensures in (
      λ k l v. f.0 c.patch.new.events k l v ∙ loose_now a.e (view a.st a.events.now k l v) (sym (c.whole.ensures.0 a.events.now k l v c.requires) ∙ c.if-not-whole.false) c.word.result (sym (c.word.ensures k l v)) c.if-word-ne1.false
          (view a.st c.patch.new.events k l v) (c.patch.ensures k l v),
      f.1,
      f.2,
    )
