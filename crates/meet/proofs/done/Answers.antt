use mathlib.Core.Path.{refl}
use Rattle.events.specs.View.{view}
use Rattle.meet.proofs.AdmitLaws.{attr-none, attr-old, attr-new}
use Rattle.meet.proofs.done.Goals as goal

pub returns-then-kind_num-ne-ATTRIBUTES : goal.returns-then-kind_num-ne-ATTRIBUTES
returns-then-kind_num-ne-ATTRIBUTES c =
    let a = c.args in
    (λ e k l v. attr-none a.m a.at a.w c.kind_num.result (view a.st e k l v) c.kind_num.ensures c.if-kind_num-ne-ATTRIBUTES.true, refl, record { depth = refl; lists = refl; sections = refl })

pub returns-then-st-ne0 : goal.returns-then-st-ne0
returns-then-st-ne0 c =
    let a = c.args in
    (λ e k l v. attr-old a.m a.at a.w c.kind_num.result (view a.st e k l v) c.kind_num.ensures c.if-kind_num-ne-ATTRIBUTES.false c.if-st-ne0.true, refl, record { depth = refl; lists = refl; sections = refl })

pub returns : goal.returns
returns c =
    let a = c.args in
    (λ e k l v. attr-new a.m a.at a.w c.kind_num.result (view a.st e k l v) c.kind_num.ensures c.if-kind_num-ne-ATTRIBUTES.false c.if-st-ne0.false, refl, record { depth = refl; lists = refl; sections = refl })
