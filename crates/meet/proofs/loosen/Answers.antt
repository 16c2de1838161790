use Rattle.classes.specs.Choice.{both}
use Rattle.measure.specs.Continue.{kind_num}
use lib.Dec.{eqb, ltb}
use mathlib.Core.Bool.{false}
use native.Mathlib.Omega.{arith}
use borrow.Author.Tests.{not-true, not-false}
use mathlib.Core.Path.{◌∙◌}
use mathlib.Core.Path.{◌≡◌}
use native.Mathlib.Nat.{pos_of_ne-zero}
use Rattle.meet.proofs.SettleLaws.{loosen-blank, loosen-after, loosen-none, loosen-deeper, loosen-outside, loosen-begins, not-item, item-here, loosen-here}
use Rattle.meet.proofs.loosen.Goals as goal
use Rattle.meet.proofs.loosen.Goals.{then-n-eq-LIST_ITEM+else-d-st, else-n-eq-LIST_ITEM}

pub returns-then-n-eq-BLANKLINE : goal.returns-then-n-eq-BLANKLINE
returns-then-n-eq-BLANKLINE c =
    let a = c.args in
    let f = c.flags.ensures in
    (λ v. f.0 a.events.now a.stack.now a.lists.now v ∙ loosen-blank a.m a.st a.events.now a.stack.now a.lists.now v c.kind_num-n.result c.kind_num-n.ensures c.if-n-eq-BLANKLINE.true, f.1, f.2)

pub returns-then-not-st : goal.returns-then-not-st
returns-then-not-st c =
    let a = c.args in
    let f = c.flags-then-not-st.ensures in
    (λ v. f.0 a.events.now a.stack.now a.lists.now v ∙ loosen-after a.m a.st a.events.now a.stack.now a.lists.now v c.kind_num-n.result c.kind_num-n.ensures c.if-n-eq-BLANKLINE.false (not-true _ c.if-not-st.true), f.1, f.2)

pub returns-then-st-eq0 : goal.returns-then-st-eq0
returns-then-st-eq0 c =
    let a = c.args in
    let f = c.flags-then-st-eq0.ensures in
    (λ v. f.0 a.events.now a.stack.now a.lists.now v ∙ loosen-none a.m a.st a.events.now a.stack.now a.lists.now v c.kind_num-n.result c.kind_num-n.ensures c.if-n-eq-BLANKLINE.false (not-false _ c.if-not-st.false) c.if-st-eq0.true, f.1, f.2)

pub last_list-o-requires : goal.last_list-o-requires
last_list-o-requires c = (pos_of_ne-zero c.if-st-eq0.false, c.requires.1)

pub returns-then-st-d : goal.returns-then-st-d
returns-then-st-d c =
    let a = c.args in
    let f = c.refuse.ensures in
    (λ v. f.0 a.events.now a.stack.now a.lists.now v ∙ loosen-deeper a.m a.st a.events.now a.stack.now a.lists.now v c.kind_num-n.result c.kind_num-n.ensures c.if-n-eq-BLANKLINE.false (not-false _ c.if-not-st.false) c.requires.1 c.requires.0.depth c.if-st-eq0.false c.last_list-o.result (c.last_list-o.ensures a.events.now a.stack.now v) c.if-st-d.true, f.1, f.4)

pub returns-then-d-eq0 : goal.returns-then-d-eq0
returns-then-d-eq0 c =
    let a = c.args in
    let f = c.flags-then-d-eq0.ensures in
    (λ v. f.0 a.events.now a.stack.now a.lists.now v ∙ loosen-outside a.m a.st a.events.now a.stack.now a.lists.now v c.kind_num-n.result c.kind_num-n.ensures c.if-n-eq-BLANKLINE.false (not-false _ c.if-not-st.false) c.requires.1 c.requires.0.depth c.if-st-eq0.false c.last_list-o.result (c.last_list-o.ensures a.events.now a.stack.now v) c.if-st-d.false c.if-d-eq0.true, f.1, f.2)

pub returns-then-d-st : goal.returns-then-d-st
returns-then-d-st c =
    let a = c.args in
    let f = c.flags-then-d-st.ensures in
    (λ v. f.0 a.events.now a.stack.now a.lists.now v ∙ loosen-begins a.m a.st a.events.now a.stack.now a.lists.now v c.kind_num-n.result c.kind_num-n.ensures c.if-n-eq-BLANKLINE.false (not-false _ c.if-not-st.false) c.requires.1 c.requires.0.depth c.if-st-eq0.false c.last_list-o.result (c.last_list-o.ensures a.events.now a.stack.now v) c.if-st-d.false c.if-d-eq0.false c.if-n-eq-LIST_ITEM.true c.if-d-st.true, f.1, f.2)

pub overflow_sub-d : goal.overflow_sub-d
overflow_sub-d c = omega (arith, pos_of_ne-zero c.if-d-eq0.false)

pub open_at-requires : goal.open_at-requires
open_at-requires c = (omega (arith, c.if-st-d.false, pos_of_ne-zero c.if-d-eq0.false), c.requires.0.depth)

pub loose_at-requires : goal.loose_at-requires
loose_at-requires c = c.requires.0.words

pub returns : goal.returns
returns c =
    let a = c.args in
    let f = c.loose_at.ensures in
    let o = c.last_list-o.result in
    let i : both (eqb (kind_num a.m.kind) 9) (ltb o.depth a.st.depth) ≡ false = elim c.if-n-eq-LIST_ITEM.branch [ then-n-eq-LIST_ITEM+else-d-st w ↦ item-here a.m c.kind_num-n.result c.kind_num-n.ensures o.depth a.st.depth w.if-n-eq-LIST_ITEM.true w.if-d-st.false | else-n-eq-LIST_ITEM w ↦ not-item a.m c.kind_num-n.result c.kind_num-n.ensures o.depth a.st.depth w.if-n-eq-LIST_ITEM.false ] in (
      λ v. f.0 a.stack.now a.lists.now v ∙ loosen-here a.m a.st a.events.now a.stack.now a.lists.now v c.kind_num-n.result c.kind_num-n.ensures c.if-n-eq-BLANKLINE.false (not-false _ c.if-not-st.false) c.requires.1 c.requires.0.depth c.if-st-eq0.false o (c.last_list-o.ensures a.events.now a.stack.now v) c.if-st-d.false c.if-d-eq0.false i c.open_at.result (c.open_at.ensures a.events.now a.lists.now v),
      f.1,
      f.2,
    )
