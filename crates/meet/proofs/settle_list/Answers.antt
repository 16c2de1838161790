use mathlib.Core.Path.{refl, ap, ◌∙◌}
use native.Mathlib.Nat.{pos_of_ne-zero}
use Rattle.markers.specs.Lists.{continues_of}
use Rattle.markers.specs.declared.Marker.{Marker}
use Rattle.meet.proofs.SettleLaws.{settle-none, settle_other, settle-close, settle-item}
use Rattle.meet.proofs.settle_list.Goals as goal

pub returns-then-st-eq0 : goal.returns-then-st-eq0
returns-then-st-eq0 c =
    let a = c.args in record { by_index = λ v. settle-none a.m a.st a.events.now a.stack.now a.lists.now v c.if-st-eq0.true; fits = (c.requires.0, c.requires.1, refl) }

pub last_list-o-requires : goal.last_list-o-requires
last_list-o-requires c = (pos_of_ne-zero c.if-st-eq0.false, c.requires.1)

pub returns-then-o-st : goal.returns-then-o-st
returns-then-o-st c =
    let a = c.args in record { by_index = λ v. settle_other a.m a.st a.events.now a.stack.now a.lists.now v c.requires.1 c.requires.0.depth c.if-st-eq0.false c.last_list-o.result (c.last_list-o.ensures a.events.now a.stack.now v) c.if-o-st.true; fits = (c.requires.0, c.requires.1, refl) }

pub close_list-requires : goal.close_list-requires
close_list-requires c = (c.requires.0, c.requires.1)

pub returns-then-kind_num-ne-LIST_ITEM : goal.returns-then-kind_num-ne-LIST_ITEM
returns-then-kind_num-ne-LIST_ITEM c =
    let a = c.args in
    let x = c.close_list.ensures in record { by_index = λ v. x.by_index v ∙ settle-close a.m a.st a.events.now a.stack.now a.lists.now v c.requires.1 c.requires.0.depth c.if-st-eq0.false c.last_list-o.result (c.last_list-o.ensures a.events.now a.stack.now v) c.if-o-st.false c.kind_num.result c.kind_num.ensures c.if-kind_num-ne-LIST_ITEM.true; fits = x.fits }

pub go_on-requires : goal.go_on-requires
go_on-requires c = (c.requires.0, pos_of_ne-zero c.if-st-eq0.false, c.requires.1)

pub returns : goal.returns
returns c =
    let a = c.args in
    let x = c.go_on.ensures in record {
      by_index = λ v. x.by_index v ∙ settle-item a.m a.st a.events.now a.stack.now a.lists.now v c.requires.1 c.requires.0.depth c.if-st-eq0.false c.last_list-o.result (c.last_list-o.ensures a.events.now a.stack.now v) c.if-o-st.false c.kind_num.result c.kind_num.ensures c.if-kind_num-ne-LIST_ITEM.false
          c.continues-c.result (c.continues-c.ensures ∙ ap (λ (t : Marker). continues_of c.last_list-o.result.prev t) c.marker_in.ensures);
      fits = x.fits;
    }
