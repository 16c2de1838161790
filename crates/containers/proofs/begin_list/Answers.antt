use mathlib.Core.Path.{refl, ap, ◌∙◌}
use Rattle.markers.specs.declared.Marker.{Marker}
use Rattle.measure.specs.Continue.{kind_num}
use Rattle.events.specs.View.{view}
use Rattle.walk.specs.Fields.{marker_in}
use Rattle.walk.specs.Tree.{open_list}
use Rattle.containers.proofs.EnterLaws.{step-taken, step_left}
use Rattle.containers.proofs.begin_list.Goals as goal

pub returns-then-kind_num-ne-LIST_ITEM : goal.returns-then-kind_num-ne-LIST_ITEM
returns-then-kind_num-ne-LIST_ITEM c =
    let a = c.args in record {
      by_index = λ v. step_left c.kind_num.result (kind_num a.m.kind) 9 c.kind_num.ensures (view a.st a.events.now a.stack.now a.lists.now v)
          (open_list (marker_in a.m.kind) a.m.start (view a.st a.events.now a.stack.now a.lists.now v)) c.if-kind_num-ne-LIST_ITEM.true;
      fits = (c.requires.0, c.requires.1, refl);
    }

pub open_list-requires : goal.open_list-requires
open_list-requires c = c.requires

pub returns : goal.returns
returns c =
    let a = c.args in record {
      by_index = λ v. c.open_list.ensures.by_index v ∙ ap (λ (t : Marker). open_list t a.m.start (view a.st a.events.now a.stack.now a.lists.now v)) c.marker_in.ensures
          ∙ step-taken c.kind_num.result (kind_num a.m.kind) 9 c.kind_num.ensures (view a.st a.events.now a.stack.now a.lists.now v)
          (open_list (marker_in a.m.kind) a.m.start (view a.st a.events.now a.stack.now a.lists.now v)) c.if-kind_num-ne-LIST_ITEM.false;
      fits = c.open_list.ensures.fits;
    }
