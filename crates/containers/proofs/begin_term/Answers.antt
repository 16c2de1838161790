use mathlib.Core.Path.{refl, ap, ◌∙◌}
use Rattle.markers.specs.Markers.{marker_num}
use Rattle.markers.specs.declared.Marker.{Marker}
use Rattle.events.specs.View.{view}
use Rattle.walk.specs.Fields.{marker_in}
use Rattle.walk.specs.Tree.{open_term}
use Rattle.containers.proofs.EnterLaws.{step-taken, step_left}
use Rattle.containers.proofs.begin_term.Goals as goal

pub returns-then-marker_num-ne4 : goal.returns-then-marker_num-ne4
returns-then-marker_num-ne4 c =
    let a = c.args in record {
      by_index = λ l v. step_left c.marker_num.result (marker_num (marker_in a.m.kind)) 4 (c.marker_num.ensures ∙ ap (λ (t : Marker). marker_num t) c.marker_in.ensures) (view a.st a.events.now a.stack.now l v)
          (open_term a.m (view a.st a.events.now a.stack.now l v)) c.if-marker_num-ne4.true;
      fits = (c.requires, record { lists = refl; sections = refl });
    }

pub open_term-requires : goal.open_term-requires
open_term-requires c = c.requires

pub returns : goal.returns
returns c =
    let a = c.args in record {
      by_index = λ l v. c.open_term.ensures.by_index l v
          ∙ step-taken c.marker_num.result (marker_num (marker_in a.m.kind)) 4 (c.marker_num.ensures ∙ ap (λ (t : Marker). marker_num t) c.marker_in.ensures) (view a.st a.events.now a.stack.now l v)
          (open_term a.m (view a.st a.events.now a.stack.now l v)) c.if-marker_num-ne4.false;
      fits = c.open_term.ensures.fits;
    }
