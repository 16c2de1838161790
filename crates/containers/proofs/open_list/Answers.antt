use native.Mathlib.Omega.{arith}
use mathlib.Core.Path.{refl, ◌∙◌}
use lib.Seq.{length-take-le}
use Rattle.events.specs.View.{view}
use Rattle.containers.proofs.EnterLaws.{list-node, list-goes, list-stop, list_on}
use Rattle.containers.proofs.open_list.Goals as goal

pub open_here-requires : goal.open_here-requires
open_here-requires c = c.requires.1

pub returns-then-open_here : goal.returns-then-open_here
returns-then-open_here c =
    let a = c.args in record { by_index = λ v. list-goes a.ty a.pos (view a.st a.events.now a.stack.now a.lists.now v) c.open_here.result (c.open_here.ensures a.events.now a.stack.now v c.requires.0.depth) c.if-open_here.true; fits = (c.requires.0, c.requires.1, refl) }

pub enter-a-requires : goal.enter-a-requires
enter-a-requires c = c.requires.0

pub returns-then-a-ne0 : goal.returns-then-a-ne0
returns-then-a-ne0 c =
    let a = c.args in
    let x = c.enter-a.ensures in record {
      by_index = λ v. list-stop a.ty a.pos (view a.st a.events.now a.stack.now a.lists.now v) c.open_here.result (c.open_here.ensures a.events.now a.stack.now v c.requires.0.depth) c.if-open_here.false
          c.node.result (list-node a.ty a.pos _ _ _ _ c.marker_num.ensures c.type_detail-detail.ensures.0 c.type_value-value.ensures c.node.ensures)
          (view c.enter-a.result c.enter-a.new.events c.enter-a.new.stack a.lists.now v) (x.by_index a.lists.now v) c.if-a-ne0.true;
      fits = (x.fits.0, omega (arith, c.requires.1, x.fits.2.lists), x.fits.2.sections);
    }

pub push_list-requires : goal.push_list-requires
push_list-requires c = (omega (arith, c.requires.1, c.enter-a.ensures.fits.2.lists), c.requires.2)

pub returns : goal.returns
returns c =
    let a = c.args in
    let x = c.enter-a.ensures in
    let p = c.push_list.ensures in record {
      by_index = λ v. list_on a.ty a.pos (view a.st a.events.now a.stack.now a.lists.now v) c.open_here.result (c.open_here.ensures a.events.now a.stack.now v c.requires.0.depth) c.if-open_here.false
          c.node.result (list-node a.ty a.pos _ _ _ _ c.marker_num.ensures c.type_detail-detail.ensures.0 c.type_value-value.ensures c.node.ensures)
          (view c.enter-a.result c.enter-a.new.events c.enter-a.new.stack a.lists.now v) (x.by_index a.lists.now v) c.if-a-ne0.false
          c.enter-a.result.depth (length-take-le c.enter-a.result.depth c.enter-a.new.stack x.fits.0.depth)
          (view c.push_list.result c.enter-a.new.events c.enter-a.new.stack c.push_list.new.lists v) (p.by_index c.enter-a.new.events c.enter-a.new.stack v);
      fits = (record { words = omega (arith, p.list_width_in_bounds.1, x.fits.0.words); depth = omega (arith, p.list_width_in_bounds.2, x.fits.0.depth); room = x.fits.0.room }, p.list_width_in_bounds.0, p.list_width_in_bounds.3 ∙ x.fits.2.sections);
    }
