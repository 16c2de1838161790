use native.Mathlib.Omega.{arith}
use mathlib.Core.Path.{refl, ◌∙◌}
use Rattle.lists.proofs.ListLaws.{push-full-view, push-room-view}
use Rattle.lists.proofs.push_list.Goals as goal

pub returns-then-n-ge-DEEPEST : goal.returns-then-n-ge-DEEPEST
returns-then-n-ge-DEEPEST c =
    let a = c.args in
    let f = c.refuse.ensures in record { by_index = λ e k v. f.0 e k a.lists.now v ∙ push-full-view a.st a.lists.now c.requires.0 e k v a.o c.if-n-ge-DEEPEST.true; list_width_in_bounds = (omega (arith, f.4.lists, c.requires.0), f.1, f.2, f.4.sections) }

pub store_list-requires : goal.store_list-requires
store_list-requires c = omega (arith, c.requires.1, c.if-n-ge-DEEPEST.false)

pub returns : goal.returns
returns c =
    let a = c.args in record { by_index = λ e k v. push-room-view a.st a.lists.now c.requires.0 e k v a.o c.store_list.new.lists c.if-n-ge-DEEPEST.false c.requires.1 c.store_list.ensures; list_width_in_bounds = (omega (arith, c.store_list.auto.lists, c.requires.1, c.if-n-ge-DEEPEST.false), refl, refl, refl) }
