use native.Mathlib.Omega.{arith}
use Rattle.events.specs.View.{view}
use Rattle.lists.proofs.ListLaws.{retyped}
use Rattle.lists.proofs.retype.Goals as goal

pub patch-requires : goal.patch-requires
patch-requires c = (omega (arith, c.requires.0), omega (arith, c.requires.1, c.tighten.auto.events))

pub patch-requires-2 : goal.patch-requires-2
patch-requires-2 c = (omega (arith, c.requires.0), omega (arith, c.requires.1, c.tighten.auto.events, c.patch.auto.events))

pub patch-requires-3 : goal.patch-requires-3
patch-requires-3 c = (omega (arith, c.requires.0), omega (arith, c.requires.1, c.tighten.auto.events, c.patch.auto.events, c.patch-2.auto.events))

pub returns : goal.returns
returns c =
    let a = c.args in
    λ k l v. retyped a.e a.ty (view a.st a.events.now k l v) (view a.st c.tighten.new.events k l v) (view a.st c.patch.new.events k l v) (view a.st c.patch-2.new.events k l v) (view a.st c.patch-3.new.events k l v) c.type_detail-detail.result c.type_value-value.result
    c.type_detail-detail.ensures.0 c.type_value-value.ensures (c.tighten.ensures k l v) (c.patch.ensures k l v) (c.patch-2.ensures k l v) (c.patch-3.ensures k l v)
