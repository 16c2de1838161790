use mathlib.Core.Path.{◌∙◌}
use borrow.Author.Tests.{not-true, not-false}
use Prim.Native.Nat.{◌+◌}
use Rattle.events.specs.Events.{patch_of}
use Rattle.events.specs.View.{view}
use Rattle.lists.proofs.ListLaws.{pick_first, pick_second}
use Rattle.lists.proofs.tighten.Goals as goal

pub returns-then-not-st : goal.returns-then-not-st
returns-then-not-st c =
    let a = c.args in
    λ k l v. pick_second a.st.loose (patch_of (a.e + 4) 1 (view a.st a.events.now k l v)) (view a.st a.events.now k l v) (not-true _ c.if-not-st.true)

pub returns : goal.returns
returns c =
    let a = c.args in
    λ k l v. c.patch.ensures k l v ∙ pick_first a.st.loose (patch_of (a.e + 4) 1 (view a.st a.events.now k l v)) (view a.st a.events.now k l v) (not-false _ c.if-not-st.false)
