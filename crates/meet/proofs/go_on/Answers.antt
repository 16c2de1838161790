use native.Mathlib.Omega.{arith}
use mathlib.Core.Path.{refl, ◌∙◌}
use Rattle.events.specs.View.{view}
use Rattle.meet.proofs.SettleLaws.{goes-not, goes_on}
use Rattle.meet.proofs.go_on.Goals as goal

pub close_list-requires : goal.close_list-requires
close_list-requires c = (c.requires.0, c.requires.2)

pub set_list-requires : goal.set_list-requires
set_list-requires c = (c.requires.1, c.requires.2)

pub returns-in-None : goal.returns-in-None
returns-in-None c =
    let a = c.args in
    let x = c.close_list.ensures in record { by_index = λ v. x.by_index v ∙ goes-not a.o a.pos a.c (view a.st a.events.now a.stack.now a.lists.now v) c.in-None.is; fits = x.fits }

pub returns-in-Some : goal.returns-in-Some
returns-in-Some c =
    let a = c.args in record { by_index = λ v. c.set_list.ensures a.events.now a.stack.now v ∙ goes_on a.o a.pos a.c _ c.start_type-start.result (view a.st a.events.now a.stack.now a.lists.now v) c.in-Some.is c.start_type-start.ensures; fits = (c.requires.0, omega (arith, c.requires.2, c.set_list.auto.lists), refl) }
