use native.Mathlib.Omega.{arith}
use mathlib.Core.Path.{refl, sym, ◌∙◌}
use Rattle.ends.proofs.EndLaws.{lists-end, lists-on, lists-stop}
use Rattle.ends.proofs.close_lists.Goals as goal

pub loop-left-init : goal.loop-left-init
loop-left-init c = record { size = refl; fits = c.requires.0; lists = c.requires.1; sections = refl; same = λ v. refl }

pub close_list-b-requires : goal.close_list-b-requires
close_list-b-requires c = (c.loop-left.invariant.fits, c.loop-left.invariant.lists)

pub returns-then-b-ne0 : goal.returns-then-b-ne0
returns-then-b-ne0 c =
    let l = c.loop-left in
    let x = c.close_list-b.ensures in record { by_index = λ v. sym (lists-stop c.args.pos l.left _ (omega (arith, c.loop-left-test.true)) _ (x.by_index v) c.if-b-ne0.true) ∙ l.invariant.same v; fits = (x.fits.0, x.fits.2 ∙ l.invariant.sections) }

pub overflow_sub-left : goal.overflow_sub-left
overflow_sub-left c = omega (arith, c.loop-left-test.true)

pub loop-left-smaller : goal.loop-left-smaller
loop-left-smaller c = omega (arith, c.loop-left-test.true)

pub loop-left-preserved : goal.loop-left-preserved
loop-left-preserved c =
    let l = c.loop-left in
    let x = c.close_list-b.ensures in
    record { size = c.close_list-b.auto.events ∙ l.invariant.size; fits = x.fits.0; lists = x.fits.1; sections = x.fits.2 ∙ l.invariant.sections; same = λ v. sym (lists-on c.args.pos l.left _ (omega (arith, c.loop-left-test.true)) _ (x.by_index v) c.if-b-ne0.false) ∙ l.invariant.same v }

pub returns : goal.returns
returns c =
    let l = c.loop-left in record { by_index = λ v. sym (lists-end c.args.pos l.left _ c.loop-left-test.false) ∙ l.invariant.same v; fits = (l.invariant.fits, l.invariant.sections) }
