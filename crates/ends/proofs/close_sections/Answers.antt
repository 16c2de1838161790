use native.Mathlib.Omega.{arith}
use mathlib.Core.Path.{refl, sym, ◌∙◌}
use Rattle.ends.proofs.EndLaws.{sections-end, sections-on, sections-stop}
use Rattle.ends.proofs.close_sections.Goals as goal

pub loop-more-init : goal.loop-more-init
loop-more-init c = (refl, c.requires, λ l v. refl)

pub exit-b-requires : goal.exit-b-requires
exit-b-requires c = c.loop-more.invariant.1

pub returns-then-b-ne0 : goal.returns-then-b-ne0
returns-then-b-ne0 c =
    let p = c.loop-more in
    let x = c.exit-b.ensures in record { by_index = λ l v. sym (sections-stop c.args.pos p.more _ (omega (arith, c.loop-more-test.true)) _ (x.by_index l v) c.if-b-ne0.true) ∙ p.invariant.2 l v; fits = x.fits.0 }

pub overflow_sub-more : goal.overflow_sub-more
overflow_sub-more c = omega (arith, c.loop-more-test.true)

pub loop-more-smaller : goal.loop-more-smaller
loop-more-smaller c = omega (arith, c.loop-more-test.true)

pub loop-more-preserved : goal.loop-more-preserved
loop-more-preserved c =
    let p = c.loop-more in
    let x = c.exit-b.ensures in
    (c.exit-b.auto.events ∙ p.invariant.0, x.fits.0, λ l v. sym (sections-on c.args.pos p.more _ (omega (arith, c.loop-more-test.true)) _ (x.by_index l v) c.if-b-ne0.false) ∙ p.invariant.2 l v)

pub returns : goal.returns
returns c =
    let p = c.loop-more in record { by_index = λ l v. sym (sections-end c.args.pos p.more _ c.loop-more-test.false) ∙ p.invariant.2 l v; fits = p.invariant.1 }
