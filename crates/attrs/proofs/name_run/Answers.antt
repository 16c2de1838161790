use native.Mathlib.Omega.{arith}
use mathlib.Core.Path.{◌∙◌, sym}
use Rattle.attrs.proofs.MachineLaws.{stays-none, stays_on, name-stays}
use Rattle.attrs.proofs.name_run.Goals as goal

pub loop-n-init : goal.loop-n-init
loop-n-init c = (omega arith, λ s t. stays-none s c.args.src.now)

pub returns-then-not-is_name : goal.returns-then-not-is_name
returns-then-not-is_name c = (c.loop-n.invariant.0, λ s n t. c.loop-n.invariant.1 s t n)

pub loop-n-preserved : goal.loop-n-preserved
loop-n-preserved c =
    let l = c.loop-n in (
      omega arith,
      λ s t.
          let r = name-stays s _ (sym c.is_name.ensures ∙ c.if-not-is_name.false) t in
          stays_on s c.args.src.now l.n c.loop-n-test.true r.0 r.1 (l.invariant.1 s t),
    )

pub returns : goal.returns
returns c = (c.loop-n.invariant.0, λ s n t. c.loop-n.invariant.1 s t n)
