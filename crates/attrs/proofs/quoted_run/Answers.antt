use native.Mathlib.Omega.{arith}
use mathlib.Core.Path.{◌∙◌, sym}
use Rattle.attrs.proofs.MachineLaws.{stays-none, stays_on, quoted-stays}
use Rattle.attrs.proofs.quoted_run.Goals as goal

pub loop-n-init : goal.loop-n-init
loop-n-init c = (omega arith, stays-none 12 c.args.src.now)

pub returns-then-not-is_quoted : goal.returns-then-not-is_quoted
returns-then-not-is_quoted c = c.loop-n.invariant

pub loop-n-preserved : goal.loop-n-preserved
loop-n-preserved c =
    let l = c.loop-n in
    let e = quoted-stays _ (sym c.is_quoted.ensures ∙ c.if-not-is_quoted.false) in
    (omega arith, stays_on 12 c.args.src.now l.n c.loop-n-test.true (omega arith) e l.invariant.1)

pub returns : goal.returns
returns c = c.loop-n.invariant
