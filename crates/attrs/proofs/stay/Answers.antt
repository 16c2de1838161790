use native.Mathlib.Omega.{arith}
use mathlib.Core.Path.{ap, sym, subst}
use Prim.Native.Nat.{ℕ}
use Rattle.attrs.specs.Machine.{takes_names}
use Rattle.attrs.proofs.MachineLaws.{Stays, stays-none}
use Rattle.attrs.proofs.stay.Goals as goal

pub returns-in-6 : goal.returns-in-6
unfolding takes_names
returns-in-6 c = (c.name_run.ensures.0, λ n. c.name_run.ensures.1 c.args.state n (ap takes_names c.in-6.is))

pub returns-in-8 : goal.returns-in-8
unfolding takes_names
returns-in-8 c = (c.name_run-in-8.ensures.0, λ n. c.name_run-in-8.ensures.1 c.args.state n (ap takes_names c.in-8.is))

pub returns-in-9 : goal.returns-in-9
unfolding takes_names
returns-in-9 c = (c.name_run-in-9.ensures.0, λ n. c.name_run-in-9.ensures.1 c.args.state n (ap takes_names c.in-9.is))

pub returns-in-11 : goal.returns-in-11
unfolding takes_names
returns-in-11 c = (c.name_run-in-11.ensures.0, λ n. c.name_run-in-11.ensures.1 c.args.state n (ap takes_names c.in-11.is))

pub returns-in-12 : goal.returns-in-12
returns-in-12 c =
    let r = c.quoted_run in
    (r.ensures.0, subst (λ (s : ℕ). Stays s c.args.src.now r.result) (sym c.in-12.is) r.ensures.1)

pub returns-in_default : goal.returns-in_default
returns-in_default c = (omega arith, stays-none c.args.state c.args.src.now)
