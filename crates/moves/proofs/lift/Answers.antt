use native.Mathlib.Omega.{arith}
use mathlib.Core.Path.{◌≡◌, refl, ap, ◌∙◌}
use mathlib.Core.List.{List}
use Prim.Native.Nat.{ℕ, ◌+◌, ◌-◌}
use lib.ListN.{get_or, set, length-set}
use Rattle.moves.proofs.MoveLaws.{lifted, lift-turn, lift-none}
use Rattle.moves.proofs.lift.Goals as goal

pub loop-j-init : goal.loop-j-init
loop-j-init c = (omega arith, omega arith, refl, lift-none c.args.events.now c.args.w c.args.s)

pub loop-j-preserved : goal.loop-j-preserved
loop-j-preserved c =
    let l = c.loop-j in
    let a = c.args in
    let e : l.j ≡ l.j - 1 + 1 = omega arith in (
      omega arith,
      omega arith,
      length-set l.events _ _ ∙ l.invariant.2,
      ap (λ (x : List ℕ). set x (l.j - 1 + a.s) (get_or x (l.j - 1) 0)) (l.invariant.3 ∙ ap (λ (i : ℕ). lifted a.events.now a.w a.s i) e) ∙ lift-turn a.events.now a.w a.s (l.j - 1) (omega arith) c.requires.1,
    )

pub returns : goal.returns
returns c =
    let l = c.loop-j in
    let a = c.args in
    let e : l.j ≡ a.a = omega arith in
    l.invariant.3 ∙ ap (λ (i : ℕ). lifted a.events.now a.w a.s i) e
