use native.Mathlib.Omega.{arith}
use mathlib.Core.Path.{◌≡◌, refl, ap, ◌∙◌}
use mathlib.Core.List.{List}
use Prim.Native.Nat.{ℕ, ◌+◌}
use lib.ListN.{drop, get_or, set, length-set}
use lib.Seq.{paste-zero}
use Rattle.moves.proofs.MoveLaws.{shifted, shift-turn, shift-view}
use Rattle.moves.proofs.shift.Goals as goal

pub loop-i-init : goal.loop-i-init
loop-i-init c = (omega arith, refl, paste-zero c.args.events.now c.args.to (drop (c.args.to + 8) c.args.events.now))

pub loop-i-preserved : goal.loop-i-preserved
loop-i-preserved c =
    let l = c.loop-i in
    let a = c.args in (
      omega arith,
      length-set l.events _ _ ∙ l.invariant.1,
      ap (λ (x : List ℕ). set x (a.to + l.i) (get_or x (a.to + 8 + l.i) 0)) l.invariant.2 ∙ shift-turn a.events.now a.to l.i (omega arith),
    )

pub returns : goal.returns
returns c =
    let l = c.loop-i in
    let a = c.args in
    let e : l.i ≡ a.n = omega arith in
    shift-view a.st a.events.now l.events a.to a.n c.requires.0 c.requires.1 (l.invariant.2 ∙ ap (λ (i : ℕ). shifted a.events.now a.to i) e)
