use native.Mathlib.Omega.{arith}
use mathlib.Core.Path.{refl, ◌∙◌, sym}
use Prim.Native.Nat.{◌+◌}
use Rattle.attrs.specs.Machine.{valid_of}
use Rattle.attrs.proofs.MachineLaws.{stays-from, turn-done, turn-invalid, turn_on, turn_end}
use Rattle.attrs.proofs.NextLaws.{next-step}
use Rattle.attrs.proofs.valid.Goals as goal

pub loop-n-init : goal.loop-n-init
unfolding valid_of
loop-n-init c = (omega arith, (omega arith, refl))

pub returns-then-n-src : goal.returns-then-n-src
returns-then-n-src c =
    let l = c.loop-n in
    let m = l.n + c.stay-n.result in
    let j = l.invariant.1.1 ∙ stays-from l.state c.args.src.now l.n c.stay-n.result c.stay-n.ensures.1 in
    (sym (j ∙ turn_end l.state c.args.src.now m m (omega arith)), omega arith)

pub returns-then-state-eq-DONE : goal.returns-then-state-eq-DONE
returns-then-state-eq-DONE c =
    let l = c.loop-n in
    let m = l.n + c.stay-n.result in
    let j = l.invariant.1.1 ∙ stays-from l.state c.args.src.now l.n c.stay-n.result c.stay-n.ensures.1 in
    let t = next-step l.state _ c.class_of.result l.invariant.0 c.class_of.ensures in
    (sym (j ∙ turn-done l.state c.args.src.now m m c.wide-state.result (omega arith) (c.wide-state.ensures ∙ t.0) c.if-state-eq-DONE.true), omega arith)

pub returns-then-state-eq-INVALID : goal.returns-then-state-eq-INVALID
returns-then-state-eq-INVALID c =
    let l = c.loop-n in
    let m = l.n + c.stay-n.result in
    let j = l.invariant.1.1 ∙ stays-from l.state c.args.src.now l.n c.stay-n.result c.stay-n.ensures.1 in
    let t = next-step l.state _ c.class_of.result l.invariant.0 c.class_of.ensures in
    (sym (j ∙ turn-invalid l.state c.args.src.now m m c.wide-state.result (omega arith) (c.wide-state.ensures ∙ t.0) c.if-state-eq-DONE.false c.if-state-eq-INVALID.true), omega arith)

pub loop-n-preserved : goal.loop-n-preserved
loop-n-preserved c =
    let l = c.loop-n in
    let m = l.n + c.stay-n.result in
    let j = l.invariant.1.1 ∙ stays-from l.state c.args.src.now l.n c.stay-n.result c.stay-n.ensures.1 in
    let t = next-step l.state _ c.class_of.result l.invariant.0 c.class_of.ensures in
    (rw c.wide-state.ensures t.1, (omega arith, j ∙ turn_on l.state c.args.src.now m m c.wide-state.result (omega arith) (c.wide-state.ensures ∙ t.0) c.if-state-eq-DONE.false c.if-state-eq-INVALID.false))

pub returns : goal.returns
returns c =
    let l = c.loop-n in
    (sym (l.invariant.1.1 ∙ turn_end l.state c.args.src.now l.n l.n c.loop-n-test.false), omega arith)
