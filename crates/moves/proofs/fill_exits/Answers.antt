use native.Mathlib.Omega.{arith}
use mathlib.Core.Path.{◌≡◌, refl, ap, ◌∙◌}
use Prim.Native.Nat.{ℕ, ◌+◌, ◌*◌, ◌-◌}
use lib.ListN.{length}
use lib.Seq.{sets}
use Rattle.events.specs.Events.{words_of}
use Rattle.events.specs.declared.Event.{Event}
use Rattle.moves.specs.Moves.{exits_of}
use Rattle.moves.proofs.SectionLaws.{gapped, exits-none, exits-turn}
use Rattle.moves.proofs.fill_exits.Goals as goal

pub loop-i-init : goal.loop-i-init
loop-i-init c = (refl, omega arith, refl, exits-none c.args.events.now c.args.os.now c.args.pos c.args.a)

pub overflow_add-o : goal.overflow_add-o
overflow_add-o c = omega (arith, c.loop-i-test.true)

pub overflow_sub-o : goal.overflow_sub-o
overflow_sub-o c = omega (arith, c.loop-i-test.true)

pub offset_bounds-os-n : goal.offset_bounds-os-n
offset_bounds-os-n c = omega (arith, c.loop-i-test.true, c.loop-i.invariant.0, c.well_formed.1.0.1)

pub bounds-os-n : goal.bounds-os-n
bounds-os-n c = omega (arith, c.loop-i-test.true, c.loop-i.invariant.0)

pub exit_event-x-requires : goal.exit_event-x-requires
exit_event-x-requires c = omega (arith, c.requires.1 (length c.args.os.now - (c.loop-i.i + 1)) (omega (arith, c.loop-i-test.true, c.loop-i.invariant.0)), c.requires.0, c.loop-i.invariant.2)

pub overflow_mul-i : goal.overflow_mul-i
overflow_mul-i c = omega (arith, c.loop-i-test.true, c.loop-i.invariant.0, c.requires.0)

pub overflow_add-a : goal.overflow_add-a
overflow_add-a c = omega (arith, c.loop-i-test.true, c.loop-i.invariant.0, c.requires.0)

pub put-requires : goal.put-requires
put-requires c = omega (arith, c.loop-i-test.true, c.loop-i.invariant.0, c.loop-i.invariant.2, c.requires.0)

pub overflow_add-i : goal.overflow_add-i
overflow_add-i c = omega (arith, c.loop-i-test.true)

pub loop-i-smaller : goal.loop-i-smaller
loop-i-smaller c = omega (arith, c.loop-i-test.true)

pub loop-i-preserved : goal.loop-i-preserved
loop-i-preserved c =
    let a = c.args in
    let l = c.loop-i in (
      l.invariant.0,
      omega (arith, c.loop-i-test.true),
      c.put.auto.events ∙ l.invariant.2,
      c.put.ensures ∙ ap (λ (x : Event). sets l.events (a.a + 8 * l.i) (words_of x)) c.exit_event-x.ensures ∙ exits-turn a.events.now a.os.now a.pos a.a l.i l.events (omega (arith, c.loop-i-test.true, l.invariant.0)) c.requires.0 c.requires.1 l.invariant.3,
    )

pub returns : goal.returns
returns c =
    let a = c.args in
    let l = c.loop-i in
    let e : l.i ≡ length a.os.now = omega (arith, c.loop-i-test.false, l.invariant.1, l.invariant.0) in
    l.invariant.3 ∙ ap (λ (i : ℕ). gapped a.events.now a.a i (exits_of a.pos a.events.now a.os.now i)) e
