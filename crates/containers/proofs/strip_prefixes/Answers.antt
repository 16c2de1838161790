use native.Mathlib.Omega.{arith}
use mathlib.Core.Path.{refl, ◌∙◌}
use Prim.Native.Nat.{◌+◌, ◌*◌}
use lib.ListN.{length-set}
use Rattle.lines.specs.Lines.{spans_of}
use Rattle.walk.specs.Tree.{strip_line}
use Rattle.walk.proofs.LineLaws.{inside}
use Rattle.containers.proofs.PrefixLaws.{later-start, strip-next, strip-all}
use Rattle.containers.proofs.strip_prefixes.Goals as goal

pub loop-k-init : goal.loop-k-init
loop-k-init c = (omega arith, refl, later-start (strip_line c.args.text.now c.args.kind c.args.opening) (spans_of c.args.lines.now))

pub overflow_mul-start : goal.overflow_mul-start
overflow_mul-start c = omega (arith, c.loop-k-test.true)

pub offset_bounds-lines-k : goal.offset_bounds-lines-k
offset_bounds-lines-k c = omega (arith, c.loop-k-test.true)

pub bounds-lines-k : goal.bounds-lines-k
bounds-lines-k c = omega (arith, c.loop-k-test.true, c.loop-k.invariant.1)

pub overflow_mul-k : goal.overflow_mul-k
overflow_mul-k c = omega (arith, c.loop-k-test.true)

pub overflow_add-k : goal.overflow_add-k
overflow_add-k c = omega (arith, c.loop-k-test.true)

pub offset_bounds-lines-k-in-loop-k : goal.offset_bounds-lines-k-in-loop-k
offset_bounds-lines-k-in-loop-k c = omega (arith, c.loop-k-test.true)

pub bounds-lines-k-in-loop-k : goal.bounds-lines-k-in-loop-k
bounds-lines-k-in-loop-k c = omega (arith, c.loop-k-test.true, c.loop-k.invariant.1)

pub offset-from-requires : goal.offset-from-requires
offset-from-requires c = inside c.args.text.now _ _ _ _ _ c.part_at-line.ensures c.prefix.ensures.1 (omega (arith, c.type_inv.lines (c.loop-k.k * 2))) (omega (arith, c.type_inv.lines (c.loop-k.k * 2 + 1)))

pub overflow_mul-lines : goal.overflow_mul-lines
overflow_mul-lines c = omega (arith, c.loop-k-test.true)

pub offset_bounds-lines-k-in-loop-k-2 : goal.offset_bounds-lines-k-in-loop-k-2
offset_bounds-lines-k-in-loop-k-2 c = omega (arith, c.loop-k-test.true)

pub bounds-lines-k-in-loop-k-2 : goal.bounds-lines-k-in-loop-k-2
bounds-lines-k-in-loop-k-2 c = omega (arith, c.loop-k-test.true, c.loop-k.invariant.1)

pub overflow_add-k-in-loop-k : goal.overflow_add-k-in-loop-k
overflow_add-k-in-loop-k c = omega (arith, c.loop-k-test.true)

pub loop-k-smaller : goal.loop-k-smaller
loop-k-smaller c = omega (arith, c.loop-k-test.true)

pub loop-k-preserved : goal.loop-k-preserved
loop-k-preserved c =
    let l = c.loop-k in
    let a = c.args in (
      omega arith,
      length-set l.lines (l.k * 2) c.offset-from.result ∙ l.invariant.1,
      strip-next a.text.now a.kind a.opening l.k l.lines a.lines.now _ c.offset-from.result c.prefix.result l.invariant.0 (omega (arith, c.loop-k-test.true, l.invariant.1)) c.part_at-line.ensures c.prefix.ensures.0 c.offset-from.ensures l.invariant.2,
    )

pub returns : goal.returns
returns c = c.loop-k.invariant.2 ∙ strip-all c.args.text.now c.args.kind c.args.opening c.loop-k.k c.args.lines.now c.loop-k.invariant.0 (omega (arith, c.loop-k-test.false))
