use native.Mathlib.Omega.{arith}
use mathlib.Core.Path.{refl, ◌∙◌, sym}
use Rattle.classes.specs.Classes.{is_space}
use Rattle.trim.proofs.TrimLaws.{front-on, front-stop, front-end}
use Rattle.tables.proofs.CaptionLaws.{line-none, line-hit, line_on, no-caret}
use Rattle.tables.proofs.caption_line.Goals as goal

pub lines-init : goal.lines-init
lines-init c = (omega arith, omega arith)

pub bounds-lines-k : goal.bounds-lines-k
bounds-lines-k c = omega (arith, c.lines-test.true)

pub bytes-init : goal.bytes-init
bytes-init c = (refl, omega arith, omega arith)

pub bytes-preserved : goal.bytes-preserved
bytes-preserved c =
    let b = c.bytes in
    let e = front-on is_space c.part_at-line.result.now b.i c.bytes-test.true (sym c.is_space.ensures ∙ c.if-is_space.true) in
    (b.invariant.0, omega (arith, c.bytes-test.true), omega (arith, b.invariant.2, e))

pub lines-smaller-in-bytes : goal.lines-smaller-in-bytes
lines-smaller-in-bytes c = omega (arith, c.bytes.invariant.0, c.lines-test.true)

pub lines-preserved-in-bytes : goal.lines-preserved-in-bytes
lines-preserved-in-bytes c =
    let a = c.args in
    let b = c.bytes in
    let l = c.lines in
    let e = front-stop is_space c.part_at-line.result.now b.i c.bytes-test.true (sym c.is_space.ensures ∙ c.if-is_space.false) in
    (omega (arith, b.invariant.0, c.lines-test.true), line_on a.text.now a.lines.now l.k l.invariant.1 b.k b.i c.part_at-line.result.now b.invariant.0 c.lines-test.true c.part_at-line.ensures (omega (arith, b.invariant.2, e)) c.if-b-eq94.false)

pub lines-smaller : goal.lines-smaller
lines-smaller c = omega (arith, c.bytes.invariant.0, c.lines-test.true)

pub lines-preserved : goal.lines-preserved
lines-preserved c =
    let a = c.args in
    let b = c.bytes in
    let l = c.lines in
    let e = front-end is_space c.part_at-line.result.now b.i c.bytes-test.false in
    (omega (arith, b.invariant.0, c.lines-test.true), line_on a.text.now a.lines.now l.k l.invariant.1 b.k b.i c.part_at-line.result.now b.invariant.0 c.lines-test.true c.part_at-line.ensures (omega (arith, b.invariant.2, e)) (no-caret c.part_at-line.result.now b.i c.bytes-test.false))

pub returns-after-lines : goal.returns-after-lines
returns-after-lines c = (line-none c.args.text.now c.args.lines.now c.lines.k c.lines.invariant.1 c.lines-test.false, omega (arith, c.lines.invariant.0))

pub returns-then-b-eq94 : goal.returns-then-b-eq94
returns-then-b-eq94 c =
    let a = c.args in
    let b = c.bytes in
    let l = c.lines in
    let e = front-stop is_space c.part_at-line.result.now b.i c.bytes-test.true (sym c.is_space.ensures ∙ c.if-is_space.false) in
    (line-hit a.text.now a.lines.now l.k l.invariant.1 b.k b.i c.part_at-line.result.now b.invariant.0 c.lines-test.true c.part_at-line.ensures (omega (arith, b.invariant.2, e)) c.if-b-eq94.true, omega (arith, b.invariant.0, l.invariant.0))
