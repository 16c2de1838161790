use native.Mathlib.Omega.{arith}
use mathlib.Core.Path.{sym, ◌∙◌}
use mathlib.Core.Bool.{true≢false}
use Prim.Native.Nat.{◌+◌, ◌≤◌}
use lib.ListN.{length, get_or}
use borrow.Author.Count.{below_more, below_none}
use Rattle.moves.proofs.SectionLaws.{before_on, before-no, before-end, before-start}
use Rattle.moves.proofs.all_before.Goals as goal

pub loop-i-init : goal.loop-i-init
loop-i-init c = (omega arith, before-start c.args.os.now c.args.a (length c.args.os.now), below_none (λ j. get_or c.args.os.now j 0 + 8 ≤ c.args.a))

pub returns-then-a-lt-WIDTH : goal.returns-then-a-lt-WIDTH
returns-then-a-lt-WIDTH c =
    let a = c.args in
    let l = c.loop-i in
    (sym (before-no a.os.now a.a l.i (length a.os.now) c.loop-i-test.true (omega (arith, c.if-a-lt-WIDTH.true))) ∙ l.invariant.1, λ z. absurd (true≢false (sym z)))

pub returns-then-a-os : goal.returns-then-a-os
returns-then-a-os c =
    let a = c.args in
    let l = c.loop-i in
    (sym (before-no a.os.now a.a l.i (length a.os.now) c.loop-i-test.true (omega (arith, c.if-a-lt-WIDTH.false, c.if-a-os.true))) ∙ l.invariant.1, λ z. absurd (true≢false (sym z)))

pub loop-i-preserved : goal.loop-i-preserved
loop-i-preserved c =
    let a = c.args in
    let l = c.loop-i in
    let g : get_or a.os.now l.i 0 + 8 ≤ a.a = omega (arith, c.if-a-lt-WIDTH.false, c.if-a-os.false) in
    (omega arith, sym (before_on a.os.now a.a l.i (length a.os.now) c.loop-i-test.true g) ∙ l.invariant.1, below_more (λ j. get_or a.os.now j 0 + 8 ≤ a.a) l.i l.invariant.2 g)

pub returns : goal.returns
returns c =
    let a = c.args in
    let l = c.loop-i in
    (sym (before-end a.os.now a.a l.i (length a.os.now) c.loop-i-test.false) ∙ l.invariant.1, λ z j h. l.invariant.2 j (omega (arith, c.loop-i-test.false)))
