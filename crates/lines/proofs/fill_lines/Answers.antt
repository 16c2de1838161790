use native.Mathlib.Omega.{arith}
use Prim.Native.Nat.{◌+◌}
use Rattle.lines.specs.Lines.{lines_of}
use Rattle.lines.proofs.LinesLaws.{line-fits, line-more, line-last, lines-done, put-start, put-room, put-line, put_all, put_rest}
use Rattle.lines.proofs.fill_lines.Goals as goal

pub loop-k-init : goal.loop-k-init
unfolding lines_of
loop-k-init c = (omega arith, put-start _ _ c.requires.1)

pub put_line-requires : goal.put_line-requires
put_line-requires c =
    let l = c.loop-k in
    put-room _ _ l.n _ _ _ (put_rest _ _ _ _ _ _ (line-more c.args.text.now l.s c.in-Some.k c.in-Some.ensures) l.invariant.1)

pub loop-k-preserved : goal.loop-k-preserved
loop-k-preserved c =
    let l = c.loop-k in (
      omega (arith, line-fits c.args.text.now l.s c.in-Some.k c.in-Some.ensures),
      rw c.put_line.ensures (put-line _ _ l.n l.s _ _ _ (put_rest _ _ _ _ _ _ (line-more c.args.text.now l.s c.in-Some.k c.in-Some.ensures) l.invariant.1)),
    )

pub put_line-requires-then-s-text : goal.put_line-requires-then-s-text
put_line-requires-then-s-text c =
    let l = c.loop-k in
    put-room _ _ l.n _ _ _ (put_rest _ _ _ _ _ _ (line-last c.args.text.now l.s c.in_default.ensures c.if-s-text.true) l.invariant.1)

pub returns-then-s-text : goal.returns-then-s-text
returns-then-s-text c =
    let l = c.loop-k in
    put_all _ _ (l.n + 1) _ (rw c.put_line-then-s-text.ensures (put-line _ _ l.n l.s _ _ _ (put_rest _ _ _ _ _ _ (line-last c.args.text.now l.s c.in_default.ensures c.if-s-text.true) l.invariant.1)))

pub returns-else-s-text : goal.returns-else-s-text
returns-else-s-text c =
    let l = c.loop-k in
    put_all _ _ l.n _ (put_rest _ _ _ _ _ _ (lines-done c.args.text.now l.s c.if-s-text.false) l.invariant.1)
