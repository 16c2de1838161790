use native.Mathlib.Omega.{arith}
use Rattle.meet.proofs.MetLaws.{quote-end, quote-other, quote-space, quote-tab, quote-bare}
use Rattle.meet.proofs.after_quote.Goals as goal

pub returns-then-end-m : goal.returns-then-end-m
returns-then-end-m c =
    let a = c.args in
    (quote-end a.text.now a.m a.end c.if-end-m.true, omega (arith, c.struct_known-1.given))

pub returns-then-kind_num-ne-BLOCKQUOTE : goal.returns-then-kind_num-ne-BLOCKQUOTE
returns-then-kind_num-ne-BLOCKQUOTE c =
    let a = c.args in
    (quote-other a.text.now a.m a.end c.if-end-m.false c.kind_num.result c.kind_num.ensures c.if-kind_num-ne-BLOCKQUOTE.true, omega (arith, c.if-end-m.false, c.ranges.end.fits))

pub returns-then-b-eq32 : goal.returns-then-b-eq32
returns-then-b-eq32 c =
    let a = c.args in
    (quote-space a.text.now a.m a.end c.if-end-m.false c.kind_num.result c.kind_num.ensures c.if-kind_num-ne-BLOCKQUOTE.false c.byte_at-b.result c.byte_at-b.ensures c.if-b-eq32.true, omega (arith, c.if-end-m.false, c.ranges.end.fits))

pub returns-then-b-eq9 : goal.returns-then-b-eq9
returns-then-b-eq9 c =
    let a = c.args in
    (quote-tab a.text.now a.m a.end c.if-end-m.false c.kind_num.result c.kind_num.ensures c.if-kind_num-ne-BLOCKQUOTE.false c.byte_at-b.result c.byte_at-b.ensures c.if-b-eq32.false c.if-b-eq9.true, omega (arith, c.if-end-m.false, c.ranges.end.fits))

pub returns : goal.returns
returns c =
    let a = c.args in
    (quote-bare a.text.now a.m a.end c.if-end-m.false c.kind_num.result c.kind_num.ensures c.if-kind_num-ne-BLOCKQUOTE.false c.byte_at-b.result c.byte_at-b.ensures c.if-b-eq32.false c.if-b-eq9.false, omega (arith, c.if-end-m.false, c.ranges.end.fits))
