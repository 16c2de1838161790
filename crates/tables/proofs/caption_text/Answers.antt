use Rattle.tables.proofs.CaptionLaws.{starts-past, starts-there, text-last, text-other}
use Rattle.tables.proofs.caption_text.Goals.{then-first, else-first}
use Rattle.tables.proofs.caption_text.Goals as goal

pub returns-then-last : goal.returns-then-last
returns-then-last c =
    let a = c.args in
    let s = c.if-first.s in
    text-last a.text.now a.first a.start a.end s
    (elim c.if-first.branch [ then-first w ↦ starts-past a.text.now a.first a.start a.end s _ w.if-first.true w.past_caret-s.ensures w.s-is | else-first w ↦ starts-there a.text.now a.first a.start a.end s w.if-first.false w.s-is ])
    a.last _ c.if-last.true c.strip_end.ensures

pub returns : goal.returns
returns c =
    let a = c.args in
    let s = c.if-first.s in
    text-other a.text.now a.first a.start a.end s
    (elim c.if-first.branch [ then-first w ↦ starts-past a.text.now a.first a.start a.end s _ w.if-first.true w.past_caret-s.ensures w.s-is | else-first w ↦ starts-there a.text.now a.first a.start a.end s w.if-first.false w.s-is ])
    a.last c.if-last.false
