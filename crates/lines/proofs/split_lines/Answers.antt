use native.Mathlib.Omega.{arith}
use mathlib.Core.Path.{sym}
use Rattle.lines.proofs.LinesLaws.{too_long, no_room, done}
use Rattle.lines.proofs.split_lines.Goals as goal

pub returns-then-limit-text : goal.returns-then-limit-text
returns-then-limit-text c = let e = too_long c.args.text.now c.args.words.now c.args.limit c.if-limit-text.true in (sym e.0, sym e.1)

pub returns-then-words-n : goal.returns-then-words-n
returns-then-words-n c =
    let e = no_room c.args.text.now c.args.words.now c.args.limit c.count_lines-n.result c.if-limit-text.false c.count_lines-n.ensures (omega arith) in
    (sym e.0, sym e.1)

pub fill_lines-requires : goal.fill_lines-requires
fill_lines-requires c = (omega arith, omega (arith, c.count_lines-n.ensures))

pub returns : goal.returns
returns c =
    let e = done c.args.text.now c.args.words.now _ c.args.limit c.count_lines-n.result c.if-limit-text.false c.count_lines-n.ensures (omega arith) c.fill_lines.ensures in
    (sym e.0, sym e.1)
