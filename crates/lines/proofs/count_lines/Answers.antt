use Rattle.std.proofs.Common.{◌∙◌, sym, arith, length, ◌-◌, ◌≤◌}
use Rattle.lines.specs.Lines.{lines_of}
use Rattle.lines.proofs.CountLaws.{lines_none, lines-ended, lines-open}
use Rattle.lines.proofs.count_lines.Goals as goal

pub returns-in-Some : goal.returns-in-Some
unfolding lines_of
returns-in-Some c =
    let text = c.args.text.now in
    let last = c.in-Some.ensures.item.3 in
    omega (arith, c.count_newlines-count.ensures.0, lines-open 0 0 text (length text - 1) (omega arith) (omega (arith, last.0)) (λ e. c.if-b-ne10.true (last.1 0 ∙ e)))

pub returns-in_default : goal.returns-in_default
unfolding lines_of
returns-in_default c =
    let text = c.args.text.now in
    let last = c.in-Some.ensures.item.3 in
    omega (arith, c.count_newlines-count.ensures.0, lines-ended 0 0 text (length text - 1) (omega (arith, last.0)) (sym (last.1 0) ∙ c.if-b-ne10.false))

pub returns-in_default-2 : goal.returns-in_default-2
returns-in_default-2 c =
    let none : length c.args.text.now ≤ 0 = rw c.in_default.is at c.last.ensures.item.3 in
    omega (arith, c.count_newlines-count.ensures.1, lines_none c.args.text.now (omega (arith, none)))
