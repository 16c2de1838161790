use Rattle.lines.specs.Lines.{span}
use Rattle.leaves.proofs.LineLaws.{line_code, line_first, line-later, line-definition, line_plain}
use Rattle.leaves.proofs.leaf_line.Goals as goal

pub returns-then-n-eq-FENCED : goal.returns-then-n-eq-FENCED
returns-then-n-eq-FENCED c =
    let a = c.args in
    line_code a.text.now a.kind a.first a.last (span a.start a.end) _ c.kind_num-n.ensures c.if-n-eq-FENCED.true _ c.indent_of.ensures _ c.strip_indent.ensures

pub returns-then-first : goal.returns-then-first
returns-then-first c =
    let a = c.args in
    line_first a.text.now a.kind a.first a.last (span a.start a.end) _ c.kind_num-n.ensures c.if-n-eq-FENCED.false c.if-n-eq-HEADING.true c.if-first.true _ c.plain_line.ensures

pub returns-then-n-eq-HEADING : goal.returns-then-n-eq-HEADING
returns-then-n-eq-HEADING c =
    let a = c.args in
    line-later a.text.now a.kind a.first a.last (span a.start a.end) _ c.kind_num-n.ensures c.if-n-eq-FENCED.false c.if-n-eq-HEADING.true c.if-first.false _ c.strip_marks.ensures _ c.plain_line-then-n-eq-HEADING.ensures

pub returns-then-n-eq-DEFINITION : goal.returns-then-n-eq-DEFINITION
returns-then-n-eq-DEFINITION c =
    let a = c.args in
    line-definition a.text.now a.kind a.first a.last (span a.start a.end) _ c.kind_num-n.ensures c.if-n-eq-FENCED.false c.if-n-eq-HEADING.false c.if-n-eq-DEFINITION.true _ c.plain_line-then-n-eq-DEFINITION.ensures

pub returns : goal.returns
returns c =
    let a = c.args in
    line_plain a.text.now a.kind a.first a.last (span a.start a.end) _ c.kind_num-n.ensures c.if-n-eq-FENCED.false c.if-n-eq-HEADING.false c.if-n-eq-DEFINITION.false _ c.plain_line-2.ensures
