use Rattle.std.proofs.Common.{rules, ◌≡◌, ◌∙◌, sym, get_or}
use Rattle.measure.proofs.NumberLaws.{blank-at, full-at, number-full, lead-full}
use Rattle.measure.proofs.LookLaws.{indented-blank, indented-deep, indented-after, indented-late}
use Rattle.measure.proofs.indented_on.Goals as goal

pub returns-then-unwrap_or-eq10 : goal.returns-then-unwrap_or-eq10
returns-then-unwrap_or-eq10 c =
    let b : c.unwrap_or.result ≡ get_or c.args.line.now c.indent_of-n.result 10 = search rules in
    indented-blank c.args.indent c.args.last_blank.now c.args.line.now (blank-at c.args.line.now _ c.indent_of-n.ensures.0 (sym b ∙ c.if-unwrap_or-eq10.true))

pub returns-then-indent-n : goal.returns-then-indent-n
returns-then-indent-n c =
    let b : c.unwrap_or.result ≡ get_or c.args.line.now c.indent_of-n.result 10 = search rules in
    let f = full-at c.args.line.now c.indent_of-n.result (λ z. c.if-unwrap_or-eq10.false (b ∙ z)) in
    indented-deep c.args.indent c.args.last_blank.now c.args.line.now (number-full c.args.line.now _ c.indent_of-n.ensures.0 f.0 f.1) _ (lead-full c.args.line.now _ c.indent_of-n.ensures.0 f.0 f.1) c.if-indent-n.true

pub returns-then-last_blank : goal.returns-then-last_blank
returns-then-last_blank c =
    let b : c.unwrap_or.result ≡ get_or c.args.line.now c.indent_of-n.result 10 = search rules in
    let f = full-at c.args.line.now c.indent_of-n.result (λ z. c.if-unwrap_or-eq10.false (b ∙ z)) in
    indented-after c.args.indent c.args.last_blank.now c.args.line.now (number-full c.args.line.now _ c.indent_of-n.ensures.0 f.0 f.1) _ (lead-full c.args.line.now _ c.indent_of-n.ensures.0 f.0 f.1) c.if-indent-n.false c.if-last_blank.true

pub returns : goal.returns
returns c =
    let b : c.unwrap_or.result ≡ get_or c.args.line.now c.indent_of-n.result 10 = search rules in
    let f = full-at c.args.line.now c.indent_of-n.result (λ z. c.if-unwrap_or-eq10.false (b ∙ z)) in
    indented-late c.args.indent c.args.last_blank.now c.args.line.now (number-full c.args.line.now _ c.indent_of-n.ensures.0 f.0 f.1) _ (lead-full c.args.line.now _ c.indent_of-n.ensures.0 f.0 f.1) c.if-indent-n.false c.if-last_blank.false
