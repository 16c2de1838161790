use Rattle.meet.proofs.MetLaws.{marker-inside, marker-first}
use Rattle.meet.proofs.marker_start.Goals as goal

pub offset-requires : goal.offset-requires
offset-requires c = rw c.indent_of.ensures c.requires.indent

pub returns-then-kind_num-eq-DEFINITION : goal.returns-then-kind_num-eq-DEFINITION
returns-then-kind_num-eq-DEFINITION c = marker-inside c.args.m c.args.line c.kind_num.result c.kind_num.ensures c.if-kind_num-eq-DEFINITION.true c.offset.result c.indent_of.result c.offset.ensures c.indent_of.ensures

pub returns : goal.returns
returns c = marker-first c.args.m c.args.line c.kind_num.result c.kind_num.ensures c.if-kind_num-eq-DEFINITION.false
