use native.Mathlib.Omega.{arith}
use Rattle.leaves.proofs.LeafLaws.{node-heading, node-definition, node-code, node-plain}
use Rattle.leaves.proofs.leaf_node.Goals as goal

pub overflow_cast-level : goal.overflow_cast-level
overflow_cast-level c = omega (arith, c.level_of-level.ensures, c.requires.level)

pub returns-then-n-eq-HEADING : goal.returns-then-n-eq-HEADING
returns-then-n-eq-HEADING c =
    let a = c.args in
    node-heading a.m a.line a.top _ c.kind_num-n.ensures c.node.result c.if-n-eq-HEADING.true _ _ c.level_of-level.ensures c.flag.ensures c.node.ensures

pub pair_node-requires : goal.pair_node-requires
pair_node-requires c = c.requires

pub returns-then-n-eq-DEFINITION : goal.returns-then-n-eq-DEFINITION
returns-then-n-eq-DEFINITION c =
    let a = c.args in
    node-definition a.m a.line a.top _ c.kind_num-n.ensures c.pair_node.result c.if-n-eq-HEADING.false c.if-n-eq-DEFINITION.true c.pair_node.ensures

pub pair_node-requires-then-n-eq-FENCED : goal.pair_node-requires-then-n-eq-FENCED
pair_node-requires-then-n-eq-FENCED c = c.requires

pub returns-then-n-eq-FENCED : goal.returns-then-n-eq-FENCED
returns-then-n-eq-FENCED c =
    let a = c.args in
    node-code a.m a.line a.top _ c.kind_num-n.ensures c.pair_node-then-n-eq-FENCED.result c.if-n-eq-HEADING.false c.if-n-eq-DEFINITION.false c.if-n-eq-FENCED.true c.pair_node-then-n-eq-FENCED.ensures

pub returns : goal.returns
returns c =
    let a = c.args in
    node-plain a.m a.line a.top _ c.kind_num-n.ensures c.node-2.result c.if-n-eq-HEADING.false c.if-n-eq-DEFINITION.false c.if-n-eq-FENCED.false c.node-2.ensures
