use mathlib.Core.Path.{ap, ◌∙◌}
use Rattle.markers.specs.Markers.{marker_num}
use Rattle.markers.specs.declared.Marker.{Marker}
use Rattle.containers.proofs.EnterLaws.{node-fence, node-footnote, node-quote, node-item}
use Rattle.containers.proofs.container_node.Goals as goal

pub pair_node-requires : goal.pair_node-requires
pair_node-requires c = c.requires

pub returns-then-n-eq-FENCED : goal.returns-then-n-eq-FENCED
returns-then-n-eq-FENCED c = node-fence c.args.text.now c.args.m c.args.line c.kind_num-n.result c.kind_num-n.ensures c.pair_node.result c.if-n-eq-FENCED.true c.pair_node.ensures

pub pair_node-requires-then-n-eq-DEFINITION : goal.pair_node-requires-then-n-eq-DEFINITION
pair_node-requires-then-n-eq-DEFINITION c = c.requires

pub returns-then-n-eq-DEFINITION : goal.returns-then-n-eq-DEFINITION
returns-then-n-eq-DEFINITION c = node-footnote c.args.text.now c.args.m c.args.line c.kind_num-n.result c.kind_num-n.ensures c.pair_node-then-n-eq-DEFINITION.result c.if-n-eq-FENCED.false c.if-n-eq-DEFINITION.true c.pair_node-then-n-eq-DEFINITION.ensures

pub returns-then-n-eq-BLOCKQUOTE : goal.returns-then-n-eq-BLOCKQUOTE
returns-then-n-eq-BLOCKQUOTE c = node-quote c.args.text.now c.args.m c.args.line c.kind_num-n.result c.kind_num-n.ensures c.node.result c.if-n-eq-FENCED.false c.if-n-eq-DEFINITION.false c.if-n-eq-BLOCKQUOTE.true c.node.ensures

pub returns : goal.returns
returns c =
    node-item c.args.text.now c.args.m c.args.line c.kind_num-n.result c.kind_num-n.ensures c.item_node.result c.if-n-eq-FENCED.false c.if-n-eq-DEFINITION.false c.if-n-eq-BLOCKQUOTE.false
    c.marker_num.result (c.marker_num.ensures ∙ ap (λ (t : Marker). marker_num t) c.marker_in.ensures) c.item_node.ensures
