use Rattle.containers.proofs.EnterLaws.{item-task, item-detail, item-plain}
use Rattle.containers.proofs.item_node.Goals as goal

pub returns-then-n-eq3 : goal.returns-then-n-eq3
returns-then-n-eq3 c = item-task c.args.text.now c.args.m c.args.n c.node.result c.if-n-eq3.true c.flag.result c.byte_at-checked.result c.byte_at-checked.ensures c.flag.ensures c.node.ensures

pub returns-then-n-eq4 : goal.returns-then-n-eq4
returns-then-n-eq4 c = item-detail c.args.text.now c.args.m c.args.n c.node-then-n-eq4.result c.if-n-eq3.false c.if-n-eq4.true c.node-then-n-eq4.ensures

pub returns : goal.returns
returns c = item-plain c.args.text.now c.args.m c.args.n c.node-2.result c.if-n-eq3.false c.if-n-eq4.false c.node-2.ensures
