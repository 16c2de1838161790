use Rattle.std.proofs.Common.{sym, ◌∙◌}
use Rattle.sets.specs.Words.{listed_as}
use Rattle.values.specs.Values.{adds}
use Rattle.values.proofs.KeptLaws.{joining, kept-start, kept-end, joined-pass, joined-take, joining-end}
use Rattle.values.proofs.keep_all.Goals.{then-adds, else-adds}
use Rattle.values.proofs.keep_all.Goals as goal

pub loop-i-init : goal.loop-i-init
loop-i-init c = kept-start (joining (adds c.args.bytes.now c.args.key.now)) c.args.n c.args.elements.now c.requires

pub loop-i-preserved : goal.loop-i-preserved
loop-i-preserved c =
    let a = c.args in
    let l = c.loop-i in
    let x = listed_as c.element_at-e.result in
    elim c.if-adds.branch [
      | then-adds w ↦ rw w.m-is (joined-take (adds a.bytes.now a.key.now) a.n a.elements.now l.elements l.m l.i c.loop-i-test.true x c.element_at-e.ensures l.invariant (sym w.if-adds.ensures) _ (w.elements-is ∙ w.put_element.ensures))
      | else-adds w ↦ rw (w.elements-is, w.m-is) (joined-pass (adds a.bytes.now a.key.now) a.n a.elements.now l.elements l.m l.i c.loop-i-test.true x c.element_at-e.ensures l.invariant (sym w.if-adds.ensures))
    ]

pub returns : goal.returns
returns c = kept-end (joining (adds c.args.bytes.now c.args.key.now)) c.args.n c.args.elements.now c.loop-i.elements c.loop-i.m c.loop-i.i c.loop-i.invariant (joining-end (adds c.args.bytes.now c.args.key.now)) c.loop-i-test.false
