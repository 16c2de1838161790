use Rattle.std.proofs.Common.{sym, ◌∙◌}
use Rattle.sets.specs.Words.{listed_as}
use Rattle.keys.specs.Keys.{has_key}
use Rattle.values.proofs.KeptLaws.{replacing, kept-start, kept-end, replaced-pass, replaced-take, replacing-end}
use Rattle.values.proofs.keep_last.Goals.{then-has_key, else-has_key}
use Rattle.values.proofs.keep_last.Goals as goal

pub loop-i-init : goal.loop-i-init
loop-i-init c = kept-start (replacing (has_key c.args.bytes.now c.args.key.now)) c.args.n c.args.elements.now c.requires

pub loop-i-preserved : goal.loop-i-preserved
loop-i-preserved c =
    let a = c.args in
    let l = c.loop-i in
    let x = listed_as c.element_at-e.result in
    elim c.if-has_key.branch [
      | then-has_key w ↦ rw w.m-is (replaced-take (has_key a.bytes.now a.key.now) a.n a.elements.now l.elements l.m l.i c.loop-i-test.true x c.element_at-e.ensures l.invariant (sym w.if-has_key.ensures) _ (w.elements-is ∙ w.put_element.ensures))
      | else-has_key w ↦ rw (w.elements-is, w.m-is) (replaced-pass (has_key a.bytes.now a.key.now) a.n a.elements.now l.elements l.m l.i c.loop-i-test.true x c.element_at-e.ensures l.invariant (sym w.if-has_key.ensures))
    ]

pub returns : goal.returns
returns c = kept-end (replacing (has_key c.args.bytes.now c.args.key.now)) c.args.n c.args.elements.now c.loop-i.elements c.loop-i.m c.loop-i.i c.loop-i.invariant (replacing-end (has_key c.args.bytes.now c.args.key.now)) c.loop-i-test.false
