use Rattle.std.proofs.Common.{refl, length, sym, ◌∙◌, arith}
use Rattle.sets.specs.Layout.{listed}
use Rattle.sets.specs.Words.{listed_as}
use Rattle.values.proofs.KeptLaws.{kept-start, kept-room, kept-end}
use Rattle.pairs.proofs.ShowLaws.{showing, showing-end, showing-pass, showing-take, rank_room}
use Rattle.pairs.proofs.show_all.Goals.{in-Some, in_default}
use Rattle.pairs.proofs.show_all.Goals as goal

pub loop-i-init : goal.loop-i-init
loop-i-init c = kept-start (showing c.args.bytes.now (listed (length c.args.ranks.now) c.args.elements.now)) (length c.args.ranks.now) c.args.elements.now c.requires.0

pub shown-requires : goal.shown-requires
shown-requires c = rank_room c.args.bytes.now (length c.args.ranks.now) c.args.elements.now c.args.ranks.now refl c.requires.1 c.loop-i.elements c.loop-i.m c.loop-i.i c.loop-i.invariant c.loop-i-test.true

pub loop-i-preserved : goal.loop-i-preserved
loop-i-preserved c =
    let a = c.args in
    let l = c.loop-i in
    let n = length a.ranks.now in
    let x = listed_as c.element_at-e.result in
    elim c.match-shown.branch [
      | in-Some w ↦
          rw w.m-is (showing-take a.bytes.now n a.elements.now a.ranks.now refl c.requires.1 l.elements l.m l.i l.invariant c.loop-i-test.true x _ c.element_at-e.ensures refl (listed_as w.in-Some.pair) w.in-Some.ensures _ (w.elements-is ∙ w.put_element.ensures))
      | in_default w ↦
          rw (w.elements-is, w.m-is) (showing-pass a.bytes.now n a.elements.now a.ranks.now refl c.requires.1 l.elements l.m l.i l.invariant c.loop-i-test.true x _ c.element_at-e.ensures refl w.in_default.ensures)
    ]

pub returns : goal.returns
returns c = kept-end (showing c.args.bytes.now (listed (length c.args.ranks.now) c.args.elements.now)) (length c.args.ranks.now) c.args.elements.now c.loop-i.elements c.loop-i.m c.loop-i.i c.loop-i.invariant (showing-end c.args.bytes.now (listed (length c.args.ranks.now) c.args.elements.now) c.loop-i.i) c.loop-i-test.false
