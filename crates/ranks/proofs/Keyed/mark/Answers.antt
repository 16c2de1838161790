use Rattle.ranks.proofs.RankLaws.{marked_turn, marked-end}
use Rattle.ranks.proofs.Keyed.mark.Goals as goal

pub loop-i-preserved : goal.loop-i-preserved
loop-i-preserved c =
    let k = c.args.self.now in
    let l = c.loop-i in
    marked_turn k.bytes.now k.elements.words.now k.elements.count c.args.places.now c.requires.1 l.ranks l.i l.last c.last_by-last.result c.worth-rank.result c.loop-i-test.true l.invariant c.last_by-last.ensures c.worth-rank.ensures

pub returns : goal.returns
returns c =
    let k = c.args.self.now in
    marked-end k.bytes.now k.elements.words.now k.elements.count c.args.places.now c.requires.1 c.loop-i.ranks c.loop-i.i c.loop-i.last c.loop-i-test.false c.loop-i.invariant
