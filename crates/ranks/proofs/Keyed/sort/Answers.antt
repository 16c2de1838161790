use Rattle.std.proofs.Common.{length, ◌∙◌}
use Rattle.ranks.specs.View.{less_in}
use Rattle.ranks.specs.Sorting.{Arranged}
use Rattle.ranks.proofs.OrderLaws.{place-total}
use Rattle.ranks.proofs.SortedLaws.{weak, sorted_all}
use Rattle.ranks.proofs.MergeLaws.{risen, fallen}
use Rattle.ranks.proofs.Keyed.sort.Goals as goal

pub returns-then-falls : goal.returns-then-falls
returns-then-falls c =
    let k = c.args.self.now in
    let o = place-total k.bytes.now k.elements.words.now k.elements.count in
    let ps = c.number.new.places in
    let a : Arranged (less_in k) ps c.reverse.new.self = rw c.reverse.ensures.after (fallen (less_in k) ps (weak _ o) (λ i h. c.runs.ensures c.if-runs.true i h ∙ c.if-falls.true)) in
    sorted_all _ o (length c.args.places.now) ps c.reverse.new.self c.number.ensures a

pub returns-else-falls : goal.returns-else-falls
returns-else-falls c =
    let k = c.args.self.now in
    let o = place-total k.bytes.now k.elements.words.now k.elements.count in
    let ps = c.number.new.places in
    sorted_all _ o (length c.args.places.now) ps ps c.number.ensures (risen (less_in k) ps (λ i h. c.runs.ensures c.if-runs.true i h ∙ c.if-falls.false))

pub returns : goal.returns
returns c =
    let k = c.args.self.now in
    let o = place-total k.bytes.now k.elements.words.now k.elements.count in
    sorted_all _ o (length c.args.places.now) c.number.new.places c.arrange.new.places c.number.ensures c.arrange.ensures
