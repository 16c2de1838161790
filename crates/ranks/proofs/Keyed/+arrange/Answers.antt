use Rattle.std.proofs.Common.{length, ◌≡◌, refl, sym, ◌∙◌, ◌/◌, arith}
use lib.Seq.{take_at, length-take-le}
use Rattle.ranks.specs.View.{less_in}
use Rattle.ranks.proofs.OrderLaws.{place-total}
use Rattle.ranks.proofs.SortedLaws.{weak}
use Rattle.ranks.proofs.MergeLaws.{halves-length, halves_meet, halves-kept, halves-merged}
use Rattle.ranks.proofs.Keyed.+arrange.Goals as goal

pub returns-then-not-less : goal.returns-then-not-less
returns-then-not-less t c =
    let k = c.args.self.now in
    let l = c.args.places.now in
    let o = weak _ (place-total k.bytes.now k.elements.words.now k.elements.count) in
    halves-kept (less_in k) o l _ _ _ _ (length l / 2) (omega arith) c.arrange.ensures refl c.arrange-2.ensures refl (omega arith) (sym c.less.ensures ∙ c.if-not-less.true)

pub merge-requires-clause-size : goal.merge-requires-clause-size
merge-requires-clause-size t c =
    let k = c.args.self.now in
    let l = c.args.places.now in
    let o = weak _ (place-total k.bytes.now k.elements.words.now k.elements.count) in
    halves-length (less_in k) o l _ _ _ _ (length l / 2) (omega arith) c.arrange.ensures refl c.arrange-2.ensures refl
    ∙ sym (length-take-le (length l) c.arrange-2.new.spare (omega (arith, c.arrange.auto.spare, c.arrange-2.auto.spare)))

pub merge-requires-clause-apart : goal.merge-requires-clause-apart
merge-requires-clause-apart t c =
    let k = c.args.self.now in
    let l = c.args.places.now in
    let o = weak _ (place-total k.bytes.now k.elements.words.now k.elements.count) in
    halves_meet (less_in k) o l _ _ _ _ (length l / 2) (omega arith) c.arrange.ensures refl c.arrange-2.ensures refl (omega arith) (sym c.less.ensures ∙ c.if-not-less.false)

pub returns : goal.returns
returns t c =
    let k = c.args.self.now in
    let l = c.args.places.now in
    let o = weak _ (place-total k.bytes.now k.elements.words.now k.elements.count) in
    let n : length c.merge.new.to ≡ length l = c.merge.auto.to ∙ length-take-le (length l) c.arrange-2.new.spare (omega (arith, c.arrange.auto.spare, c.arrange-2.auto.spare)) in
    halves-merged (less_in k) o l _ _ _ _ (length l / 2) (omega arith) c.arrange.ensures refl c.arrange-2.ensures refl _
    (c.copy.ensures ∙ take_at c.merge.new.to _ (length l) n ∙ c.merge.ensures)
