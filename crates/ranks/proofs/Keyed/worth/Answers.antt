use Rattle.std.proofs.Common.{sym}
use Rattle.ranks.specs.View.{has_in, like_in}
use Rattle.ranks.proofs.OrderLaws.{has-none, has_some}
use Rattle.ranks.proofs.PassLaws.{worth-unkeyed, worth-joined, worth_first}
use Rattle.ranks.proofs.Keyed.worth.Goals.{then-is_none-via-then-is_none, then-is_none-via-else-is_none+then-joined}
use Rattle.ranks.proofs.Keyed.worth.Goals as goal

pub returns-then-is_none : goal.returns-then-is_none
returns-then-is_none c =
    let k = c.args.self.now in
    elim c.then-is_none.branch [
      | then-is_none-via-then-is_none w ↦ worth-unkeyed (like_in k) c.args.places.now c.args.i (has_in k) c.args.last (has-none k.bytes.now k.elements.words.now k.elements.count _ c.key.result c.key.ensures w.if-is_none.ensures)
      | then-is_none-via-else-is_none+then-joined w ↦
          worth-joined (like_in k) c.args.places.now c.args.i (has_in k) c.args.last (has_some k.bytes.now k.elements.words.now k.elements.count _ c.key.result c.key.ensures w.if-is_none.ensures) (sym w.if-joined.ensures)
    ]

pub returns : goal.returns
returns c =
    let k = c.args.self.now in
    worth_first (like_in k) c.args.places.now c.args.i (has_in k) c.args.last (has_some k.bytes.now k.elements.words.now k.elements.count _ c.key.result c.key.ensures c.if-is_none.ensures) (sym c.if-joined.ensures)
