use Rattle.std.proofs.Common.{arith, sym, ◌∙◌}
use Rattle.sets.proofs.HoldLaws.{element-room}
use Rattle.sets.proofs.reader.Reader.begin_element.Goals as goal

pub returns-clause-holds : goal.returns-clause-holds
returns-clause-holds c = λ k e.
    let s = c.args.self.now in
    element-room s.elements.now s.pieces.now s.count s.parts s.elements_fit s.pieces_fit s.at k c.args.a s.at _ c.into.result (omega arith) (e ∙ sym c.into.ensures) c.put_element.ensures
