use Rattle.std.proofs.Common.{arith, refl, [], ◌∷◌, ◌*◌, ◌∙◌}
use Rattle.sets.proofs.HoldLaws.{piece-room, written}
use Rattle.sets.proofs.reader.Reader.add_piece.Goals as goal

pub returns-clause-holds : goal.returns-clause-holds
returns-clause-holds c =
    let s = c.args.self.now in
    let a = c.args.a in
    let e = c.args.e in
    piece-room s.elements.now s.pieces.now s.count s.parts s.elements_fit s.pieces_fit s.at a e _ _ c.requires (omega arith) refl
    (rw c.copy_from_slice.ensures.after (written s.pieces.now (a ∷ e ∷ []) (s.parts * 2) _ (omega arith) (omega arith)))
