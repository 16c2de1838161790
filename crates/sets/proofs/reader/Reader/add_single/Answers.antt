use Rattle.std.proofs.Common.{refl, ◌∙◌, length, Err, ◌≡◌, rules}
use Rattle.sets.specs.Given.{Element, Piece, told}
use Rattle.sets.specs.Opened.{hold_in}
use Rattle.sets.specs.View.{held_in, held_by}
use Rattle.refusals.proofs.NumberLaws.{number-some}
use Rattle.sets.proofs.HoldLaws.{hold-two, hold-same}
use Rattle.sets.proofs.reader.Reader.add_single.Goals as goal

pub returns-in_err-begin_element-clause-holds : goal.returns-in_err-begin_element-clause-holds
returns-in_err-begin_element-clause-holds c = λ k e.
    let s = c.args.self.now in
    let w = c.in_err-begin_element.field-0.0 in
    let h = c.in_err-begin_element.ensures.holds k e in
    let r : c.from_residual.result ≡ Err w = search rules in
    rw r (hold-two (length s.elements.now) (length s.pieces.now) (held_in s) refl (told s.at (Element k s.at s.at)) (told s.at (Piece s.from s.at)) _ _ h (λ n. absurd (number-some w.why n)) (λ n. refl))

pub returns-clause-holds : goal.returns-clause-holds
returns-clause-holds c = λ k e.
    let s = c.args.self.now in
    let b = c.begin_element.new.self in
    let m = c.begin_element.ensures.same in
    let h = c.in_ok-begin_element.ensures.holds k e in
    let q : hold_in (length b.elements.now) (length b.pieces.now) b.at (Piece b.from b.at) (held_in b) ≡ hold_in (length s.elements.now) (length s.pieces.now) s.at (Piece s.from s.at) (held_in b) =
    rw (m.at, m.from) (hold-same _ _ _ _ s.at (Piece s.from s.at) (held_in b) m.onward.element_words m.onward.piece_words) in
    hold-two (length s.elements.now) (length s.pieces.now) (held_in s) refl (told s.at (Element k s.at s.at)) (told s.at (Piece s.from s.at)) (held_in b) _ h
    (λ n. c.add_piece.ensures.holds ∙ q) (λ n. absurd (n refl))
