use Rattle.std.proofs.Common.{refl, arith, ◌∙◌}
use Rattle.sets.specs.View.{held_in}
use Rattle.sets.proofs.ReadLaws.{step_stays, step-leaves, begun-stays, begun-leaves, owns-stays, owns-left}
use Rattle.sets.proofs.reader.Reader.advance.Goals as goal

pub returns-then-stays : goal.returns-then-stays
returns-then-stays c =
    let s = c.args.self.now in
    let q = c.if-stays.ensures in record {
      holds = step_stays _ _ (held_in s) (held_in s) s.state c.args.t s.from s.at q;
      onward = record { elements = refl; pieces = refl; element_words = refl; piece_words = refl; count = omega arith };
      machine = (c.onward-self.ensures, begun-stays s.state c.args.t s.from s.at q, λ o. c.requires.0 (owns-stays s.state c.args.t q o));
    }

pub returns : goal.returns
returns c =
    let s = c.args.self.now in
    let z = c.leave.new.self in
    let q = c.if-stays.ensures in
    let h = c.in_ok-leave.ensures.holds in
    let o = c.leave.ensures.same.onward in record {
      holds = step-leaves _ _ (held_in s) (held_in z) s.state c.args.t s.from s.at q h;
      onward = record { elements = o.elements; pieces = o.pieces; element_words = o.element_words; piece_words = o.piece_words; count = o.count };
      machine = (c.onward-self-2.ensures, c.leave.ensures.same.at ∙ begun-leaves s.state c.args.t s.from s.at q, λ w. owns-left _ _ s z s.at h c.args.t c.requires.0 o.count w);
    }
