use Rattle.std.proofs.Common.{arith, refl, [], ◌∷◌, ◌+◌, length}
use Rattle.sets.specs.Given.{AClass, AnId, APair, AComment, Element, Piece}
use Rattle.sets.specs.View.{held_in, held_by, is_owned}
use Rattle.sets.proofs.HoldLaws.{left-comment-first, left-newline, left-class, left-id, left_key, left-value, left-quoted, left-empty, left-none, left-nothing, left_one, left-two, owned, owned-value}
use Rattle.sets.proofs.reader.Reader.leave.Goals as goal

pub add_piece-requires : goal.add_piece-requires
add_piece-requires c = c.requires.0 (owned-value _ c.args.self.now.from c.args.self.now.at c.in-3.is)

pub add_piece-requires-in-4 : goal.add_piece-requires-in-4
unfolding is_owned
add_piece-requires-in-4 c = c.requires.0 (owned _ 4 c.in-4.is refl)

pub add_piece-requires-in-12 : goal.add_piece-requires-in-12
unfolding is_owned
add_piece-requires-in-12 c = c.requires.0 (owned _ 12 c.in-12.is refl)

pub returns-in-2-clause-holds : goal.returns-in-2-clause-holds
returns-in-2-clause-holds c =
    let p = c.args.self.now.at in
    let d = c.begin_element in
    left_one _ _ _ (held_by d.new.self d.result) _ _ p _ refl (left-comment-first _ _ _ c.in-2.is) (d.ensures.holds AComment refl)

pub returns-in-3-clause-holds : goal.returns-in-3-clause-holds
returns-in-3-clause-holds c =
    let p = c.args.self.now.at in
    let d = c.add_piece in
    left_one _ _ _ (held_by d.new.self d.result) _ _ p _ refl (left-value _ _ _ c.in-3.is) d.ensures.holds

pub returns-in-4-clause-holds : goal.returns-in-4-clause-holds
returns-in-4-clause-holds c =
    let p = c.args.self.now.at in
    let d = c.add_piece-in-4 in
    left_one _ _ _ (held_by d.new.self d.result) _ _ p _ refl (left-newline _ _ _ c.in-4.is) d.ensures.holds

pub returns-in-6-clause-holds : goal.returns-in-6-clause-holds
returns-in-6-clause-holds c =
    let p = c.args.self.now.at in
    let d = c.add_single in
    left-two _ _ _ (held_by d.new.self d.result) _ _ p _ (left-class _ _ _ c.in-6.is) (d.ensures.holds AClass refl)

pub returns-in-8-clause-holds : goal.returns-in-8-clause-holds
returns-in-8-clause-holds c =
    let p = c.args.self.now.at in
    let d = c.add_single-in-8 in
    left-two _ _ _ (held_by d.new.self d.result) _ _ p _ (left-id _ _ _ c.in-8.is) (d.ensures.holds AnId refl)

pub returns-in-9-clause-holds : goal.returns-in-9-clause-holds
returns-in-9-clause-holds c =
    let p = c.args.self.now.at in
    let d = c.begin_element-in-9 in
    left_one _ _ _ (held_by d.new.self d.result) _ _ p _ refl (left_key _ _ _ c.in-9.is) (d.ensures.holds APair refl)

pub returns-in-12-clause-holds : goal.returns-in-12-clause-holds
returns-in-12-clause-holds c =
    let p = c.args.self.now.at in
    let d = c.add_piece-in-12 in
    left_one _ _ _ (held_by d.new.self d.result) _ _ p _ refl (left-quoted _ _ _ c.in-12.is (omega arith)) d.ensures.holds

pub returns-in_default-clause-holds : goal.returns-in_default-clause-holds
returns-in_default-clause-holds c = left-nothing _ _ (held_in c.args.self.now) (held_in c.args.self.now) _ _ _ (left-empty _ _ _ c.in-12.is (omega arith))

pub returns-in_default-2-clause-holds : goal.returns-in_default-2-clause-holds
returns-in_default-2-clause-holds c = left-nothing _ _ (held_in c.args.self.now) (held_in c.args.self.now) _ _ _ (left-none _ _ _ c.in_default.in_default-own.rest)
