use native.Mathlib.Omega.{arith}
use Rattle.events.proofs.PackLaws.{event-room, event-words}
use Rattle.events.proofs.event_at.Goals as goal

pub offset_bounds-words-at : goal.offset_bounds-words-at
offset_bounds-words-at c = omega (arith, event-room c.args.words.now c.args.at c.requires)

pub bounds-words-at : goal.bounds-words-at
bounds-words-at c = omega (arith, event-room c.args.words.now c.args.at c.requires)

pub overflow_add-result : goal.overflow_add-result
overflow_add-result c = omega (arith, event-room c.args.words.now c.args.at c.requires)

pub offset_bounds-words-at-2 : goal.offset_bounds-words-at-2
offset_bounds-words-at-2 c = omega (arith, event-room c.args.words.now c.args.at c.requires)

pub bounds-words-at-2 : goal.bounds-words-at-2
bounds-words-at-2 c = omega (arith, event-room c.args.words.now c.args.at c.requires)

pub overflow_add-result-2 : goal.overflow_add-result-2
overflow_add-result-2 c = omega (arith, event-room c.args.words.now c.args.at c.requires)

pub offset_bounds-words-at-3 : goal.offset_bounds-words-at-3
offset_bounds-words-at-3 c = omega (arith, event-room c.args.words.now c.args.at c.requires)

pub bounds-words-at-3 : goal.bounds-words-at-3
bounds-words-at-3 c = omega (arith, event-room c.args.words.now c.args.at c.requires)

pub overflow_add-result-3 : goal.overflow_add-result-3
overflow_add-result-3 c = omega (arith, event-room c.args.words.now c.args.at c.requires)

pub offset_bounds-words-at-4 : goal.offset_bounds-words-at-4
offset_bounds-words-at-4 c = omega (arith, event-room c.args.words.now c.args.at c.requires)

pub bounds-words-at-4 : goal.bounds-words-at-4
bounds-words-at-4 c = omega (arith, event-room c.args.words.now c.args.at c.requires)

pub overflow_add-result-4 : goal.overflow_add-result-4
overflow_add-result-4 c = omega (arith, event-room c.args.words.now c.args.at c.requires)

pub offset_bounds-words-at-5 : goal.offset_bounds-words-at-5
offset_bounds-words-at-5 c = omega (arith, event-room c.args.words.now c.args.at c.requires)

pub bounds-words-at-5 : goal.bounds-words-at-5
bounds-words-at-5 c = omega (arith, event-room c.args.words.now c.args.at c.requires)

pub overflow_add-result-5 : goal.overflow_add-result-5
overflow_add-result-5 c = omega (arith, event-room c.args.words.now c.args.at c.requires)

pub offset_bounds-words-at-6 : goal.offset_bounds-words-at-6
offset_bounds-words-at-6 c = omega (arith, event-room c.args.words.now c.args.at c.requires)

pub bounds-words-at-6 : goal.bounds-words-at-6
bounds-words-at-6 c = omega (arith, event-room c.args.words.now c.args.at c.requires)

pub overflow_add-result-6 : goal.overflow_add-result-6
overflow_add-result-6 c = omega (arith, event-room c.args.words.now c.args.at c.requires)

pub offset_bounds-words-at-7 : goal.offset_bounds-words-at-7
offset_bounds-words-at-7 c = omega (arith, event-room c.args.words.now c.args.at c.requires)

pub bounds-words-at-7 : goal.bounds-words-at-7
bounds-words-at-7 c = omega (arith, event-room c.args.words.now c.args.at c.requires)

pub overflow_add-result-7 : goal.overflow_add-result-7
overflow_add-result-7 c = omega (arith, event-room c.args.words.now c.args.at c.requires)

pub offset_bounds-words-at-8 : goal.offset_bounds-words-at-8
offset_bounds-words-at-8 c = omega (arith, event-room c.args.words.now c.args.at c.requires)

pub bounds-words-at-8 : goal.bounds-words-at-8
bounds-words-at-8 c = omega (arith, event-room c.args.words.now c.args.at c.requires)

pub returns : goal.returns
returns c = event-words c.args.words.now c.args.at
