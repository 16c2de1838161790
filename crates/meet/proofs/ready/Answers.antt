use native.Mathlib.Omega.{arith}
use mathlib.Core.Path.{◌∙◌}
use Rattle.events.specs.View.{view}
use Rattle.meet.proofs.ReadyLaws.{ready-1, ready-2, ready-3, ready-4}
use Rattle.meet.proofs.ready.Goals as goal

pub returns-then-a-ne0 : goal.returns-then-a-ne0
returns-then-a-ne0 c =
    let x = c.args in
    let a = c.count-a.ensures in record { levels_after = ready-1 x.lim x.left x.top x.m x.at x.looks (view x.st x.events.now x.stack.now x.lists.now x.levels.now) (view c.count-a.result x.events.now x.stack.now x.lists.now x.levels.now) (a.0 x.events.now x.stack.now x.lists.now x.levels.now) c.if-a-ne0.true; fits = (record { words = omega (arith, a.1, c.requires.0.words); depth = omega (arith, a.2.depth, c.requires.0.depth); room = c.requires.0.room }, omega (arith, a.2.lists, c.requires.1), a.2.sections) }

pub admit-b-requires : goal.admit-b-requires
admit-b-requires c = omega (arith, c.count-a.ensures.2.sections, c.requires.2)

pub returns-then-b-ne0 : goal.returns-then-b-ne0
returns-then-b-ne0 c =
    let x = c.args in
    let a = c.count-a.ensures in
    let b = c.admit-b.ensures in record {
      levels_after = ready-2 x.lim x.left x.top x.m x.at x.looks (view x.st x.events.now x.stack.now x.lists.now x.levels.now) (view c.count-a.result x.events.now x.stack.now x.lists.now x.levels.now) (a.0 x.events.now x.stack.now x.lists.now x.levels.now) c.if-a-ne0.false
          (view c.admit-b.result x.events.now x.stack.now x.lists.now x.levels.now) (b.0 x.events.now x.stack.now x.lists.now) c.if-b-ne0.true;
      fits = (record { words = omega (arith, b.1, a.1, c.requires.0.words); depth = omega (arith, b.2.depth, a.2.depth, c.requires.0.depth); room = c.requires.0.room }, omega (arith, b.2.lists, a.2.lists, c.requires.1), b.2.sections ∙ a.2.sections);
    }

pub settle_list-c-requires : goal.settle_list-c-requires
settle_list-c-requires c =
    let a = c.count-a.ensures in
    let b = c.admit-b.ensures in
    (record { words = omega (arith, b.1, a.1, c.requires.0.words); depth = omega (arith, b.2.depth, a.2.depth, c.requires.0.depth); room = c.requires.0.room }, omega (arith, b.2.lists, a.2.lists, c.requires.1))

pub returns-then-c-ne0 : goal.returns-then-c-ne0
returns-then-c-ne0 c =
    let x = c.args in
    let a = c.count-a.ensures in
    let b = c.admit-b.ensures in
    let s = c.settle_list-c.ensures in record {
      levels_after = ready-3 x.lim x.left x.top x.m x.at x.looks (view x.st x.events.now x.stack.now x.lists.now x.levels.now) (view c.count-a.result x.events.now x.stack.now x.lists.now x.levels.now) (a.0 x.events.now x.stack.now x.lists.now x.levels.now) c.if-a-ne0.false
          (view c.admit-b.result x.events.now x.stack.now x.lists.now x.levels.now) (b.0 x.events.now x.stack.now x.lists.now) c.if-b-ne0.false
          (view c.settle_list-c.result c.settle_list-c.new.events x.stack.now c.settle_list-c.new.lists x.levels.now) (s.by_index x.levels.now) c.if-c-ne0.true;
      fits = (s.fits.0, s.fits.1, s.fits.2 ∙ b.2.sections ∙ a.2.sections);
    }

pub loosen-requires : goal.loosen-requires
loosen-requires c = (c.settle_list-c.ensures.fits.0, c.settle_list-c.ensures.fits.1)

pub returns : goal.returns
returns c =
    let x = c.args in
    let a = c.count-a.ensures in
    let b = c.admit-b.ensures in
    let s = c.settle_list-c.ensures in
    let d = c.loosen.ensures in record {
      levels_after = d.0 x.levels.now ∙ ready-4 x.lim x.left x.top x.m x.at x.looks (view x.st x.events.now x.stack.now x.lists.now x.levels.now) (view c.count-a.result x.events.now x.stack.now x.lists.now x.levels.now) (a.0 x.events.now x.stack.now x.lists.now x.levels.now) c.if-a-ne0.false
          (view c.admit-b.result x.events.now x.stack.now x.lists.now x.levels.now) (b.0 x.events.now x.stack.now x.lists.now) c.if-b-ne0.false
          (view c.settle_list-c.result c.settle_list-c.new.events x.stack.now c.settle_list-c.new.lists x.levels.now) (s.by_index x.levels.now) c.if-c-ne0.false;
      fits = (record { words = omega (arith, d.1, c.loosen.auto.events, s.fits.0.words); depth = omega (arith, d.2.depth, s.fits.0.depth); room = c.requires.0.room }, omega (arith, d.2.lists, s.fits.1), d.2.sections ∙ s.fits.2 ∙ b.2.sections ∙ a.2.sections);
    }
