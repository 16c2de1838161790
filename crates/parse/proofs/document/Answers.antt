use native.Mathlib.Omega.{arith}
use mathlib.Core.Path.{sym, ◌∙◌}
use mathlib.Core.List.{[]}
use lib.ListN.{length, replicate}
use Rattle.events.specs.View.{view}
use Rattle.walk.specs.Document.{start}
use Rattle.parse.proofs.ParseLaws.{shows, document-1, document-2, document-3}
use Rattle.parse.proofs.document.Goals as goal

pub enter-a-requires : goal.enter-a-requires
enter-a-requires c = record { words = omega (arith, c.begin.ensures.1); depth = omega (arith, c.begin.ensures.2); room = omega arith }

pub returns-then-a-ne0 : goal.returns-then-a-ne0
returns-then-a-ne0 c =
    let a = c.args in
    let x = c.enter-a in
    shows x.result x.new.events x.new.stack [] [] _ x.ensures.fits.0.words
    (document-1 a.text.now a.lim (start (length a.events.now) a.lim.nesting) (view x.result x.new.events x.new.stack [] []) c.node.result c.node.ensures
    (view c.begin.result a.events.now (replicate 128 0) [] []) (c.begin.ensures.0 a.events.now (replicate 128 0) [] []) (x.ensures.by_index [] []) c.if-a-ne0.true)

pub slice_bounds-blocks-end : goal.slice_bounds-blocks-end
slice_bounds-blocks-end c = sym c.enter-a.auto.stack

pub blocks-b-requires : goal.blocks-b-requires
blocks-b-requires c =
    let x = c.enter-a in
    (x.ensures.fits.0, record { lists = omega (arith, x.ensures.fits.2.lists, c.begin.ensures.3); listroom = omega arith; sections = omega (arith, x.ensures.fits.2.sections, c.begin.ensures.4); levels = omega arith })

pub returns-then-b-ne0 : goal.returns-then-b-ne0
returns-then-b-ne0 c =
    let a = c.args in
    let x = c.enter-a in
    let b = c.blocks-b in
    shows b.result b.new.events b.new.stack b.new.lists b.new.levels _ b.ensures.fits.0.words
    (document-2 a.text.now a.lim (start (length a.events.now) a.lim.nesting) (view x.result x.new.events x.new.stack (replicate 160 0) (replicate 32 0)) c.node.result c.node.ensures
    (view c.begin.result a.events.now (replicate 128 0) (replicate 160 0) (replicate 32 0)) (c.begin.ensures.0 a.events.now (replicate 128 0) (replicate 160 0) (replicate 32 0)) (x.ensures.by_index (replicate 160 0) (replicate 32 0)) c.if-a-ne0.false
    a.lines.now c.requires.0 (view b.result b.new.events b.new.stack b.new.lists b.new.levels) b.ensures.levels_after c.if-b-ne0.true)

pub slice_bounds-close-end : goal.slice_bounds-close-end
slice_bounds-close-end c = sym (c.blocks-b.auto.stack ∙ c.enter-a.auto.stack)

pub slice_bounds-close-end-2 : goal.slice_bounds-close-end-2
slice_bounds-close-end-2 c = sym c.blocks-b.auto.lists

pub overflow_cast-text : goal.overflow_cast-text
overflow_cast-text c = omega (arith, c.requires.1)

pub close-requires : goal.close-requires
close-requires c = (c.blocks-b.ensures.fits.0, c.blocks-b.ensures.fits.1.lists)

pub returns : goal.returns
returns c =
    let a = c.args in
    let x = c.enter-a in
    let b = c.blocks-b in
    let z = c.close in
    shows z.result z.new.events b.new.stack b.new.lists b.new.levels _ z.ensures.words_in_bounds
    (z.ensures.by_index b.new.levels b.ensures.fits.1.sections ∙ document-3 a.text.now a.lim (start (length a.events.now) a.lim.nesting) (view x.result x.new.events x.new.stack (replicate 160 0) (replicate 32 0)) c.node.result c.node.ensures
    (view c.begin.result a.events.now (replicate 128 0) (replicate 160 0) (replicate 32 0)) (c.begin.ensures.0 a.events.now (replicate 128 0) (replicate 160 0) (replicate 32 0)) (x.ensures.by_index (replicate 160 0) (replicate 32 0)) c.if-a-ne0.false
    a.lines.now c.requires.0 (view b.result b.new.events b.new.stack b.new.lists b.new.levels) b.ensures.levels_after c.if-b-ne0.false)
