use mathlib.Core.Path.{sym, ap, ◌∙◌}
use lib.Seq.{length-take-le}
use Rattle.events.specs.Pack.{all_of}
use Rattle.tops.specs.Tops.{starts_of}
use Rattle.editions.specs.Editions.{changed_of}
use Rattle.editions.proofs.NoteLaws.{older-fits, both-fit, lines-starts}
use Rattle.editions.proofs.changed_blocks.Goals as goal

pub slice_bounds-newer_noted-end : goal.slice_bounds-newer_noted-end
slice_bounds-newer_noted-end c = sym (length-take-le _ c.args.lines.now c.if-b-lines.true)

pub newer_noted-requires : goal.newer_noted-requires
newer_noted-requires c = (c.requires.free, older-fits _ _ _ _ _ c.requires)

pub returns-then-b-lines : goal.returns-then-b-lines
returns-then-b-lines c =
    let a = c.args in record { value = c.newer_noted.ensures.value ∙ ap (changed_of a.older.now a.newer.now (starts_of a.older.now (all_of a.og.now))) (lines-starts _ _ _ _ _ c.requires a.newer.now c.if-b-lines.true); events_after = c.newer_noted.ensures.events_after }

pub none_noted-requires : goal.none_noted-requires
none_noted-requires c = (c.requires.free, both-fit _ _ _ _ _ c.requires)
