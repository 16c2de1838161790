use mathlib.Core.Path.{sym, ap, ◌∙◌}
use mathlib.Core.List.{List}
use Prim.Native.Nat.{ℕ}
use lib.Seq.{length-take-le}
use Rattle.tops.specs.Places.{starts_at}
use Rattle.editions.specs.Editions.{changed_of}
use Rattle.editions.proofs.NoteLaws.{noted-fits, older-starts, noted-zeroed}
use Rattle.editions.proofs.newer_noted.Goals as goal

pub slice_bounds-between-end-2 : goal.slice_bounds-between-end-2
slice_bounds-between-end-2 c =
    let a = c.args in
    sym (length-take-le _ c.places-m.new.out (noted-fits a.older.now a.og.now a.events.now c.places-m.new.out c.requires.0 c.requires.1 _ c.places-m.ensures.0 c.places-m.ensures.1))

pub returns : goal.returns
returns c =
    let a = c.args in record { value = c.between-c.ensures ∙ ap (λ (l : List ℕ). changed_of a.older.now a.newer.now l (starts_at a.newer.now a.ns.now)) (older-starts a.older.now a.og.now a.events.now c.places-m.new.out c.requires.0 c.requires.1 _ c.places-m.ensures.0 c.places-m.ensures.1); events_after = c.zero.ensures ∙ noted-zeroed a.older.now a.og.now a.events.now c.places-m.new.out c.requires.0 c.requires.1 _ c.places-m.ensures.0 c.places-m.ensures.1 }
