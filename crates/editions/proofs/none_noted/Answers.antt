use native.Mathlib.Omega.{arith}
use mathlib.Core.Path.{refl, ◌∙◌}
use Rattle.editions.proofs.NoteLaws.{both-starts, both-zeroed}
use Rattle.editions.proofs.none_noted.Goals as goal

pub returns : goal.returns
returns c =
    let a = c.args in record { value = c.between_noted-c.ensures ∙ both-starts a.older.now a.og.now a.events.now c.places-m.new.out c.requires.0 (omega (arith, c.requires.1)) _ c.places-m.ensures.0 c.places-m.ensures.1 a.newer.now a.ng.now c.places-n.new.out c.requires.1 _ c.places-n.ensures.0 c.places-n.ensures.1 _ refl; events_after = c.zero.ensures ∙ both-zeroed a.older.now a.og.now a.events.now c.places-m.new.out c.requires.0 (omega (arith, c.requires.1)) _ c.places-m.ensures.0 c.places-m.ensures.1 a.newer.now a.ng.now c.places-n.new.out c.requires.1 _ c.places-n.ensures.0 c.places-n.ensures.1 _ refl }
