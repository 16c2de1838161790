use Rattle.std.proofs.Common.{◌∙◌, ap}
use Rattle.tops.specs.Tops.{line_start}
use Rattle.tops.proofs.PlaceLaws.{start-within}
use Rattle.tops.proofs.start_of.Goals as goal

pub returns-in-Some : goal.returns-in-Some
returns-in-Some c =
    let place = c.in-Some.ensures.lookup.3 in
    c.line_start.ensures ∙ ap (line_start c.args.text.now) (place.1 0) ∙ start-within c.args.text.now c.args.places.now c.args.k place.0
