use Rattle.std.proofs.Common.{ap, ◌∙◌, ℕ, replicate}
use Rattle.pairs.proofs.pairs.Goals as goal

pub returns : goal.returns
returns c =
    let f = c.paired-found in
    record { value = f.ensures.value; elements_after = f.ensures.elements_after; pieces_after = f.ensures.pieces_after; places_after = (c.fill.ensures.after (λ y p. p) ∙ ap (λ (n : ℕ). replicate n 0) f.auto.places, c.fill-2.ensures.after (λ y p. p) ∙ ap (λ (n : ℕ). replicate n 0) f.auto.spare) }
