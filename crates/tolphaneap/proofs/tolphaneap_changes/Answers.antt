use mathlib.Core.Path.{ap, ◌∙◌}
use mathlib.Core.List.{[], ◌∷◌}
use Prim.Native.Nat.{ℕ}
use Rattle.tolphaneap.specs.Answers.{change_words}
use Rattle.tolphaneap.proofs.tolphaneap_changes.Goals as goal

pub returns : goal.returns
returns c =
    let r = c.compare-c.result in record {
      answer_after = ap (λ (w : ℕ). r.number ∷ r.position ∷ w ∷ r.start ∷ r.end ∷ []) c.which_num-text.ensures ∙ ap change_words c.compare-c.ensures.value;
      lines_after = c.compare-c.ensures.lines_after;
      events_after = c.compare-c.ensures.events_after;
    }
