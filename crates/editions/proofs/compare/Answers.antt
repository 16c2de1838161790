use Rattle.editions.proofs.compare.Goals as goal

pub returns : goal.returns
returns c = record { value = c.compare_within.ensures.value; lines_after = c.compare_within.ensures.lines_after; events_after = c.compare_within.ensures.events_after }
