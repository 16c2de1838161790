use lib.ListN.{length}
use Rattle.sets.specs.Layout.{listed}
use Rattle.values.proofs.KeptLaws.{Kept}
use Rattle.pairs.proofs.ShowLaws.{showing}
use Rattle.pairs.proofs.show_all.Given as goal

abbrev pub invariant-loop-i : goal.invariant-loop-i
invariant-loop-i l = Kept (showing l.bytes (listed (length l.ranks) l.initial.elements)) (length l.ranks) l.initial.elements l.elements l.m l.i
