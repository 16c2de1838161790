use Rattle.std.proofs.Common.{◌≡◌}
use Rattle.listing.specs.Modes.{mode_num}
use Rattle.listing.proofs.ListLaws.{Fitting}
use Rattle.listing.proofs.fit.Given as goal

abbrev pub invariant-loop-i : goal.invariant-loop-i
invariant-loop-i l = record { same_words : l.i-iterator.words.now ≡ l.words; going : Fitting (mode_num l.mode) l.words l.room l.i-iterator.next l.size }
