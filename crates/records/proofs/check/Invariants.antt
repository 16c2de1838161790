use Rattle.std.proofs.Common.{◌≡◌}
use Rattle.records.proofs.WriteLaws.{Checking}
use Rattle.records.proofs.check.Given as goal

abbrev pub invariant-loop-i : goal.invariant-loop-i
invariant-loop-i l = record { same_open : l.open.0.now ≡ l.words; same_words : l.i-iterator.words.now ≡ l.words; going : Checking l.words l.lent l.nest l.size l.i-iterator.next }
