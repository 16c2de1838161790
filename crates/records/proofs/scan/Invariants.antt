use Rattle.std.proofs.Common.{◌≡◌, ◌-◌, length}
use Rattle.records.proofs.ReadLaws.{Scanned}
use Rattle.records.proofs.scan.Given as goal

abbrev pub invariant-loop-at : goal.invariant-loop-at
invariant-loop-at l = record { same_open : l.open.0.now ≡ l.bytes; going : Scanned l.most l.bytes l.nest l.count l.at }

abbrev pub decreases-loop-at : goal.decreases-loop-at
decreases-loop-at l = length l.bytes - l.at
