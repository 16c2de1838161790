use Rattle.std.proofs.Common.{◌≡◌, ◌+◌, ◌≤◌, length, drop}
use Rattle.std.proofs.lemmas.List.Edits.{sets}
use Rattle.sinks.proofs.copy.Given as goal

abbrev pub invariant-loop-k : goal.invariant-loop-k
invariant-loop-k l = record {
  inside : l.k ≤ length l.s;
  size : length l.out ≡ length l.initial.out;
  copied : sets l.initial.out l.at l.s ≡ sets l.out (l.at + l.k) (drop l.k l.s);
}
