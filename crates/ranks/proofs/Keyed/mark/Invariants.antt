use Rattle.ranks.proofs.RankLaws.{Marked}
use Rattle.ranks.proofs.Keyed.mark.Given as goal

abbrev pub invariant-loop-i : goal.invariant-loop-i
invariant-loop-i l = Marked l.self.bytes.now l.self.elements.words.now l.self.elements.count l.places l.ranks l.i l.last
