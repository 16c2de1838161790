use Rattle.std.proofs.Common.{length, ◌/◌}
use Rattle.sets.specs.Layout.{spanned, listed}
use Rattle.joins.specs.Joins.{pieces_of}
use Rattle.joins.proofs.PutLaws.{Putting, behind}
use Rattle.joins.proofs.Joining.put_all.Given as goal

abbrev pub invariant-loop-i : goal.invariant-loop-i
invariant-loop-i g l = Putting l.self.bytes.now l.self.glue.now l.self.room g.S.Sink.fits g.S.Sink.took 0 (pieces_of (spanned (length l.pieces / 2) l.pieces) (listed l.elements.count l.elements.words.now)) l.initial.to l.n l.to (behind (spanned (length l.pieces / 2) l.pieces) l.elements.words.now l.elements.count l.i)
