use Rattle.std.proofs.Common.{length, ◌/◌}
use Rattle.sets.specs.Layout.{spanned, own}
use Rattle.sets.specs.Words.{listed_as}
use Rattle.joins.proofs.PutLaws.{Putting, from}
use Rattle.joins.proofs.Joining.put_pieces.Given as goal

abbrev pub invariant-loop-j : goal.invariant-loop-j
invariant-loop-j g l = Putting l.self.bytes.now l.self.glue.now l.self.room g.S.Sink.fits g.S.Sink.took l.fn.begun (own (spanned (length l.pieces / 2) l.pieces) (listed_as l.fn.e)) l.initial.to l.n l.to (from l.pieces (length l.pieces / 2) l.fn.e.past l.j)
