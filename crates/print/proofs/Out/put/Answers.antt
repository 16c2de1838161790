use Rattle.std.proofs.Common.{sym, ◌∙◌}
use Rattle.print.proofs.PieceLaws.{put-piece}
use Rattle.print.proofs.Out.put.Goals as goal

pub loop-rest-preserved : goal.loop-rest-preserved
loop-rest-preserved g c =
    rw (c.put_piece.ensures, c.split_at.ensures.front, c.split_at.ensures.back)
    (sym (put-piece c.loop-rest.self c.loop-rest.rest.now c.loop-rest-test.true) ∙ c.loop-rest.invariant)
