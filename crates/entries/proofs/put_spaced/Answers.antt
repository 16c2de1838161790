use Rattle.std.proofs.Common.{[], ◌++◌}
use Rattle.sinks.proofs.PutLaws.{part-start, part-room, part-next, part-end}
use Rattle.entries.specs.Text.{text, decimal_of}
use Rattle.entries.specs.Entries.{spaced}
use Rattle.entries.proofs.EntryLaws.{spaced-parts}
use Rattle.entries.proofs.put_spaced.Goals as goal

pub put-requires : goal.put-requires
unfolding text
put-requires g c =
    let l = g.met.S.Sink.laws in
    let p0 = part-start l c.args.sink.now (spaced c.args.x) (text " " ++ (decimal_of c.args.x ++ [])) (spaced-parts c.args.x) c.requires in
    part-room l (text " ") (decimal_of c.args.x ++ []) p0

pub put_number-requires : goal.put_number-requires
unfolding text
put_number-requires g c =
    let l = g.met.S.Sink.laws in
    let p0 = part-start l c.args.sink.now (spaced c.args.x) (text " " ++ (decimal_of c.args.x ++ [])) (spaced-parts c.args.x) c.requires in
    let p1 = part-next l (text " ") (decimal_of c.args.x ++ []) p0 c.put.ensures in
    part-room l (decimal_of c.args.x) ([]) p1

pub returns : goal.returns
unfolding text
returns g c =
    let l = g.met.S.Sink.laws in
    let p0 = part-start l c.args.sink.now (spaced c.args.x) (text " " ++ (decimal_of c.args.x ++ [])) (spaced-parts c.args.x) c.requires in
    let p1 = part-next l (text " ") (decimal_of c.args.x ++ []) p0 c.put.ensures in
    let p2 = part-next l (decimal_of c.args.x) ([]) p1 c.put_number.ensures in
    part-end l p2
