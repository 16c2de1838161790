use Rattle.std.proofs.Common.{[], ◌++◌}
use Rattle.sinks.proofs.PutLaws.{part-start, part-room, part-next, part-end}
use Rattle.entries.specs.Text.{text}
use Rattle.entries.specs.Entries.{spaced, looks_line}
use Rattle.entries.proofs.EntryLaws.{looks-parts}
use Rattle.entries.proofs.put_looks.Goals as goal

pub put-requires : goal.put-requires
unfolding text
put-requires g c =
    let l = g.met.S.Sink.laws in
    let p0 = part-start l c.args.sink.now (looks_line c.args.looks) (text "looks" ++ (spaced c.args.looks ++ (text "\n" ++ []))) (looks-parts c.args.looks) c.requires in
    part-room l (text "looks") (spaced c.args.looks ++ (text "\n" ++ [])) p0

pub put_spaced-requires : goal.put_spaced-requires
unfolding text
put_spaced-requires g c =
    let l = g.met.S.Sink.laws in
    let p0 = part-start l c.args.sink.now (looks_line c.args.looks) (text "looks" ++ (spaced c.args.looks ++ (text "\n" ++ []))) (looks-parts c.args.looks) c.requires in
    let p1 = part-next l (text "looks") (spaced c.args.looks ++ (text "\n" ++ [])) p0 c.put.ensures in
    part-room l (spaced c.args.looks) (text "\n" ++ []) p1

pub put-requires-2 : goal.put-requires-2
unfolding text
put-requires-2 g c =
    let l = g.met.S.Sink.laws in
    let p0 = part-start l c.args.sink.now (looks_line c.args.looks) (text "looks" ++ (spaced c.args.looks ++ (text "\n" ++ []))) (looks-parts c.args.looks) c.requires in
    let p1 = part-next l (text "looks") (spaced c.args.looks ++ (text "\n" ++ [])) p0 c.put.ensures in
    let p2 = part-next l (spaced c.args.looks) (text "\n" ++ []) p1 c.put_spaced.ensures in
    part-room l (text "\n") ([]) p2

pub returns : goal.returns
unfolding text
returns g c =
    let l = g.met.S.Sink.laws in
    let p0 = part-start l c.args.sink.now (looks_line c.args.looks) (text "looks" ++ (spaced c.args.looks ++ (text "\n" ++ []))) (looks-parts c.args.looks) c.requires in
    let p1 = part-next l (text "looks") (spaced c.args.looks ++ (text "\n" ++ [])) p0 c.put.ensures in
    let p2 = part-next l (spaced c.args.looks) (text "\n" ++ []) p1 c.put_spaced.ensures in
    let p3 = part-next l (text "\n") ([]) p2 c.put-2.ensures in
    part-end l p3
