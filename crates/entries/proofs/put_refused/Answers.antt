use Rattle.std.proofs.Common.{[], ◌++◌}
use Rattle.sinks.proofs.PutLaws.{part-start, part-room, part-next, part-end}
use Rattle.entries.specs.Text.{text}
use Rattle.entries.specs.Entries.{spaced, refused_line}
use Rattle.entries.proofs.EntryLaws.{refused-parts}
use Rattle.entries.proofs.put_refused.Goals as goal

pub put-requires : goal.put-requires
unfolding text
put-requires g c =
    let l = g.met.S.Sink.laws in
    let p0 = part-start l c.args.sink.now (refused_line c.args.number c.args.position) (text "refused" ++ (spaced c.args.number ++ (text " at" ++ (spaced c.args.position ++ (text "\n" ++ []))))) (refused-parts c.args.number c.args.position) c.requires in
    part-room l (text "refused") (spaced c.args.number ++ (text " at" ++ (spaced c.args.position ++ (text "\n" ++ [])))) p0

pub put_spaced-requires : goal.put_spaced-requires
unfolding text
put_spaced-requires g c =
    let l = g.met.S.Sink.laws in
    let p0 = part-start l c.args.sink.now (refused_line c.args.number c.args.position) (text "refused" ++ (spaced c.args.number ++ (text " at" ++ (spaced c.args.position ++ (text "\n" ++ []))))) (refused-parts c.args.number c.args.position) c.requires in
    let p1 = part-next l (text "refused") (spaced c.args.number ++ (text " at" ++ (spaced c.args.position ++ (text "\n" ++ [])))) p0 c.put.ensures in
    part-room l (spaced c.args.number) (text " at" ++ (spaced c.args.position ++ (text "\n" ++ []))) p1

pub put-requires-2 : goal.put-requires-2
unfolding text
put-requires-2 g c =
    let l = g.met.S.Sink.laws in
    let p0 = part-start l c.args.sink.now (refused_line c.args.number c.args.position) (text "refused" ++ (spaced c.args.number ++ (text " at" ++ (spaced c.args.position ++ (text "\n" ++ []))))) (refused-parts c.args.number c.args.position) c.requires in
    let p1 = part-next l (text "refused") (spaced c.args.number ++ (text " at" ++ (spaced c.args.position ++ (text "\n" ++ [])))) p0 c.put.ensures in
    let p2 = part-next l (spaced c.args.number) (text " at" ++ (spaced c.args.position ++ (text "\n" ++ []))) p1 c.put_spaced.ensures in
    part-room l (text " at") (spaced c.args.position ++ (text "\n" ++ [])) p2

pub put_spaced-requires-2 : goal.put_spaced-requires-2
unfolding text
put_spaced-requires-2 g c =
    let l = g.met.S.Sink.laws in
    let p0 = part-start l c.args.sink.now (refused_line c.args.number c.args.position) (text "refused" ++ (spaced c.args.number ++ (text " at" ++ (spaced c.args.position ++ (text "\n" ++ []))))) (refused-parts c.args.number c.args.position) c.requires in
    let p1 = part-next l (text "refused") (spaced c.args.number ++ (text " at" ++ (spaced c.args.position ++ (text "\n" ++ [])))) p0 c.put.ensures in
    let p2 = part-next l (spaced c.args.number) (text " at" ++ (spaced c.args.position ++ (text "\n" ++ []))) p1 c.put_spaced.ensures in
    let p3 = part-next l (text " at") (spaced c.args.position ++ (text "\n" ++ [])) p2 c.put-2.ensures in
    part-room l (spaced c.args.position) (text "\n" ++ []) p3

pub put-requires-3 : goal.put-requires-3
unfolding text
put-requires-3 g c =
    let l = g.met.S.Sink.laws in
    let p0 = part-start l c.args.sink.now (refused_line c.args.number c.args.position) (text "refused" ++ (spaced c.args.number ++ (text " at" ++ (spaced c.args.position ++ (text "\n" ++ []))))) (refused-parts c.args.number c.args.position) c.requires in
    let p1 = part-next l (text "refused") (spaced c.args.number ++ (text " at" ++ (spaced c.args.position ++ (text "\n" ++ [])))) p0 c.put.ensures in
    let p2 = part-next l (spaced c.args.number) (text " at" ++ (spaced c.args.position ++ (text "\n" ++ []))) p1 c.put_spaced.ensures in
    let p3 = part-next l (text " at") (spaced c.args.position ++ (text "\n" ++ [])) p2 c.put-2.ensures in
    let p4 = part-next l (spaced c.args.position) (text "\n" ++ []) p3 c.put_spaced-2.ensures in
    part-room l (text "\n") ([]) p4

pub returns : goal.returns
unfolding text
returns g c =
    let l = g.met.S.Sink.laws in
    let p0 = part-start l c.args.sink.now (refused_line c.args.number c.args.position) (text "refused" ++ (spaced c.args.number ++ (text " at" ++ (spaced c.args.position ++ (text "\n" ++ []))))) (refused-parts c.args.number c.args.position) c.requires in
    let p1 = part-next l (text "refused") (spaced c.args.number ++ (text " at" ++ (spaced c.args.position ++ (text "\n" ++ [])))) p0 c.put.ensures in
    let p2 = part-next l (spaced c.args.number) (text " at" ++ (spaced c.args.position ++ (text "\n" ++ []))) p1 c.put_spaced.ensures in
    let p3 = part-next l (text " at") (spaced c.args.position ++ (text "\n" ++ [])) p2 c.put-2.ensures in
    let p4 = part-next l (spaced c.args.position) (text "\n" ++ []) p3 c.put_spaced-2.ensures in
    let p5 = part-next l (text "\n") ([]) p4 c.put-3.ensures in
    part-end l p5
