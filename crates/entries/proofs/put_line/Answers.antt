use Rattle.std.proofs.Common.{ℕ, List, [], ◌++◌, sym, subst}
use Rattle.sinks.proofs.PutLaws.{part-start, part-room, part-next, part-end}
use Rattle.entries.specs.Text.{text}
use Rattle.entries.specs.Entries.{spaced, head_of, body_of, line_of}
use Rattle.entries.proofs.EntryLaws.{line-parts, line-none}
use Rattle.entries.proofs.put_line.Goals as goal

pub put_head-requires : goal.put_head-requires
unfolding text
put_head-requires g c =
    let l = g.met.S.Sink.laws in
    let p0 = part-start l c.args.sink.now (line_of c.args.x) (head_of c.args.x ++ (spaced c.args.x.start ++ (spaced c.args.x.end ++ (body_of c.args.x ++ (text "\n" ++ []))))) (line-parts c.args.x c.if-x-eq-STALE.false) c.requires in
    part-room l (head_of c.args.x) (spaced c.args.x.start ++ (spaced c.args.x.end ++ (body_of c.args.x ++ (text "\n" ++ [])))) p0

pub put_spaced-requires : goal.put_spaced-requires
unfolding text
put_spaced-requires g c =
    let l = g.met.S.Sink.laws in
    let p0 = part-start l c.args.sink.now (line_of c.args.x) (head_of c.args.x ++ (spaced c.args.x.start ++ (spaced c.args.x.end ++ (body_of c.args.x ++ (text "\n" ++ []))))) (line-parts c.args.x c.if-x-eq-STALE.false) c.requires in
    let p1 = part-next l (head_of c.args.x) (spaced c.args.x.start ++ (spaced c.args.x.end ++ (body_of c.args.x ++ (text "\n" ++ [])))) p0 c.put_head.ensures in
    part-room l (spaced c.args.x.start) (spaced c.args.x.end ++ (body_of c.args.x ++ (text "\n" ++ []))) p1

pub put_spaced-requires-2 : goal.put_spaced-requires-2
unfolding text
put_spaced-requires-2 g c =
    let l = g.met.S.Sink.laws in
    let p0 = part-start l c.args.sink.now (line_of c.args.x) (head_of c.args.x ++ (spaced c.args.x.start ++ (spaced c.args.x.end ++ (body_of c.args.x ++ (text "\n" ++ []))))) (line-parts c.args.x c.if-x-eq-STALE.false) c.requires in
    let p1 = part-next l (head_of c.args.x) (spaced c.args.x.start ++ (spaced c.args.x.end ++ (body_of c.args.x ++ (text "\n" ++ [])))) p0 c.put_head.ensures in
    let p2 = part-next l (spaced c.args.x.start) (spaced c.args.x.end ++ (body_of c.args.x ++ (text "\n" ++ []))) p1 c.put_spaced.ensures in
    part-room l (spaced c.args.x.end) (body_of c.args.x ++ (text "\n" ++ [])) p2

pub put_body-requires : goal.put_body-requires
unfolding text
put_body-requires g c =
    let l = g.met.S.Sink.laws in
    let p0 = part-start l c.args.sink.now (line_of c.args.x) (head_of c.args.x ++ (spaced c.args.x.start ++ (spaced c.args.x.end ++ (body_of c.args.x ++ (text "\n" ++ []))))) (line-parts c.args.x c.if-x-eq-STALE.false) c.requires in
    let p1 = part-next l (head_of c.args.x) (spaced c.args.x.start ++ (spaced c.args.x.end ++ (body_of c.args.x ++ (text "\n" ++ [])))) p0 c.put_head.ensures in
    let p2 = part-next l (spaced c.args.x.start) (spaced c.args.x.end ++ (body_of c.args.x ++ (text "\n" ++ []))) p1 c.put_spaced.ensures in
    let p3 = part-next l (spaced c.args.x.end) (body_of c.args.x ++ (text "\n" ++ [])) p2 c.put_spaced-2.ensures in
    part-room l (body_of c.args.x) (text "\n" ++ []) p3

pub put-requires : goal.put-requires
unfolding text
put-requires g c =
    let l = g.met.S.Sink.laws in
    let p0 = part-start l c.args.sink.now (line_of c.args.x) (head_of c.args.x ++ (spaced c.args.x.start ++ (spaced c.args.x.end ++ (body_of c.args.x ++ (text "\n" ++ []))))) (line-parts c.args.x c.if-x-eq-STALE.false) c.requires in
    let p1 = part-next l (head_of c.args.x) (spaced c.args.x.start ++ (spaced c.args.x.end ++ (body_of c.args.x ++ (text "\n" ++ [])))) p0 c.put_head.ensures in
    let p2 = part-next l (spaced c.args.x.start) (spaced c.args.x.end ++ (body_of c.args.x ++ (text "\n" ++ []))) p1 c.put_spaced.ensures in
    let p3 = part-next l (spaced c.args.x.end) (body_of c.args.x ++ (text "\n" ++ [])) p2 c.put_spaced-2.ensures in
    let p4 = part-next l (body_of c.args.x) (text "\n" ++ []) p3 c.put_body.ensures in
    part-room l (text "\n") ([]) p4

pub returns : goal.returns
unfolding text
returns g c =
    let l = g.met.S.Sink.laws in
    let p0 = part-start l c.args.sink.now (line_of c.args.x) (head_of c.args.x ++ (spaced c.args.x.start ++ (spaced c.args.x.end ++ (body_of c.args.x ++ (text "\n" ++ []))))) (line-parts c.args.x c.if-x-eq-STALE.false) c.requires in
    let p1 = part-next l (head_of c.args.x) (spaced c.args.x.start ++ (spaced c.args.x.end ++ (body_of c.args.x ++ (text "\n" ++ [])))) p0 c.put_head.ensures in
    let p2 = part-next l (spaced c.args.x.start) (spaced c.args.x.end ++ (body_of c.args.x ++ (text "\n" ++ []))) p1 c.put_spaced.ensures in
    let p3 = part-next l (spaced c.args.x.end) (body_of c.args.x ++ (text "\n" ++ [])) p2 c.put_spaced-2.ensures in
    let p4 = part-next l (body_of c.args.x) (text "\n" ++ []) p3 c.put_body.ensures in
    let p5 = part-next l (text "\n") ([]) p4 c.put.ensures in
    part-end l p5

pub returns-then-x-eq-STALE : goal.returns-then-x-eq-STALE
returns-then-x-eq-STALE g c = subst (λ (k : List ℕ). g.S.Sink.took c.args.sink.now k c.args.sink.now) (sym (line-none c.args.x c.if-x-eq-STALE.true)) (g.met.S.Sink.laws.none c.args.sink.now)
