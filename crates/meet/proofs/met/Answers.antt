use mathlib.Core.Path.{sym, ◌∙◌}
use Prim.Native.Nat.{◌-◌}
use lib.ListN.{length, get_or}
use Rattle.meet.proofs.MetLaws.{met-closed, met-plain, bounded}
use Rattle.meet.proofs.met.Goals as goal

pub offset-start-requires : goal.offset-start-requires
offset-start-requires c = c.requires.2.start

pub offset-end-requires : goal.offset-end-requires
offset-end-requires c = c.requires.2.end

pub returns-then-closed_of : goal.returns-then-closed_of
returns-then-closed_of c =
    let a = c.args in
    let ws = a.lines.now in (
      met-closed a.m ws c.requires.0 c.requires.1 c.offset-start.result c.offset-end.result c.offset-start.ensures c.offset-end.ensures (sym c.closed_of.ensures ∙ c.if-closed_of.true),
      bounded (get_or ws 0 0) a.m c.requires.2 c.offset-start.result c.offset-end.result (get_or ws (length ws - 2) 0) (get_or ws (length ws - 1) 0) c.offset-end.ensures,
    )

pub returns : goal.returns
returns c =
    let a = c.args in
    let ws = a.lines.now in (
      met-plain a.m ws c.requires.0 c.requires.1 c.offset-start.result c.offset-end.result c.offset-start.ensures c.offset-end.ensures (sym c.closed_of.ensures ∙ c.if-closed_of.false),
      bounded (get_or ws 0 0) a.m c.requires.2 c.offset-start.result c.offset-end.result (get_or ws (length ws - 1) 0) (get_or ws (length ws - 1) 0) c.offset-end.ensures,
    )
