use Rattle.std.proofs.Common.{arith}
use Rattle.ranks.specs.View.{less_in}
use Rattle.ranks.proofs.MergeLaws.{first-all, first_by, first-known}
use Rattle.ranks.proofs.Keyed.from_left.Goals as goal

pub returns-then-r-j : goal.returns-then-r-j
returns-then-r-j c =
    let a = c.args in
    first-all (less_in a.self.now) a.l.now a.r.now a.i a.j c.requires.left c.if-r-j.true

pub returns-then-i-l : goal.returns-then-i-l
returns-then-i-l c =
    let a = c.args in
    first-known (less_in a.self.now) a.l.now a.r.now a.i a.j c.requires.apart c.if-i-l.true c.if-j-eq0.true (omega arith)

pub returns : goal.returns
returns c =
    let a = c.args in
    first_by (less_in a.self.now) a.l.now a.r.now a.i a.j c.requires.left (omega arith) c.precedes.result c.precedes.ensures
