use Rattle.std.proofs.Common.{◌<◌, length, sym, ◌∙◌, arith}
use Rattle.ranks.specs.View.{less_in}
use Rattle.ranks.proofs.MergeLaws.{merged-start, merged-left, merged-right, merged-end, right-within, first-none}
use Rattle.ranks.proofs.Keyed.merge.Goals as goal

pub loop-i-init : goal.loop-i-init
loop-i-init c =
    let a = c.args in
    merged-start (less_in a.self.now) a.l.now a.r.now a.to.now c.requires.size

pub bounds-r-j : goal.bounds-r-j
bounds-r-j c =
    let a = c.args in
    let l = c.loop-key in
    right-within (less_in a.self.now) a.l.now a.r.now l.to c.loop-i.i l.j l.invariant (omega arith) (sym c.loop-key-test.true ∙ c.from_left.ensures)

pub loop-key-smaller : goal.loop-key-smaller
loop-key-smaller c =
    let a = c.args in
    let l = c.loop-key in
    let h : l.j < length a.r.now =
    right-within (less_in a.self.now) a.l.now a.r.now l.to c.loop-i.i l.j l.invariant (omega arith) (sym c.loop-key-test.true ∙ c.from_left.ensures) in
    omega arith

pub loop-key-preserved : goal.loop-key-preserved
loop-key-preserved c =
    let a = c.args in
    let l = c.loop-key in
    merged-right (less_in a.self.now) a.l.now a.r.now l.to c.loop-i.i l.j l.invariant (omega arith) (sym c.loop-key-test.true ∙ c.from_left.ensures)

pub loop-i-preserved : goal.loop-i-preserved
loop-i-preserved c =
    let a = c.args in
    let l = c.loop-key in
    merged-left (less_in a.self.now) a.l.now a.r.now l.to c.loop-i.i l.j l.invariant (omega arith) (sym c.loop-key-test.false ∙ c.from_left.ensures)

pub loop-j-preserved : goal.loop-j-preserved
loop-j-preserved c =
    let a = c.args in
    let l = c.loop-j in (
      l.invariant.0,
      merged-right (less_in a.self.now) a.l.now a.r.now l.to c.loop-i.i l.j l.invariant.1 (omega arith) (first-none (less_in a.self.now) a.l.now a.r.now c.loop-i.i l.j l.invariant.0),
    )

pub returns : goal.returns
returns c =
    let a = c.args in
    let l = c.loop-j in
    merged-end (less_in a.self.now) a.l.now a.r.now l.to c.loop-i.i l.j (omega arith) l.invariant.1
