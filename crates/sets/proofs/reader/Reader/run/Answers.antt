use Rattle.std.proofs.Common.{sym, ◌∙◌, ap, arith, Err, ◌≡◌, rules}
use Rattle.sets.specs.View.{held_in}
use Rattle.sets.proofs.ReadLaws.{going_start, going_end, going-invalid, going-full, going-complete, going_on}
use Rattle.sets.proofs.reader.Reader.run.Goals as goal

pub loop-p-init : goal.loop-p-init
loop-p-init c = going_start _ _ _ c.trim_end-set.ensures c.requires.0 c.requires.1 c.requires.2 c.requires.3

pub returns-then-t-eq-INVALID-clause-holds : goal.returns-then-t-eq-INVALID-clause-holds
returns-then-t-eq-INVALID-clause-holds c =
    let g = c.loop-p.invariant in
    let o = g.onward in
    rw (c.refused.ensures, o.element_words, o.piece_words) (sym (going-invalid _ _ c.args.self.now _ _ g c.step-t.result c.loop-p-test.true c.step-t.ensures.0 c.if-t-eq-INVALID.true))

pub advance-requires : goal.advance-requires
advance-requires c = (c.loop-p.invariant.owned, c.loop-p.invariant.from, omega arith)

pub returns-in_err-advance-clause-holds : goal.returns-in_err-advance-clause-holds
returns-in_err-advance-clause-holds c =
    let g = c.loop-p.invariant in
    let w = c.in_err-advance.field-0.0 in
    let o = c.advance.ensures.onward in
    let r : c.from_residual.result ≡ Err w = search rules in
    rw (r, o.element_words, o.piece_words, g.onward.element_words, g.onward.piece_words) (sym (going-full _ _ c.args.self.now c.loop-p.self _ g c.step-t.result c.loop-p-test.true c.step-t.ensures.0 c.if-t-eq-INVALID.false c.advance.new.self w c.in_err-advance.ensures.holds))

pub returns-then-halts-clause-holds : goal.returns-then-halts-clause-holds
returns-then-halts-clause-holds c =
    let g = c.loop-p.invariant in
    let o = c.advance.ensures.onward in
    c.complete.ensures.holds ∙ rw (o.element_words, o.piece_words, g.onward.element_words, g.onward.piece_words)
    (sym (going-complete _ _ c.args.self.now c.loop-p.self _ g c.step-t.result c.loop-p-test.true c.step-t.ensures.0 c.if-t-eq-INVALID.false c.advance.new.self c.in_ok-advance.ensures.holds c.if-halts.ensures))

pub loop-p-preserved : goal.loop-p-preserved
loop-p-preserved c =
    let g = c.loop-p.invariant in
    let e = c.in_ok-advance.ensures in
    let o = c.advance.ensures.onward in
    going_on _ _ c.args.self.now c.loop-p.self _ g c.step-t.result c.loop-p-test.true c.step-t.ensures.0 c.if-t-eq-INVALID.false c.advance.new.self e.holds c.if-halts.ensures
    (record { elements = o.elements; pieces = o.pieces; element_words = o.element_words; piece_words = o.piece_words; count = o.count }) c.step-t.ensures.1 e.machine.0 e.machine.1 e.machine.2

pub returns-clause-holds : goal.returns-clause-holds
returns-clause-holds c =
    let g = c.loop-p.invariant in
    let o = g.onward in
    rw (c.refused-2.ensures, o.element_words, o.piece_words) (sym (going_end _ _ c.args.self.now _ _ g c.loop-p-test.false))
