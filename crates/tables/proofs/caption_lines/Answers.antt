use native.Mathlib.Omega.{arith}
use mathlib.Core.Path.{refl, ◌∙◌, sym}
use Rattle.events.specs.View.{view}
use Rattle.tables.proofs.TableLaws.{lines_end, lines-stop, lines-on}
use Rattle.events.proofs.StateLaws.{same-on}
use Rattle.tables.proofs.caption_lines.Goals as goal

pub loop-k-init : goal.loop-k-init
loop-k-init c = (omega arith, c.requires, record { depth = refl; lists = refl; sections = refl }, refl, λ x y v. refl)

pub bounds-lines-k : goal.bounds-lines-k
bounds-lines-k c = omega (arith, c.loop-k-test.true)

pub bounds-lines-k-in-loop-k : goal.bounds-lines-k-in-loop-k
bounds-lines-k-in-loop-k c = omega (arith, c.loop-k-test.true)

pub inline-b-requires : goal.inline-b-requires
inline-b-requires c = c.loop-k.invariant.1

pub returns-then-b-ne0 : goal.returns-then-b-ne0
returns-then-b-ne0 c =
    let a = c.args in
    let l = c.loop-k in
    let p = c.inline-b.ensures in record { by_index = λ x y v. sym (lines-stop a.text.now a.lines.now l.k _ _ c.loop-k-test.true c.caption_text-l.ensures (view l.a l.events x y v) (view c.inline-b.result c.inline-b.new.events x y v) (p.by_index x y v) c.if-b-ne0.true) ∙ l.invariant.4 x y v; words_in_bounds = (p.words_in_bounds.0, same-on _ _ _ l.invariant.2 p.words_in_bounds.2) }

pub overflow_add-k-in-loop-k : goal.overflow_add-k-in-loop-k
overflow_add-k-in-loop-k c = omega (arith, c.well_formed.1.0)

pub loop-k-smaller : goal.loop-k-smaller
loop-k-smaller c = omega (arith, c.loop-k-test.true)

pub loop-k-preserved : goal.loop-k-preserved
loop-k-preserved c =
    let a = c.args in
    let l = c.loop-k in
    let p = c.inline-b.ensures in (
      omega (arith, c.loop-k-test.true),
      p.words_in_bounds.0,
      same-on _ _ _ l.invariant.2 p.words_in_bounds.2,
      c.inline-b.auto.events ∙ l.invariant.3,
      λ x y v. sym (lines-on a.text.now a.lines.now l.k _ _ c.loop-k-test.true c.caption_text-l.ensures (view l.a l.events x y v) (view c.inline-b.result c.inline-b.new.events x y v) (p.by_index x y v) c.if-b-ne0.false) ∙ l.invariant.4 x y v,
    )

pub returns : goal.returns
returns c =
    let a = c.args in
    let l = c.loop-k in record { by_index = λ x y v. sym (lines_end a.text.now a.lines.now _ l.k (view l.a l.events x y v) c.loop-k-test.false) ∙ l.invariant.4 x y v; words_in_bounds = (l.invariant.1, l.invariant.2) }
