use native.Mathlib.Omega.{arith}
use mathlib.Core.Path.{◌≡◌, sym, ap, ◌∙◌}
use mathlib.Core.List.{List}
use Prim.Native.Nat.{ℕ, ◌+◌}
use lib.ListN.{take}
use lib.Seq.{length-take-le}
use Rattle.trim.specs.Trim.{part_of}
use Rattle.events.specs.State.{State}
use Rattle.events.specs.Events.{push_of}
use Rattle.events.specs.View.{view}
use Rattle.walk.specs.Leaf.{mark}
use Rattle.walk.specs.Table.{rows}
use Rattle.cells.specs.Held.{sep_of, laid_of, rows_at}
use Rattle.cells.proofs.HeldLaws.{marked}
use Rattle.cells.proofs.RowLaws.{alike-sep}
use Rattle.cells.proofs.EndLaws.{ready-as, row-1, row-2, row-3, row-4, held-enter, words-before, ready-row}
use Rattle.events.proofs.StateLaws.{same-on}
use Rattle.cells.proofs.row.Goals as goal

pub overflow_cast-s : goal.overflow_cast-s
overflow_cast-s c = omega (arith, c.requires.1, c.requires.2)

pub overflow_add-s : goal.overflow_add-s
overflow_add-s c = omega (arith, c.requires.1, c.requires.2)

pub overflow_cast-s-2 : goal.overflow_cast-s-2
overflow_cast-s-2 c = omega (arith, c.requires.1, c.requires.2)

pub push-a-requires : goal.push-a-requires
push-a-requires c = c.requires.0

pub returns-then-a-ne0 : goal.returns-then-a-ne0
returns-then-a-ne0 c =
    let a = c.args in
    let p = c.push-a in record {
      by_index = (λ k l v. row-1 a.text.now a.s a.e (rows_at a.text.now a.r a.events.now k l v) (view p.result p.new.events k l v)
          (marked c.mark.result _ _ (view a.r.st a.events.now k l v) c.mark.ensures (p.ensures.by_index k l v)) c.if-a-ne0.true);
      words_in_bounds = (p.ensures.words_in_bounds.0, p.ensures.words_in_bounds.2, λ z. absurd (c.if-a-ne0.true z));
    }

pub overflow_add-s-2 : goal.overflow_add-s-2
overflow_add-s-2 c = omega (arith, c.requires.1, c.requires.2)

pub cells-c-requires : goal.cells-c-requires
cells-c-requires c =
    let a = c.args in
    let p = c.push-a in (
      p.ensures.words_in_bounds.0,
      omega (arith, p.ensures.words_in_bounds.1 c.if-a-ne0.false),
      omega (arith, c.requires.1),
      c.requires.2,
      held-enter a.text.now a.r.align a.r.st p.result a.events.now p.new.events c.mark.result p.ensures.by_index c.if-a-ne0.false c.requires.3.held,
    )

pub returns-then-b-ne0 : goal.returns-then-b-ne0
returns-then-b-ne0 c =
    let a = c.args in
    let p = c.push-a in
    let q = c.cells-c in record {
      by_index = (λ k l v. row-2 a.text.now a.s a.e (rows_at a.text.now a.r a.events.now k l v) (view p.result p.new.events k l v)
          (marked c.mark.result _ _ (view a.r.st a.events.now k l v) c.mark.ensures (p.ensures.by_index k l v)) c.if-a-ne0.false a.r.st.words (length-take-le _ _ c.requires.0)
          (laid_of q.result q.new.events k l v) (q.ensures.by_index k l v) c.if-b-ne0.true);
      words_in_bounds = (q.ensures.words_in_bounds.0, same-on a.r.st p.result q.result.st p.ensures.words_in_bounds.2 q.ensures.words_in_bounds.2, λ z. absurd (c.if-b-ne0.true z));
    }

pub overflow_add-s-then-is_dropped : goal.overflow_add-s-then-is_dropped
overflow_add-s-then-is_dropped c = omega (arith, c.requires.1, c.requires.2)

pub separate-requires : goal.separate-requires
separate-requires c =
    let a = c.args in
    let p = c.push-a in
    let q = c.cells-c in
    let w = q.ensures.words_in_bounds.3 c.if-b-ne0.false in (
      q.ensures.words_in_bounds.0,
      omega (arith, w.words, p.ensures.words_in_bounds.1 c.if-a-ne0.false),
      w.ends,
      ready-as a.text.now a.r q.result.st (take a.r.st.words a.events.now) (take a.r.st.words q.new.events)
          (words-before a.r.st p.result a.events.now p.new.events q.new.events c.mark.result c.requires.0 (p.ensures.words_in_bounds.1 c.if-a-ne0.false) p.ensures.by_index c.if-a-ne0.false (q.ensures.words_in_bounds.1 c.if-b-ne0.false))
          c.requires.3,
    )

pub returns-then-is_dropped : goal.returns-then-is_dropped
returns-then-is_dropped c =
    let a = c.args in
    let p = c.push-a in
    let q = c.cells-c in
    let o = c.separate in record {
      by_index = (λ k l v. o.ensures.by_index k l v ∙ row-3 a.text.now a.s a.e (rows_at a.text.now a.r a.events.now k l v) (view p.result p.new.events k l v)
          (marked c.mark.result _ _ (view a.r.st a.events.now k l v) c.mark.ensures (p.ensures.by_index k l v)) c.if-a-ne0.false a.r.st.words (length-take-le _ _ c.requires.0)
          (laid_of q.result q.new.events k l v) (q.ensures.by_index k l v) c.if-b-ne0.false (sym c.is_dropped.ensures ∙ c.if-is_dropped.true));
      words_in_bounds = (o.ensures.words_in_bounds.0, same-on a.r.st p.result o.result.st p.ensures.words_in_bounds.2 (same-on p.result q.result.st o.result.st q.ensures.words_in_bounds.2 o.ensures.words_in_bounds.1), λ z. o.ensures.words_in_bounds.2);
    }

pub overflow_cast-e : goal.overflow_cast-e
overflow_cast-e c = omega (arith, c.requires.2)

pub overflow_cast-e-2 : goal.overflow_cast-e-2
overflow_cast-e-2 c = omega (arith, c.requires.2)

pub push-z-requires : goal.push-z-requires
push-z-requires c = c.cells-c.ensures.words_in_bounds.0

pub overflow_add-result : goal.overflow_add-result
overflow_add-result c = omega (arith, c.requires.0, c.well_formed.1.0.1)

pub returns : goal.returns
returns c =
    let a = c.args in
    let p = c.push-a in
    let q = c.cells-c in
    let o = c.push-z in
    let m = c.widest-al in
    let sep = sep_of a.text.now a.r.align in
    let w = q.ensures.words_in_bounds.3 c.if-b-ne0.false in
    let t = alike-sep a.text.now q.result.align m.result m.ensures.1 ∙ alike-sep a.text.now a.r.align q.result.align w.alike in
    let f : (k l v : List ℕ) → view o.result o.new.events k l v ≡ push_of (mark 2 13 a.e a.e 0) (view q.result.st q.new.events k l v) =
    λ k l v. marked c.mark-2.result _ _ (view q.result.st q.new.events k l v) c.mark-2.ensures (o.ensures.by_index k l v) in record {
      by_index = (λ k l v. ap (λ (x : List ℕ). rows (view o.result o.new.events k l v) x (a.r.st.words + 1) q.result.cells) t
          ∙ ap (λ (x : State). rows x sep (a.r.st.words + 1) q.result.cells) (f k l v)
          ∙ row-4 a.text.now a.s a.e (rows_at a.text.now a.r a.events.now k l v) (view p.result p.new.events k l v)
          (marked c.mark.result _ _ (view a.r.st a.events.now k l v) c.mark.ensures (p.ensures.by_index k l v)) c.if-a-ne0.false a.r.st.words (length-take-le _ _ c.requires.0)
          (laid_of q.result q.new.events k l v) (q.ensures.by_index k l v) c.if-b-ne0.false (sym c.is_dropped.ensures ∙ c.if-is_dropped.false));
      words_in_bounds = (
        o.ensures.words_in_bounds.0,
        same-on a.r.st p.result o.result p.ensures.words_in_bounds.2 (same-on p.result q.result.st o.result q.ensures.words_in_bounds.2 o.ensures.words_in_bounds.2),
        λ z. ready-row a.text.now (part_of a.text.now (a.s + 1) a.e) a.r.align a.r.st.words p.result.words (p.ensures.words_in_bounds.1 c.if-a-ne0.false) q.result o.result q.new.events o.new.events _ w q.ensures.words_in_bounds.0 f z
            m.result m.ensures.0 m.ensures.1 c.requires.3.ends,
      );
    }
