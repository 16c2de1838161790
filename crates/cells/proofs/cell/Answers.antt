use native.Mathlib.Omega.{arith}
use mathlib.Core.Path.{◌≡◌, ◌∙◌}
use mathlib.Core.List.{List}
use Prim.Native.Nat.{ℕ, ◌+◌}
use Rattle.events.specs.Events.{push_of}
use Rattle.events.specs.View.{view}
use Rattle.walk.specs.Leaf.{mark}
use Rattle.cells.proofs.HeldLaws.{marked, cell-1, cell-2, cell-3, cell-grown}
use Rattle.events.proofs.StateLaws.{same-on}
use Rattle.cells.proofs.cell.Goals as goal

pub push-a-requires : goal.push-a-requires
push-a-requires c = c.requires.0

pub returns-then-a-ne0 : goal.returns-then-a-ne0
returns-then-a-ne0 c =
    let a = c.args in
    let p = c.push-a in
    let f : (k l x : List ℕ) → view p.result p.new.events k l x ≡ push_of (mark 1 18 a.s a.s a.v) (view a.st a.events.now k l x) =
    λ k l x. marked c.mark.result _ _ (view a.st a.events.now k l x) c.mark.ensures (p.ensures.by_index k l x) in record { x_after = (λ text k l x e. cell-1 text a.v a.s a.p a.t e (view a.st a.events.now k l x) (view p.result p.new.events k l x) (f k l x) c.if-a-ne0.true); words_in_bounds = (p.ensures.words_in_bounds.0, (λ z. absurd (c.if-a-ne0.true z)), (λ z. absurd (c.if-a-ne0.true z)), p.ensures.words_in_bounds.2) }

pub inline-b-requires : goal.inline-b-requires
inline-b-requires c = c.push-a.ensures.words_in_bounds.0

pub returns-then-b-ne0 : goal.returns-then-b-ne0
returns-then-b-ne0 c =
    let a = c.args in
    let p = c.push-a in
    let q = c.inline-b in
    let f : (k l x : List ℕ) → view p.result p.new.events k l x ≡ push_of (mark 1 18 a.s a.s a.v) (view a.st a.events.now k l x) =
    λ k l x. marked c.mark.result _ _ (view a.st a.events.now k l x) c.mark.ensures (p.ensures.by_index k l x) in record { x_after = (λ text k l x e. cell-2 text a.v a.s a.p a.t e (view a.st a.events.now k l x) (view p.result p.new.events k l x) (f k l x) c.if-a-ne0.false (view q.result q.new.events k l x) (q.ensures.by_index k l x) c.if-b-ne0.true); words_in_bounds = (q.ensures.words_in_bounds.0, (λ z. absurd (c.if-b-ne0.true z)), (λ z. absurd (c.if-b-ne0.true z)), same-on a.st p.result q.result p.ensures.words_in_bounds.2 q.ensures.words_in_bounds.2) }

pub overflow_add-p : goal.overflow_add-p
overflow_add-p c = omega (arith, c.requires.3)

pub push-requires : goal.push-requires
push-requires c = c.inline-b.ensures.words_in_bounds.0

pub returns : goal.returns
returns c =
    let a = c.args in
    let p = c.push-a in
    let q = c.inline-b in
    let o = c.push in
    let f : (k l x : List ℕ) → view p.result p.new.events k l x ≡ push_of (mark 1 18 a.s a.s a.v) (view a.st a.events.now k l x) =
    λ k l x. marked c.mark.result _ _ (view a.st a.events.now k l x) c.mark.ensures (p.ensures.by_index k l x) in
    let g : (k l x : List ℕ) → view o.result o.new.events k l x ≡ push_of (mark 2 18 a.p (a.p + 1) a.v) (view q.result q.new.events k l x) =
    λ k l x. marked c.mark-2.result _ _ (view q.result q.new.events k l x) c.mark-2.ensures (o.ensures.by_index k l x) in record {
      x_after = (λ text k l x e. g k l x ∙ cell-3 text a.v a.s a.p a.t e (view a.st a.events.now k l x) (view p.result p.new.events k l x) (f k l x) c.if-a-ne0.false (view q.result q.new.events k l x) (q.ensures.by_index k l x) c.if-b-ne0.false);
      words_in_bounds = (
        o.ensures.words_in_bounds.0,
        (λ z. omega (arith, o.ensures.words_in_bounds.1 z, q.ensures.words_in_bounds.1 c.if-b-ne0.false, p.ensures.words_in_bounds.1 c.if-a-ne0.false)),
        (λ z. cell-grown a.st p.result q.result o.result a.events.now p.new.events q.new.events o.new.events a.v a.s a.t.start a.t.end a.p f q.ensures.by_index g c.if-a-ne0.false c.if-b-ne0.false z),
        same-on a.st p.result o.result p.ensures.words_in_bounds.2 (same-on p.result q.result o.result q.ensures.words_in_bounds.2 o.ensures.words_in_bounds.2),
      );
    }
