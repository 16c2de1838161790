use native.Mathlib.Omega.{arith}
use mathlib.Core.Path.{◌≡◌, ap, ◌∙◌}
use mathlib.Core.List.{List}
use Prim.Native.Nat.{ℕ, ◌≤◌}
use lib.ListN.{length, take}
use lib.Seq.{length-take-le}
use native.Mathlib.Nat.{pos_of_ne-zero}
use Rattle.trim.specs.Trim.{part_of}
use Rattle.events.specs.View.{view}
use Rattle.walk.specs.Table.{rows}
use Rattle.cells.specs.Held.{rows_at}
use Rattle.cells.proofs.RowLaws.{alike-sep}
use Rattle.cells.proofs.HeadLaws.{drop-first, drop-after}
use Rattle.cells.proofs.EndLaws.{fresh, ready-first, ready-head, unaligned}
use Rattle.cells.proofs.separate.Goals as goal

pub cut-kept-requires : goal.cut-kept-requires
cut-kept-requires c = c.requires.1

pub returns-then-r-eq0 : goal.returns-then-r-eq0
returns-then-r-eq0 c =
    let a = c.args in
    let q = c.cut-kept in record { by_index = (λ k l v. drop-first (part_of a.text.now a.s a.e) a.here (rows_at a.text.now a.r a.events.now k l v) (view q.result a.events.now k l v) (q.ensures.0 a.events.now k l v) c.if-r-eq0.true); words_in_bounds = (omega (arith, q.ensures.1, c.requires.0, c.requires.1), q.ensures.2, ready-first a.text.now a.s a.e a.n q.result _ c.requires.2) }

pub overflow_sub-r : goal.overflow_sub-r
overflow_sub-r c = pos_of_ne-zero c.if-r-eq0.false

pub head-align-requires : goal.head-align-requires
head-align-requires c =
    let a = c.args in
    let q = c.cut-kept in
    let l : length (take a.here a.events.now) ≡ a.here = length-take-le a.here a.events.now (omega (arith, c.requires.0, c.requires.1)) in (
      omega (arith, q.ensures.1, c.requires.0, c.requires.1),
      omega (arith, l, q.ensures.1, (c.requires.3.last c.if-r-eq0.false).0),
      c.requires.2,
      unaligned a.text.now a.r a.here q.result.words a.events.now q.ensures.1 c.requires.3 c.if-r-eq0.false,
    )

pub returns : goal.returns
returns c =
    let a = c.args in
    let q = c.cut-kept in
    let h = c.head-align in
    let l : length (take a.here a.events.now) ≡ a.here = length-take-le a.here a.events.now (omega (arith, c.requires.0, c.requires.1)) in
    let w : q.result.words ≤ length h.new.events = omega (arith, q.ensures.1, c.requires.0, c.requires.1, h.auto.events) in
    let m : length (take q.result.words h.new.events) ≡ q.result.words = length-take-le q.result.words h.new.events w in record {
      by_index = (λ k l v. ap (λ (x : List ℕ). rows (view q.result h.new.events k l v) x a.r.last a.r.cells) (alike-sep a.text.now (fresh a.s a.e a.n) h.result h.ensures.held.1)
          ∙ drop-after (part_of a.text.now a.s a.e) a.here (rows_at a.text.now a.r a.events.now k l v) (view q.result a.events.now k l v) (q.ensures.0 a.events.now k l v) c.if-r-eq0.false (view q.result h.new.events k l v) (h.ensures.by_index k l v));
      words_in_bounds = (w, q.ensures.2, ready-head a.text.now a.s a.e a.n a.r q.result h.result _ c.requires.2 h.ensures.held.0 h.ensures.held.1 (omega (arith, l, m, q.ensures.1, (c.requires.3.last c.if-r-eq0.false).0)) h.ensures.held.2);
    }
