use Rattle.std.proofs.Common.{◌≡◌, ◌∙◌, ap, sym, ◌+◌, ◌==◌, length, length-drop, position, arith}
use Rattle.rows.specs.Rows.{ticks_of}
use Rattle.rows.proofs.RowLaws.{from-here, opens, closes, stays-open, tick-at, tick-none}
use Rattle.rows.proofs.past_run.Goals as goal

pub loop-t-init : goal.loop-t-init
loop-t-init c =
    let row = c.args.row.now in
    let p = from-here row c.args.i in
    let o = opens row c.args.i c.ticks-n.result c.requires.0 c.requires.1 (c.ticks-n.ensures.0 ∙ ap ticks_of p) in
    record { past = omega (arith, o.0); in_row = omega (arith, c.ticks-n.ensures.1, length-drop c.args.i row, ap length p); open_run = o.0; ahead = o.1 }

pub returns-then-m-n : goal.returns-then-m-n
returns-then-m-n c =
    let row = c.args.row.now in
    let l = c.loop-t in
    let n = c.ticks-n.result in
    let t = c.in-Some.t in
    let f = tick-at row l.k l.invariant.in_row n (λ q. omega (arith, l.invariant.open_run)) t (ap (position (λ b. b == 96)) (sym (from-here row l.k)) ∙ sym c.next_tick.ensures ∙ c.in-Some.is) in
    let p = from-here row (l.k + t) in
    let e = c.ticks-m.ensures.0 ∙ ap ticks_of p in (
      omega (arith, l.invariant.past),
      omega (arith, c.ticks-m.ensures.1, f.0, length-drop (l.k + t) row, ap length p),
      l.invariant.ahead ∙ f.2 ∙ closes row (l.k + t) c.ticks-m.result f.0 f.1 e n c.if-m-n.true,
    )

pub loop-t-smaller : goal.loop-t-smaller
loop-t-smaller c =
    let row = c.args.row.now in
    let l = c.loop-t in
    let n = c.ticks-n.result in
    let t = c.in-Some.t in
    let z : n ≡ 0 → ⊥ = λ q. omega (arith, l.invariant.open_run) in
    let f = tick-at row l.k l.invariant.in_row n z t (ap (position (λ b. b == 96)) (sym (from-here row l.k)) ∙ sym c.next_tick.ensures ∙ c.in-Some.is) in
    let p = from-here row (l.k + t) in
    let e = c.ticks-m.ensures.0 ∙ ap ticks_of p in
    let s = stays-open row (l.k + t) c.ticks-m.result f.0 f.1 e n z c.if-m-n.false in
    omega (arith, f.0, s.0)

pub loop-t-preserved : goal.loop-t-preserved
loop-t-preserved c =
    let row = c.args.row.now in
    let l = c.loop-t in
    let n = c.ticks-n.result in
    let t = c.in-Some.t in
    let z : n ≡ 0 → ⊥ = λ q. omega (arith, l.invariant.open_run) in
    let f = tick-at row l.k l.invariant.in_row n z t (ap (position (λ b. b == 96)) (sym (from-here row l.k)) ∙ sym c.next_tick.ensures ∙ c.in-Some.is) in
    let p = from-here row (l.k + t) in
    let e = c.ticks-m.ensures.0 ∙ ap ticks_of p in
    let s = stays-open row (l.k + t) c.ticks-m.result f.0 f.1 e n z c.if-m-n.false in
    record {
      past = omega (arith, l.invariant.past);
      in_row = omega (arith, c.ticks-m.ensures.1, f.0, length-drop (l.k + t) row, ap length p);
      open_run = l.invariant.open_run;
      ahead = l.invariant.ahead ∙ f.2 ∙ s.1;
    }

pub returns : goal.returns
returns c =
    let row = c.args.row.now in
    let l = c.loop-t in
    l.invariant.ahead ∙ tick-none row l.k l.invariant.in_row c.ticks-n.result (λ q. omega (arith, l.invariant.open_run)) (ap (position (λ b. b == 96)) (sym (from-here row l.k)) ∙ sym c.next_tick.ensures ∙ c.in_default.is)
