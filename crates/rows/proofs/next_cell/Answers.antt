use Rattle.std.proofs.Common.{◌∙◌, sym, refl, arith}
use Rattle.rows.specs.Rows.{cell_of}
use Rattle.rows.proofs.RowLaws.{turn-pipe, turn-hidden, turn-plain, tick-left}
use Rattle.rows.proofs.next_cell.Goals as goal

pub loop-k-init : goal.loop-k-init
unfolding cell_of
loop-k-init c = refl

pub returns-in-124 : goal.returns-in-124
returns-in-124 c =
    let e = c.in-Some.ensures in
    sym (c.loop-k.invariant ∙ e.3 ∙ turn-pipe c.args.row.now 0 c.in-Some.k e.1 (λ q. omega (arith, c.in-124.is, q)) refl c.in-124.is)

pub past_run-requires : goal.past_run-requires
past_run-requires c = let e = c.in-Some.ensures in (e.1, tick-left _ e.2 (λ q. omega (arith, q)) (λ q. omega (arith, q)))

pub loop-k-preserved-in-92 : goal.loop-k-preserved-in-92
loop-k-preserved-in-92 c =
    let e = c.in-Some.ensures in
    c.loop-k.invariant ∙ e.3 ∙ turn-hidden c.args.row.now 0 c.in-Some.k e.1 (λ q. omega (arith, q, c.in-92.is)) refl (λ q. omega (arith, q, c.in-92.is)) (sym c.if-hides.ensures)

pub loop-k-preserved-in-92-2 : goal.loop-k-preserved-in-92-2
loop-k-preserved-in-92-2 c =
    let e = c.in-Some.ensures in
    c.loop-k.invariant ∙ e.3 ∙ turn-plain c.args.row.now 0 c.in-Some.k e.1 (λ q. omega (arith, q, c.in-92.is)) refl (λ q. omega (arith, q, c.in-92.is)) (sym c.if-hides.ensures)
