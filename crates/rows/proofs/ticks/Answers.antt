use Rattle.std.proofs.Common.{rules, tests, ◌∙◌, ap, sym, not, length, take, arith, length-take}
use lib.Dec.{eqb}
use Rattle.std.specs.List.{prefix_len}
use Rattle.std.specs.Option.{unwrap_or}
use Rattle.std.proofs.lemmas.List.Folds.{length-prefix_len}
use Rattle.std.proofs.lemmas.Iterator.{YieldsList-from_slice, YieldsList-from_take}
use Rattle.std.proofs.lemmas.Iterator.Search.{YieldsList-from_take_while}
use Rattle.std.proofs.lemmas.Iterator.Consumers.{YieldsList-at, count_from_yields_List}
use Rattle.rows.proofs.RowLaws.{ticks-reach, ticks-first, reach-within, first-or_end}
use Rattle.rows.proofs.ticks.Goals as goal

pub returns-then-n-lt16 : goal.returns-then-n-lt16
returns-then-n-lt16 c =
    let row = c.args.row.now in
    let few = take 16 row in
    let s = YieldsList-from_take 16 (YieldsList-at c.take.ensures.source (YieldsList-from_slice row c.iter.ensures.rest)) c.take.ensures.count in
    let k = count_from_yields_List _ c.count-n.result c.count-n.ensures.ran (YieldsList-from_take_while _ (λ b. eqb b 96) (YieldsList-at c.take_while.ensures.source s) c.take_while.ensures.closure c.take_while.ensures.done (λ x b q k. search (rules, tests))) in
    let n = k ∙ length-prefix_len (λ b. eqb b 96) few in
    let e = n ∙ reach-within (λ b. eqb b 96) 16 row (omega (arith, n, c.if-n-lt16.true)) in
    (e ∙ sym (ticks-reach row), omega (arith, e, length-prefix_len (λ b. eqb b 96) row, length-take (prefix_len (λ b. eqb b 96) row) row))

pub returns : goal.returns
returns c =
    let row = c.args.row.now in
    let e = c.find.ensures (λ b. not (eqb b 96)) (λ x r k. search (rules, tests)) in
    let f = first-or_end (λ b. not (eqb b 96)) row c.unwrap_or.result (c.unwrap_or.ensures ∙ ap (λ o. unwrap_or o (length row)) e) in
    (f.1 ∙ sym (ticks-first row), f.0)
