use Rattle.std.proofs.Common.{rules, tests, ◌∙◌, ap, sym, not, length}
use lib.Dec.{eqb}
use Rattle.std.specs.Option.{unwrap_or}
use Rattle.rows.specs.Rows.{dash_end}
use Rattle.rows.proofs.RowLaws.{dashes-reach, first-or_end}
use Rattle.rows.proofs.dash_run.Goals as goal

pub returns : goal.returns
returns c =
    let s = c.args.s.now in
    let e = c.find.ensures (λ b. not (eqb b 45)) (λ x r k. search (rules, tests)) in
    let f = first-or_end (λ b. not (eqb b 45)) s c.unwrap_or.result (c.unwrap_or.ensures ∙ ap (λ o. unwrap_or o (length s)) e) in
    (f.0, dashes-reach s ∙ ap (dash_end s) (sym f.1))
