use Rattle.std.proofs.Common.{◌∙◌, ap, sym, ◌≤◌, length, position, arith}
use Rattle.rows.specs.Rows.{is_sign}
use Rattle.rows.proofs.RowLaws.{from-here, sign-at, sign-none, sign-second, turn_end}
use Rattle.rows.proofs.next_sign.Goals as goal

pub returns-in_err-rest : goal.returns-in_err-rest
returns-in_err-rest c = let l : length c.args.row.now ≤ c.args.i = grind (arith, c.in_err-rest.ensures.lookup) in rw c.from_residual.ensures (turn_end c.args.row.now 0 c.args.i l)

pub returns-in-len2-up : goal.returns-in-len2-up
returns-in-len2-up c =
    let row = c.args.row.now in
    let h = c.in_ok-rest.ensures.lookup.0 in
    let f = sign-second row c.in_ok-rest.rest.now c.args.i (h.2 ∙ from-here row c.args.i) c.in-len2-up.len_at_least (sym c.is_sign.ensures ∙ c.if-is_sign.false) (sym c.is_sign-2.ensures ∙ c.if-is_sign-2.true) in
    (omega arith, f.0, f.1, f.2)

pub returns-in_err-find-in_default : goal.returns-in_err-find-in_default
returns-in_err-find-in_default c =
    let row = c.args.row.now in
    let h = c.in_ok-rest.ensures.lookup.0 in
    let e = ap (position is_sign) (sym (from-here row c.args.i) ∙ sym h.2) ∙ sym (c.find.ensures is_sign (λ x r p. p)) in
    rw c.from_residual-in_err-find-in_default.ensures (sign-none row c.args.i h.0 (e ∙ c.in_err-find-in_default.was))

pub overflow_add-result-in_default : goal.overflow_add-result-in_default
overflow_add-result-in_default c =
    let row = c.args.row.now in
    let h = c.in_ok-rest.ensures.lookup.0 in
    let e = ap (position is_sign) (sym (from-here row c.args.i) ∙ sym h.2) ∙ sym (c.find.ensures is_sign (λ x r p. p)) in
    let f = sign-at row c.args.i h.0 c.in_ok-find-in_default.field-0 (e ∙ c.in_ok-find-in_default.was) in
    omega (arith, f.0)

pub returns-in_ok-find-in_default : goal.returns-in_ok-find-in_default
returns-in_ok-find-in_default c =
    let row = c.args.row.now in
    let h = c.in_ok-rest.ensures.lookup.0 in
    let e = ap (position is_sign) (sym (from-here row c.args.i) ∙ sym h.2) ∙ sym (c.find.ensures is_sign (λ x r p. p)) in
    let f = sign-at row c.args.i h.0 c.in_ok-find-in_default.field-0 (e ∙ c.in_ok-find-in_default.was) in
    (omega arith, f.0, f.1, f.2)
