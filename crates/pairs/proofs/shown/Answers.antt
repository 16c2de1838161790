use Rattle.std.proofs.Common.{sym, arith, ap, ◌∙◌, refl, ◌≡◌, rules, None, ◌-◌, ◌*◌, drop}
use Rattle.sets.specs.Layout.{Listed, element_in}
use Rattle.sets.specs.Words.{listed_as}
use Rattle.pairs.proofs.ShowLaws.{shows-class, shows-further, shows-none, shows-value}
use Rattle.pairs.proofs.shown.Goals as goal

pub returns-then-rank-ne0 : goal.returns-then-rank-ne0
returns-then-rank-ne0 c =
    let a = c.args in
    shows-class a.bytes.now (listed_as a.e) (element_in (drop ((a.rank - 1) * 5) a.elements.now)) a.rank (sym c.if-has_key.ensures) c.if-rank-ne0.true

pub returns-then-has_key : goal.returns-then-has_key
returns-then-has_key c =
    let a = c.args in
    rw c.into.ensures (shows-further a.bytes.now (listed_as a.e) (element_in (drop ((a.rank - 1) * 5) a.elements.now)) a.rank (sym c.if-has_key.ensures) c.if-rank-ne0.false)

pub returns-in_err-last : goal.returns-in_err-last
returns-in_err-last c =
    let a = c.args in
    let r : c.from_residual.result ≡ None = search rules in
    rw r (shows-none a.bytes.now (listed_as a.e) (element_in (drop ((a.rank - 1) * 5) a.elements.now)) a.rank (sym c.if-has_key.ensures) (omega arith))

pub returns : goal.returns
returns c =
    let a = c.args in
    let p = c.in_ok-last.ensures in
    let y : Listed = element_in (drop ((a.rank - 1) * 5) a.elements.now) in
    let q : listed_as c.element_at-value.result ≡ y = c.element_at-value.ensures ∙ rw p.1 refl in
    let f = ap (λ (x : Listed). x.first) q in
    let l = ap (λ (x : Listed). x.past) q in
    rw (f, l) (shows-value a.bytes.now (listed_as a.e) y a.rank (sym c.if-has_key.ensures) (λ z. omega (arith, p.0, z)))
