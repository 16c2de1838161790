-- An answer's numbers tell which answer it is. Assumes nothing.
use mathlib.Core.Path.{◌≡◌, refl, sym, ap}
use Rattle.std.specs.Prelude.{Result, Ok, Err}
use Rattle.refusals.proofs.NumberLaws.{number-one, number-some}
use Rattle.refusals.specs.declared.Refused.{Refused}
use Rattle.sets.specs.Opened.{Answer}
use Rattle.sets.specs.Words.{answered}
use Rattle.sets.specs.declared.Opened.{Opened}

pub answered-one : (r s : Result Opened Refused) → answered r ≡ answered s → r ≡ s
answered-one (Ok o) (Ok u) e =
    let p = ap (λ (a : Answer). a.position) e in
    let c = ap (λ (a : Answer). a.count) e in
    let q : o ≡ u = rw (p, c) refl in
    ap Ok q
answered-one (Ok o) (Err w) e = absurd (number-some w.why (sym (ap (λ (a : Answer). a.number) e)))
answered-one (Err v) (Ok u) e = absurd (number-some v.why (ap (λ (a : Answer). a.number) e))
answered-one (Err v) (Err w) e =
    let n = number-one v.why w.why (ap (λ (a : Answer). a.number) e) in
    let p = ap (λ (a : Answer). a.position) e in
    let q : v ≡ w = rw (n, p) refl in
    ap Err q
