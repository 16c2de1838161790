-- What a result says as a record of numbers tells which result it is. Assumes nothing.
use mathlib.Core.Path.{◌≡◌, refl, sym, ap}
use Rattle.std.specs.Prelude.{Result, Ok, Err}
use Rattle.refusals.proofs.NumberLaws.{number-one, number-some}
use Rattle.refusals.specs.declared.Refused.{Refused}
use Rattle.records.specs.Moved.{Moved, told}
use Rattle.records.specs.declared.Done.{Done}

pub told-one : (r s : Result Done Refused) → told r ≡ told s → r ≡ s
told-one (Ok d) (Ok f) e =
    let p = ap (λ (m : Moved). m.position) e in
    let c = ap (λ (m : Moved). m.count) e in
    let q : d ≡ f = rw (p, c) refl in
    ap Ok q
told-one (Ok d) (Err w) e = absurd (number-some w.why (sym (ap (λ (m : Moved). m.number) e)))
told-one (Err v) (Ok f) e = absurd (number-some v.why (ap (λ (m : Moved). m.number) e))
told-one (Err v) (Err w) e =
    let n = number-one v.why w.why (ap (λ (m : Moved). m.number) e) in
    let p = ap (λ (m : Moved). m.position) e in
    let q : v ≡ w = rw (n, p) refl in
    ap Err q
