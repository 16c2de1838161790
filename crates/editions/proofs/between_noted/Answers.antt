use native.Mathlib.Omega.{arith}
use mathlib.Core.Path.{◌≡◌, sym, ap, ◌∙◌}
use Prim.Native.Nat.{ℕ, ◌+◌, ◌-◌}
use lib.ListN.{take, drop}
use lib.Seq.{length-take-le}
use Rattle.tops.specs.Places.{starts_at}
use Rattle.editions.specs.Editions.{changed_of}
use Rattle.editions.proofs.between_noted.Goals as goal

pub slice_bounds-between-end : goal.slice_bounds-between-end
slice_bounds-between-end c = sym (length-take-le _ c.args.places.now (omega (arith, c.requires)))

pub returns : goal.returns
returns c =
    let a = c.args in
    let e : a.m + a.n - a.m ≡ a.n = omega arith in
    c.between.ensures ∙ ap (λ (k : ℕ). changed_of a.older.now a.newer.now (starts_at a.older.now (take a.m a.places.now)) (starts_at a.newer.now (take k (drop a.m a.places.now)))) e
