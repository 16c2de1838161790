use native.Mathlib.Omega.{arith}
use mathlib.Core.Path.{sym, ◌∙◌}
use lib.ListN.{drop}
use lib.Seq.{length-take-le}
use Rattle.pairs.proofs.ShowLaws.{ranked-count, ranked-ready, counted}
use Rattle.pairs.proofs.sorted.Goals as goal

pub slice_bounds-rank-end-2 : goal.slice_bounds-rank-end-2
slice_bounds-rank-end-2 c = sym (length-take-le _ c.args.places.now (omega (arith, c.requires.1)))

pub slice_bounds-rank-end-4 : goal.slice_bounds-rank-end-4
slice_bounds-rank-end-4 c = sym (length-take-le _ c.args.spare.now (omega (arith, c.requires.2)))

pub rank-requires : goal.rank-requires
rank-requires c =
    let p = length-take-le c.args.n c.args.places.now c.requires.1 in
    let s = length-take-le c.args.n c.args.spare.now c.requires.2 in
    (p ∙ sym s, omega (arith, s, c.requires.0))

pub slice_bounds-show_all-end-2 : goal.slice_bounds-show_all-end-2
slice_bounds-show_all-end-2 c = ranked-count c.args.bytes.now c.args.elements.now c.args.spare.now c.rank.new.ranks (drop c.args.n c.args.spare.now) c.args.n c.requires.2 c.rank.auto.ranks

pub show_all-requires : goal.show_all-requires
show_all-requires c = ranked-ready c.args.bytes.now c.args.elements.now c.args.spare.now c.rank.new.ranks (drop c.args.n c.args.spare.now) c.args.n c.requires.2 c.rank.auto.ranks c.requires.0 c.rank.ensures

pub returns : goal.returns
returns c = counted c.args.bytes.now c.args.elements.now c.show_all.new.elements c.show_all.result c.args.n _ (ranked-count c.args.bytes.now c.args.elements.now c.args.spare.now c.rank.new.ranks (drop c.args.n c.args.spare.now) c.args.n c.requires.2 c.rank.auto.ranks) c.show_all.ensures
