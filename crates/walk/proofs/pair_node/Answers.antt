use Prim.Native.Nat.{ℕ, ◌+◌}
use mathlib.Core.Path.{ap, ◌∙◌}
use Rattle.walk.proofs.LineLaws.{paired}
use Rattle.walk.proofs.pair_node.Goals as goal

pub offset-from-requires : goal.offset-from-requires
offset-from-requires c = rw c.from_of.ensures c.requires.from

pub offset-to-requires : goal.offset-to-requires
offset-to-requires c = rw c.to_of.ensures c.requires.to

pub returns : goal.returns
returns c =
    let a = c.args in
    paired a.m a.line a.n c.offset-from.result c.offset-to.result c.node.result
    (c.offset-from.ensures ∙ ap (λ (k : ℕ). a.line + k) c.from_of.ensures) (c.offset-to.ensures ∙ ap (λ (k : ℕ). a.line + k) c.to_of.ensures) c.node.ensures
