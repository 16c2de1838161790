use Prim.Native.Nat.{◌+◌, ◌*◌, ◌-◌}
use Rattle.tree.proofs.CycleLaws.{Loop}
use Rattle.tree.proofs.+block_blocks_container.Given as goal

abbrev pub decreases-block : goal.decreases-block
decreases-block l = 3 * l.left + 1

abbrev pub decreases-blocks : goal.decreases-blocks
decreases-blocks l = 3 * l.left + 2

abbrev pub decreases-container : goal.decreases-container
decreases-container l = 3 * l.left

abbrev pub invariant-blocks-loop-at : goal.invariant-blocks-loop-at
invariant-blocks-loop-at l = Loop l.text l.lim l.left l.top l.initial.lines l.initial.events l.initial.stack l.initial.lists l.initial.levels l.initial.a l.n l.lines l.events l.stack l.lists l.levels l.a l.at

abbrev pub decreases-blocks-loop-at : goal.decreases-blocks-loop-at
decreases-blocks-loop-at l = l.n - l.at
