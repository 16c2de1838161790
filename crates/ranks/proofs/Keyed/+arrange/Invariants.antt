use Rattle.std.proofs.Common.{length}
use Rattle.ranks.proofs.Keyed.+arrange.Given as goal

abbrev pub decreases-arrange : goal.decreases-arrange
decreases-arrange l = length l.places.now
