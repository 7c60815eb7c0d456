use Rattle.std.proofs.Common.{length}
use Rattle.subcomputation.proofs.sub.+all_filled.Given as goal

abbrev pub decreases-all_filled : goal.decreases-all_filled
decreases-all_filled l = length l.slots.now
