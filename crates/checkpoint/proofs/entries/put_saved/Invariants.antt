use Rattle.std.proofs.Common.{take}
use Rattle.checkpoint.proofs.Listing.{IsWritten}
use Rattle.checkpoint.proofs.entries.put_saved.Given as goal

abbrev pub invariant-loop-index : goal.invariant-loop-index
invariant-loop-index l = IsWritten l.body l.fn.body (take l.index l.values)
