use Rattle.std.proofs.Common.{◌≡◌, ◌++◌, map}
use Rattle.clearinghouse.specs.House.{member_of}
use Rattle.clearinghouse.proofs.book.Book.roster.Given as goal

abbrev pub invariant-loop-worker : goal.invariant-loop-worker
invariant-loop-worker l = l.members ++ map member_of l.worker-iterator ≡ map member_of l.self.workers
