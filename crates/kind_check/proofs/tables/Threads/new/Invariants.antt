use Rattle.std.proofs.Common.{◌≡◌, take}
use Rattle.kind_check.specs.Places.{thread_names}
use Rattle.kind_check.proofs.tables.Threads.new.Given as goal

abbrev pub invariant-loop-thread : goal.invariant-loop-thread
invariant-loop-thread l = l.names ≡ thread_names (take l.thread-index l.all)
