use Rattle.std.proofs.Common.{◌≡◌, ◌++◌, map}
use Rattle.recovery.specs.Plans.{stop_of}
use Rattle.recovery.proofs.plan.Draft.drop_sub.Given as goal

abbrev pub invariant-loop-record : goal.invariant-loop-record
invariant-loop-record l = (l.self.stopped ++ map stop_of l.record-iterator
    ≡ l.fn.self.stopped ++ map stop_of l.sub.content.records) × (l.self.settled ≡ l.fn.self.settled)
    × (l.self.again ≡ l.fn.self.again)
