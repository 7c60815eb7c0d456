use Rattle.std.proofs.Common.{drop}
use Rattle.recovery.specs.Plans.{carried_out}
use Rattle.recovery.proofs.Carrying.{IsCarrying}
use Rattle.recovery.proofs.plan.Plan.carry_out.Given as goal

abbrev pub invariant-loop-grant : goal.invariant-loop-grant
invariant-loop-grant l = IsCarrying (drop l.grant-index l.grant-items) l.settled l.subs
    (carried_out l.fn.self.settled l.fn.subs)
