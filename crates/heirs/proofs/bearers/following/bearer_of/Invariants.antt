use Rattle.std.proofs.Common.{◌+◌, ◌-◌, length}
use Rattle.heirs.proofs.Following.{IsOnTheWay}
use Rattle.heirs.proofs.bearers.following.bearer_of.Given as goal

abbrev pub invariant-loop-step : goal.invariant-loop-step
invariant-loop-step l = IsOnTheWay l.members l.fn.worker l.mark l.at (length l.members + 1 - l.step)
