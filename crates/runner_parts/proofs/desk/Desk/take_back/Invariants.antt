use Rattle.std.proofs.Common.{◌≡◌}
use Rattle.runner_parts.proofs.desk.Desk.take_back.Given as goal

abbrev pub invariant-loop : goal.invariant-loop
invariant-loop l = l.self.home ≡ l.fn.self.home
