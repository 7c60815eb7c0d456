use Rattle.std.proofs.Common.{rules}
use Rattle.node_runner.proofs.house.HouseRun.follow_up.Goals as goal

pub publish-requires-clause-meaning : goal.publish-requires-clause-meaning
publish-requires-clause-meaning g c =
    let told = rw (← c.self.view_is) at c.requires in
    c.self.invariant.1 c.in-Some.outcome (λ agree. told agree c.in-Some.outcome (search rules))
