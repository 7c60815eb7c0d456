use Rattle.node_steps.specs.Meeting.{IsNode}
use Rattle.node_steps.proofs.node.JobNode.law_roster_rises.Goals as goal

pub returns : goal.returns
returns c =
    let is : IsNode c.args.self.now = rw (← c.self.view_is) c.self.invariant in
    record {
      member = λ r at. rw at at is.rising;
      leaving = λ r heir at. rw at at is.rising;
    }
