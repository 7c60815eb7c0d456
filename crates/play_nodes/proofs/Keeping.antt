-- A node stays at its job.
use Rattle.std.proofs.Common.{◌≡◌, Result, Ok, Err, ap}
use Rattle.node_steps.specs.Meeting.{Carries, Meets, NodeOn}
use Rattle.node_steps.specs.Steps.{Answer, Ignored, Refused, Does, Forgets}
use Rattle.node_steps.specs.declared.error.NodeError.{NodeError}
use Rattle.node_steps.specs.declared.error.NodeError.TheVariants as error
use Rattle.node_steps.specs.declared.parts.Step.{Step}

carried : (a : Answer) (step : Step) (before after : NodeOn) → Carries a step before after → after.job ≡ before.job
carried Ignored step before after is = ap (λ n. n.job) is.1
carried (Refused e) step before after is = absurd is
carried (Does s) step before after is = ap (λ n. n.job) is.1
carried (Forgets m) step before after is = ap (λ n. n.job) is.1

pub keeps_job : (a : Answer) (r : Result Step NodeError) (before after : NodeOn) → Meets a r before after
    → after.job ≡ before.job
keeps_job a (Ok step) before after is = carried a step before after is
keeps_job a (Err error.Memory) before after is = ap (λ n. n.job) is
keeps_job a (Err (error.Bytes fault)) before after is = ap (λ n. n.job) is.1
keeps_job a (Err error.Stale) before after is = ap (λ n. n.job) is.1
keeps_job a (Err error.NoValue) before after is = ap (λ n. n.job) is.1
keeps_job a (Err error.Pending) before after is = ap (λ n. n.job) is.1
keeps_job a (Err error.TooBig) before after is = ap (λ n. n.job) is.1
keeps_job a (Err error.HopSpent) before after is = ap (λ n. n.job) is.1
keeps_job a (Err error.NoHeir) before after is = ap (λ n. n.job) is.1
keeps_job a (Err error.NotJoined) before after is = ap (λ n. n.job) is.1
keeps_job a (Err error.Busy) before after is = ap (λ n. n.job) is.1
keeps_job a (Err error.Spent) before after is = ap (λ n. n.job) is.1
