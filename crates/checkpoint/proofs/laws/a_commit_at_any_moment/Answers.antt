use Rattle.checkpoint.proofs.Kept.{before_or_after}
use Rattle.checkpoint.proofs.laws.a_commit_at_any_moment.Goals as goal

pub returns : goal.returns
returns c = before_or_after
