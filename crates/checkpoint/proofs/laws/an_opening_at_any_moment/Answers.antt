use Rattle.checkpoint.proofs.Kept.{kept_all_along}
use Rattle.checkpoint.proofs.laws.an_opening_at_any_moment.Goals as goal

pub returns : goal.returns
returns c = kept_all_along
