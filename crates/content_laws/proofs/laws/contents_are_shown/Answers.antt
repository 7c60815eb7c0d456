use Rattle.content_laws.proofs.Existing.{content_shown}
use Rattle.content_laws.proofs.laws.contents_are_shown.Goals as goal

pub returns : goal.returns
returns c = content_shown
