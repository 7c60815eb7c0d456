use Rattle.agreement_laws.proofs.Turning.{granted_agrees}
use Rattle.agreement_laws.proofs.laws.granted_content_agrees.Goals as goal

pub returns : goal.returns
returns c = granted_agrees
